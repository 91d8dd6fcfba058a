-- Each step of a slot keeps what recovery stands on, and so at every crash recovery gives what was committed.
use Rattle.std.proofs.Common.{◌≡◌, ◌∙◌, ◌≤◌, ◌+◌, ◌∷◌, Bool, List, None, Option, Some, [], arith, false, inl, inr, length, refl, subst, sym, true, ℕ}
use Rattle.std.proofs.lemmas.Bool.{and_parts, cases_Bool, eqb-true, false≢true, ltb-false, not-false, not-true, or_parts}
use Rattle.std.specs.Prelude.{if◌then◌else◌, is_none, is_some, map, nat_lt, not, take, ◌&&◌, ◌==◌, ◌||◌}
use Rattle.xt_base.proofs.FormLemmas.{form_is}
use Rattle.xt_base.proofs.SoundCalls.{sound_call}
use Rattle.xt_base.proofs.SoundJobs.{sound_flush}
use Rattle.xt_base.proofs.SoundSteps.{is_none_not, passes_first, second_false, sound_begin, sound_end, sound_mount, sound_posted}
use Rattle.xt_base.specs.Alone.{Turn, alone, call, called, goes_on, is_okay, mount_refusals, mounted_new, on_mount, shown, turn, unless_refused, with_mount}
use Rattle.xt_base.specs.Calls.{Outcome, alone_with, first_of, gives, is_unmount}
use Rattle.xt_base.specs.Form.{Form, form_of, is_size}
use Rattle.xt_base.specs.Jobs.{begin, begun, by_number, eligible, end, end_of, end_offers, failed, finished, fits_pieces, fits_plan, flight_pieces, flush, flush_offers, flush_plan, flushed, is_begun, is_ckpt, is_ok, is_outstanding, is_owed_as, is_waiting, landed, next_pieces, posted, unflushed}
use Rattle.xt_base.specs.Maps.{has}
use Rattle.xt_base.specs.Order.{has_size, is_there, mount_is, of_life, suits}
use Rattle.xt_base.specs.Owed.{is_owed}
use Rattle.xt_base.specs.Sound.{IsSound}
use Rattle.xt_base.specs.State.{Flight, Lone, State, empty, mount_of}
use Rattle.xt_base.specs.declared.names.JobKind.{JobKind}
use Rattle.xt_base.specs.declared.names.JobName.{JobName}
use Rattle.xt_base.specs.declared.sizes.TheConstants.{LEAST_LOG, MOST_BLOCKS, MOST_LOG}
use Rattle.xt_base.specs.declared.steps.Answer.{Answer}
use Rattle.xt_base.specs.declared.steps.Errno.{Errno}
use Rattle.xt_base.specs.declared.steps.Errno.TheVariants.{Busy, Invalid, NoSpace}
use Rattle.xt_base.specs.declared.steps.HomeAnswers.{HomeAnswers}
use Rattle.xt_base.specs.declared.steps.LogAnswers.{LogAnswers}
use Rattle.xt_base.specs.declared.steps.Reply.TheVariants.{Failed, Landed, Nothing, Okay, Refused}
use Rattle.xt_base.specs.declared.steps.Request.{Request}
use Rattle.xt_base.specs.declared.steps.Step.{Step}
use Rattle.xt_base.specs.declared.steps.Step.TheVariants.{Begin, Call, End, Flush, Mount, Peek, Post, Show, Take}
use Rattle.xt_recovery.proofs.InvariantJobs.{keeps_failed, keeps_flown, keeps_flushed, keeps_landed}
use Rattle.xt_recovery.proofs.CrashTheorems.{keeps_mount}
use Rattle.xt_recovery.proofs.CutLemmas.{keeps_cut, matches_same}
use Rattle.xt_recovery.proofs.LogLemmas.{recovers}
use Rattle.xt_recovery.proofs.HomeLemmas.{flushed_home}
use Rattle.xt_recovery.proofs.LiveCalls.{keeps_call, lives_jobs}
use Rattle.xt_recovery.proofs.Invariant.{KeepsInvariant}
use Rattle.xt_recovery.specs.DiskSteps.{Agree, IsHomeAfterStep, IsLogCut, MakesForm, ReadsHome, StepReadsHome, disks_after}
use Rattle.xt_recovery.specs.Disks.{Disks, disks_at_begin, disks_at_end, disks_begun, disks_failed, disks_landed, flight_of, new_disks}
use Rattle.xt_recovery.specs.Flush.{IsHomeAfter}
use Rattle.xt_recovery.specs.Log.{Image, recovered_image, texts_from}
use Rattle.xt_base.specs.Sized.{IsSized}
use Rattle.xt_base.proofs.SizedSteps.{sized_begin, sized_call, sized_end, sized_flush, sized_mount, sized_posted}

-- ---- jobs over their definitions
-- other jobs
keeps_jobs : (d : Disks) (s : State) (j : _) → KeepsInvariant d s → KeepsInvariant d (record s { jobs = j })
keeps_jobs d s j c = record { stands = c.stands; form = c.form; live = lives_jobs d s j s.frozen c.live }

pub none_flight : (o : Option Flight) → is_none o ≡ true → o ≡ None
none_flight None h = refl
none_flight (Some f) h = absurd (false≢true h)

begun_if : (shut : Bool) (d : Disks) (m : State) → is_some m.shut ≡ shut → m.items.flight ≡ None → IsSound m → KeepsInvariant d m
    → KeepsInvariant (if shut then d else disks_begun m d) (if shut then gives Nothing (finished JobKind.Ckpt m) else begun (next_pieces m) m).state
begun_if true d m is none sound c = keeps_jobs d m (finished JobKind.Ckpt m).jobs c
begun_if false d m is none sound c = keeps_flown (next_pieces m) d m none (is_none_not m.shut is) sound c

-- the begin of a checkpoint job that waits
pub keeps_begin : (name : JobName) (d : Disks) (m : State) → is_waiting name m ≡ true → is_ckpt name.kind ≡ true → IsSound m → KeepsInvariant d m → KeepsInvariant (disks_at_begin (Some m) d) (begin m).state
keeps_begin name d m waits ckpt sound c =
    let both = and_parts (is_outstanding name m) (not (is_ckpt name.kind && is_some m.items.flight)) waits in
    let none : is_none m.items.flight ≡ true = is_none_not m.items.flight (second_false (is_ckpt name.kind) (is_some m.items.flight) ckpt (not-true (is_ckpt name.kind && is_some m.items.flight) both.1)) in
    begun_if (is_some m.shut) d m refl (none_flight m.items.flight none) sound c

ended_if : (ok : Bool) (d : Disks) (m : State) (f : Flight) → m.items.flight ≡ Some f → IsSound m → KeepsInvariant d m → KeepsInvariant (if ok then disks_landed f d else disks_failed f d) (if ok then gives (Landed f.number) (landed [] f m) else gives (Failed f.number) (failed [] m)).state
ended_if true d m f flies sound c = keeps_landed [] f d m flies sound c
ended_if false d m f flies sound c = keeps_failed [] f d m c

ended_by : (answers : LogAnswers) (o : Option Flight) (d : Disks) (m : State) → m.items.flight ≡ o → IsSound m → KeepsInvariant d m → KeepsInvariant (disks_at_end answers o d) (end_of [] answers m o).state
ended_by answers None d m is sound c = c
ended_by answers (Some f) d m is sound c = ended_if (is_ok answers.sync) d m f is sound c

-- an end, whatever the log device answered
pub keeps_end : (answers : LogAnswers) (d : Disks) (m : State) → IsSound m → KeepsInvariant d m → KeepsInvariant (disks_at_end answers m.items.flight d) (end [] answers m).state
keeps_end answers d m sound c = ended_by answers m.items.flight d m refl sound c

-- the same image, chunk by chunk
pub keeps_home : (d : Disks) (m : State) (home : Image) → ((b k : ℕ) → home b k ≡ d.home b k) → KeepsInvariant d m → KeepsInvariant (record d { home = home }) m
keeps_home d m home same c =
    let e : Disks = record d { home = home } in
    let r = c.stands in
    record {
      stands = record {
        told = r.told;
        home = λ b k small.
            elim (r.home b k small) [
              | inl was ↦ inl (same b k ∙ was)
              | inr logged ↦ inr logged
            ];
        beside = r.beside;
        aged = r.aged;
        below = r.below;
      };
      form = c.form;
      live = λ still. let l = c.live still in record { matches = matches_same d e m refl refl refl l.matches; own = l.own };
    }

pub none_planned : (plan : List ℕ) (b : ℕ) → (length plan == 0) ≡ true → has plan b ≡ true → ⊥
none_planned [] b none there = false≢true there
none_planned (p ∷ ps) b none there = let zero_ = eqb-true (length (p ∷ ps)) 0 none in omega (arith, zero_)

plan_live : (shut : Bool) (plan : List ℕ) → (length (if shut then [] else plan) == 0) ≡ false → shut ≡ false
plan_live true plan h = absurd (false≢true (sym h))
plan_live false plan h = refl

flush_if : (none : Bool) (answers : HomeAnswers) (d : Disks) (m : State) (home : Image) → (length (flush_plan m) == 0) ≡ none → IsHomeAfter (flush_offers answers m) d.home home → IsSound m → KeepsInvariant d m
    → KeepsInvariant (record d { home = home }) (if none then gives Nothing (unflushed m) else flushed [] (flush_plan m) answers m).state
flush_if true answers d m home none went sound c =
    let over = flushed_home answers m d.home home went in
    keeps_jobs (record d { home = home }) m (unflushed m).jobs
    (keeps_home d m home
    (λ b k.
    elim (over.either b k) [
      | inl same ↦ same
      | inr wrote ↦ absurd (none_planned (flush_plan m) b none wrote.0)
    ]) c)
flush_if false answers d m home some went sound c =
    keeps_flushed [] answers d m home (is_none_not m.shut (plan_live (is_some m.shut) (map (λ e. e.0) (take 8 (by_number (eligible m)))) some)) went sound c

-- a flush, whatever the home device answered and did
pub keeps_flush : (answers : HomeAnswers) (d : Disks) (m : State) (home : Image) → IsHomeAfter (flush_offers answers m) d.home home → IsSound m → KeepsInvariant d m → KeepsInvariant (record d { home = home }) (flush [] answers m).state
keeps_flush answers d m home went sound c = flush_if (length (flush_plan m) == 0) answers d m home refl went sound c

-- ---- a slot
-- what holds of a slot's mount with its devices, if there is one
abbrev pub MountKeepsInvariant : Disks → Option State → Type 0
MountKeepsInvariant d None = Unit {0}
MountKeepsInvariant d (Some m) = IsSound m × KeepsInvariant d m × IsSized m

-- what holds of a slot with its devices
pub record SlotKeepsInvariant (d : Disks) (s : Lone) : Type 0 where
  pub mount : MountKeepsInvariant d s.mounted
  pub stands : Agree d.form.size (recovered_image d.log d.home) d.landed

-- where there is a mount, recovery gives what landed
holds_stands : (d : Disks) (m : State) → KeepsInvariant d m → Agree d.form.size (recovered_image d.log d.home) d.landed
holds_stands d m c b k small = recovers d m.items b k c.stands small

-- a mount comes after recovery
keeps_mounted : (slot log_bytes blocks : ℕ) (size : Option ℕ) (o : Option Errno) (d : Disks) (s : Lone) (home : Image) → (None ≡ o → log_bytes ≤ MOST_LOG) → (None ≡ o → (is_size size ≡ true) × (form_of size ≡ d.form)) → SlotKeepsInvariant d s
    → SlotKeepsInvariant (if is_none o then new_disks d.form home else d) (unless_refused o s (mounted_new slot log_bytes blocks size s)).slot
keeps_mounted slot log_bytes blocks size None d s home small makes c = record {
  mount = (
    sound_mount slot (s.last_life + 1) log_bytes blocks (form_of size) (form_is size (makes refl).0) (small refl),
    subst (λ (f : Form). KeepsInvariant (new_disks f home) (mount_of slot (s.last_life + 1) log_bytes blocks (form_of size))) (makes refl).1
        (keeps_mount (form_of size) home slot (s.last_life + 1) log_bytes blocks),
    sized_mount slot (s.last_life + 1) log_bytes blocks (form_of size),
  );
  stands = λ b k less. refl;
}
keeps_mounted slot log_bytes blocks size (Some e) d s home small makes c = c

-- a log's size and the size of a block that no mount refuses
mount_passes : (log_bytes blocks : ℕ) (size : Option ℕ) (s : Lone) → None ≡ first_of (mount_refusals log_bytes blocks size s) → (nat_lt MOST_LOG log_bytes ≡ false) × (is_size size ≡ true)
mount_passes log_bytes blocks size s passes =
    let wrong : Bool = nat_lt log_bytes LEAST_LOG || nat_lt MOST_LOG log_bytes || (blocks == 0) || nat_lt MOST_BLOCKS blocks || not (is_size size) in
    let one = passes_first (is_some s.mounted) Busy ((wrong, Invalid) ∷ (s.last_life == 4294967295, NoSpace) ∷ []) passes in
    let two = passes_first wrong Invalid ((s.last_life == 4294967295, NoSpace) ∷ []) one.1 in
    let three = or_parts (nat_lt log_bytes LEAST_LOG || nat_lt MOST_LOG log_bytes || (blocks == 0) || nat_lt MOST_BLOCKS blocks) (not (is_size size)) two.0 in
    let four = or_parts (nat_lt log_bytes LEAST_LOG || nat_lt MOST_LOG log_bytes || (blocks == 0)) (nat_lt MOST_BLOCKS blocks) three.0 in
    let five = or_parts (nat_lt log_bytes LEAST_LOG || nat_lt MOST_LOG log_bytes) (blocks == 0) four.0 in
    ((or_parts (nat_lt log_bytes LEAST_LOG) (nat_lt MOST_LOG log_bytes) five.0).1, not-false (is_size size) three.1)

log_small : (log_bytes blocks : ℕ) (size : Option ℕ) (s : Lone) → None ≡ first_of (mount_refusals log_bytes blocks size s) → log_bytes ≤ MOST_LOG
log_small log_bytes blocks size s passes = ltb-false MOST_LOG log_bytes (mount_passes log_bytes blocks size s passes).0

-- the size of a block that no mount refuses is one of the four, or none
pub size_said : (log_bytes blocks : ℕ) (size : Option ℕ) (s : Lone) → None ≡ first_of (mount_refusals log_bytes blocks size s) → is_size size ≡ true
size_said log_bytes blocks size s passes = (mount_passes log_bytes blocks size s passes).1

holds_after : (request : Request) (d : Disks) (o : Outcome) (gone : Bool) → IsSound o.state × KeepsInvariant d o.state × IsSized o.state → MountKeepsInvariant d (if gone then None else Some o.state)
holds_after request d o true h = tt
holds_after request d o false h = h

-- a call, of a mount of this life or not
keeps_called : (life : ℕ) (request : Request) (answer : Answer) (o : Option State) (d : Disks) (s : Lone) → s.mounted ≡ o → has_size answer o ≡ true → ((m : State) → o ≡ Some m → ReadsHome d.home m request answer) → MountKeepsInvariant d o → SlotKeepsInvariant d s
    → SlotKeepsInvariant d (call [] life request answer s o).slot
keeps_called life request answer None d s is fits honest holds h = h
keeps_called life request answer (Some m) d s is fits honest holds h =
    elim (cases_Bool (m.life == life)) [
      | inl mine ↦
          subst (λ (t : Turn). SlotKeepsInvariant d t.slot) (sym (taken (m.life == life) (called request s (alone_with [] request answer m)) (turn (Refused Errno.Stale) s) mine))
          (record {
            mount = holds_after request d (alone_with [] request answer m) (is_unmount request && is_okay (alone_with [] request answer m).reply) (
              sound_call [] request answer m holds.0,
              keeps_call d [] request answer m holds.0 holds.2 (honest m refl) holds.1,
              sized_call [] request answer m holds.0.form fits holds.2,
            );
            stands = h.stands;
          })
      | inr other ↦ subst (λ (t : Turn). SlotKeepsInvariant d t.slot) (sym (left (m.life == life) (called request s (alone_with [] request answer m)) (turn (Refused Errno.Stale) s) other)) h
    ]
  where
    taken : (b : Bool) (x y : Turn) → b ≡ true → (if b then x else y) ≡ x
    taken true x y is = refl
    taken false x y is = absurd (false≢true is)

    left : (b : Bool) (x y : Turn) → b ≡ false → (if b then x else y) ≡ y
    left true x y is = absurd (false≢true (sym is))
    left false x y is = refl

keeps_post : (name : JobName) (o : Option State) (d : Disks) (s : Lone) → mount_is (is_owed_as name) o ≡ true → MountKeepsInvariant d o → Agree d.form.size (recovered_image d.log d.home) d.landed
    → SlotKeepsInvariant d (on_mount o s (λ m. turn Okay (with_mount (posted name.kind m) s))).slot
keeps_post name None d s fits holds stands = absurd (false≢true fits)
keeps_post name (Some m) d s fits holds stands = record {
  mount = (sound_posted name.kind m holds.0 (and_parts _ (is_owed name.kind m) fits).1, keeps_jobs d m (posted name.kind m).jobs holds.1, sized_posted name.kind m holds.2);
  stands = stands;
}

keeps_job_begin : (name : JobName) (o : Option State) (d : Disks) (s : Lone) → is_ckpt name.kind ≡ true → mount_is (is_waiting name) o ≡ true → MountKeepsInvariant d o → SlotKeepsInvariant (disks_at_begin o d) (on_mount o s (λ m. goes_on (begin m) [] [] s)).slot
keeps_job_begin name None d s ckpt fits holds = absurd (false≢true fits)
keeps_job_begin name (Some m) d s ckpt fits holds =
    let c = keeps_begin name d m fits ckpt holds.0 holds.1 in
    record { mount = (sound_begin m holds.0 name fits ckpt, c, sized_begin m holds.2); stands = holds_stands (disks_at_begin (Some m) d) (begin m).state c }

keeps_job_end : (name : JobName) (answers : LogAnswers) (o : Option State) (d : Disks) (s : Lone) → mount_is (λ m. is_begun name m && fits_pieces answers (length (flight_pieces m.items.flight))) o ≡ true → MountKeepsInvariant d o
    → SlotKeepsInvariant (disks_at_end answers (flight_of o) d) (on_mount o s (λ m. goes_on (end [] answers m) (end_offers answers m) [] s)).slot
keeps_job_end name answers None d s fits holds = absurd (false≢true fits)
keeps_job_end name answers (Some m) d s fits holds =
    let c = keeps_end answers d m holds.0 holds.1 in
    record { mount = (sound_end m holds.0 [] answers, c, sized_end [] answers m holds.2); stands = holds_stands (disks_at_end answers m.items.flight d) (end [] answers m).state c }

keeps_job_flush : (name : JobName) (answers : HomeAnswers) (o : Option State) (d : Disks) (s : Lone) (home : Image) → mount_is (λ m. is_waiting name m && fits_plan answers (flush_plan m)) o ≡ true
    → IsHomeAfter (on_mount o s (λ m. goes_on (flush [] answers m) [] (flush_offers answers m) s)).home d.home home → MountKeepsInvariant d o
    → SlotKeepsInvariant (record d { home = home }) (on_mount o s (λ m. goes_on (flush [] answers m) [] (flush_offers answers m) s)).slot
keeps_job_flush name answers None d s home fits went holds = absurd (false≢true fits)
keeps_job_flush name answers (Some m) d s home fits went holds =
    let c = keeps_flush answers d m home went holds.0 holds.1 in
    record { mount = (sound_flush [] answers m holds.0, c, sized_flush [] answers m holds.2); stands = holds_stands (record d { home = home }) (flush [] answers m).state c }

keeps_shown : (o : Option State) (d : Disks) (s : Lone) → s.mounted ≡ o → SlotKeepsInvariant d s → SlotKeepsInvariant d (shown o s)
keeps_shown None d s is h = h
keeps_shown (Some m) d s is h = record { mount = h.mount; stands = h.stands }

-- a step that suits a slot
pub step_carried : (x : Step) (s : Lone) (d : Disks) (home : Image) → suits x s ≡ true → MakesForm x s d.form → StepReadsHome x s d.home → IsHomeAfterStep x s d home → SlotKeepsInvariant d s → SlotKeepsInvariant (disks_after x s home d) (alone x s).slot
step_carried (Mount slot log_bytes blocks size) s d home fits form told went h = keeps_mounted slot log_bytes blocks size (first_of (mount_refusals log_bytes blocks size s)) d s home (log_small log_bytes blocks size s) (λ passes. (size_said log_bytes blocks size s passes, form (sym passes))) h
step_carried (Call slot life request answer) s d home fits form told went h = keeps_called life request answer s.mounted d s refl (and_parts (is_there (mount_is (of_life life request) s.mounted) answer) (has_size answer s.mounted) fits).1 told h.mount h
step_carried (Post name) s d home fits form told went h = keeps_post name s.mounted d s fits h.mount h.stands
step_carried (Take worker name) s d home fits form told went h = h
step_carried (Begin worker name) s d home fits form told went h =
    let both = and_parts (is_ckpt name.kind) (mount_is (is_waiting name) s.mounted) fits in
    keeps_job_begin name s.mounted d s both.0 both.1 h.mount
step_carried (End worker name answers) s d home fits form told went h = keeps_job_end name answers s.mounted d s fits h.mount
step_carried (Flush worker name answers) s d home fits form told went h =
    let both = and_parts (not (is_ckpt name.kind)) (mount_is (λ m. is_waiting name m && fits_plan answers (flush_plan m)) s.mounted) fits in
    keeps_job_flush name answers s.mounted d s home both.1 went h.mount
step_carried (Show slot) s d home fits form told went h = keeps_shown s.mounted d s refl h
step_carried (Peek slot) s d home fits form told went h = h

-- a cut of the log
pub keeps_cut_slot : (o : Option State) (d e : Disks) (s : Lone) → s.mounted ≡ o → IsLogCut o d e → SlotKeepsInvariant d s → SlotKeepsInvariant e s
keeps_cut_slot None d e s is same h = subst (λ (y : Disks). SlotKeepsInvariant y s) (sym same) h
keeps_cut_slot (Some m) d e s is (inl same) h = subst (λ (y : Disks). SlotKeepsInvariant y s) (sym same) h
keeps_cut_slot (Some m) d e s is (inr cut) h =
    let holds : IsSound m × KeepsInvariant d m × IsSized m = subst (MountKeepsInvariant d) is h.mount in
    let c = keeps_cut cut.0 d m cut.2 holds.1 in
    subst (λ (y : Disks). SlotKeepsInvariant y s) (sym cut.3) (record { mount = subst (MountKeepsInvariant (record d { log = texts_from cut.0 d.log })) (sym is) (holds.0, c, holds.2); stands = holds_stands (record d { log = texts_from cut.0 d.log }) m c })

-- a slot that was never mounted
pub keeps_empty : (form : Form) (home : Image) → SlotKeepsInvariant (new_disks form home) empty
keeps_empty form home = record { mount = tt; stands = λ b k small. refl }
