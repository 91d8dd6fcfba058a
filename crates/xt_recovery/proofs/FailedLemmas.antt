-- The text of a checkpoint that failed may stand whole behind the others; recovery then applies it, whole.
use Rattle.std.proofs.Common.{◌≡◌, ◌∙◌, ◌∷◌, Bool, List, None, Option, Some, [], ap, arith, false, inl, inr, length, refl, subst, sym, true, ℕ}
use Rattle.std.proofs.lemmas.Bool.{and_parts, false≢true, or_cases}
use Rattle.std.specs.Prelude.{if◌then◌else◌, is_none, is_some, map, not, take, ◌&&◌, ◌<◌, ◌==◌}
use Rattle.xt_base.proofs.CarryLemmas.{call_keeps_jobs, shut_stays}
use Rattle.xt_base.proofs.MapLemmas.{some_none, some_same}
use Rattle.xt_base.proofs.SoundSteps.{is_none_some}
use Rattle.xt_base.specs.Alone.{after, alone, call, called, goes_on, is_okay, mount_refusals, mounted_new, on_mount, shown, turn, unless_refused, with_mount}
use Rattle.xt_base.specs.Calls.{alone_with, first_of, gives, is_unmount, shut_for}
use Rattle.xt_base.specs.Jobs.{begin, begun, by_number, eligible, end, end_of, end_offers, failed, finished, fits_pieces, fits_plan, flight_pieces, flush, flush_offers, flush_plan, flushed, is_begun, is_ckpt, is_ok, is_owed_as, is_waiting, landed, landed_items, next_pieces, posted, unflushed}
use Rattle.xt_base.specs.Maps.{is_in}
use Rattle.xt_base.specs.Text.{chunk}
use Rattle.xt_base.specs.Order.{mount_is, suits}
use Rattle.xt_base.specs.Sound.{IsRising, IsSound}
use Rattle.xt_base.specs.Space.{flight_items}
use Rattle.xt_base.specs.State.{Flight, Items, Lone, State, empty}
use Rattle.xt_base.specs.declared.names.JobKind.{JobKind}
use Rattle.xt_base.specs.declared.names.JobName.{JobName}
use Rattle.xt_base.specs.declared.steps.Answer.{Answer}
use Rattle.xt_base.specs.declared.steps.Errno.{Errno}
use Rattle.xt_base.specs.declared.steps.HomeAnswers.{HomeAnswers}
use Rattle.xt_base.specs.declared.steps.LogAnswers.{LogAnswers}
use Rattle.xt_base.specs.declared.steps.Reason.{Reason}
use Rattle.xt_base.specs.declared.steps.Reason.TheVariants.{LogIoError}
use Rattle.xt_base.specs.declared.steps.Reply.TheVariants.{Failed, Landed, Nothing, Okay, Refused}
use Rattle.xt_base.specs.declared.steps.Request.{Request}
use Rattle.xt_base.specs.declared.steps.Step.{Step}
use Rattle.xt_base.specs.declared.steps.Step.TheVariants.{Begin, Call, End, Flush, Mount, Peek, Post, Show, Take}
use Rattle.xt_recovery.proofs.InvariantJobs.{number_below}
use Rattle.xt_recovery.proofs.LogLemmas.{some_of}
use Rattle.xt_recovery.proofs.HomeLemmas.{flushed_home}
use Rattle.xt_recovery.proofs.LifeLemmas.{MountKeepsInvariant, SlotKeepsInvariant, keeps_cut_slot, keeps_empty, none_planned, step_carried}
use Rattle.xt_recovery.proofs.FormedLemmas.{SlotIsWellFormed, MountFitsTexts, mount_there, formed_cut, step_proper}
use Rattle.xt_recovery.proofs.RecoverLemmas.{recoverable_landed}
use Rattle.xt_recovery.proofs.Formed.{IsWellFormed}
use Rattle.xt_recovery.proofs.Invariant.{KeepsInvariant}
use Rattle.xt_recovery.proofs.Recoverable.{AgreesUnlogged, IsRecoverable}
use Rattle.xt_recovery.proofs.SuitedSteps.{AreSuitedSteps, IsSuitedStep}
use Rattle.xt_recovery.specs.DiskSteps.{IsHomeAfterStep, IsLogCut, disks_after, may_cut}
use Rattle.xt_recovery.specs.Disks.{Disks, disks_at_begin, disks_at_end, disks_begun, disks_failed, disks_landed, flight_of, flight_text, landed_image, new_disks}
use Rattle.xt_recovery.specs.Flush.{IsHomeAfter}
use Rattle.xt_recovery.specs.Log.{CheckpointText, Image, is_cancel}
use Rattle.xt_base.specs.Form.{Form}

-- the devices as if the failed checkpoint had landed
abbrev pub with_failed : CheckpointText → Disks → Disks
with_failed w d = record { form = d.form; home = d.home; log = w ∷ d.log; landed = landed_image w d.home d.landed; snapshot = d.snapshot; failed = None }

-- the mount is shut, with nothing in flight
abbrev pub IsOver : Option State → Type 0
IsOver None = Unit {0}
IsOver (Some m) = (is_some m.shut ≡ true) × (m.items.flight ≡ None)

-- what holds where a failed text is left
pub record IsFailedText (d : Disks) (o : Option State) (w : CheckpointText) : Type 0 where
  pub over : IsOver o
  pub proper : IsWellFormed d.form w
  pub items : Items
  pub none : items.flight ≡ None
  pub stands : IsRecoverable (with_failed w d) items

abbrev pub HasFailedText : Disks → Option State → Type 0
HasFailedText d o = (w : CheckpointText) → d.failed ≡ Some w → IsFailedText d o w

-- another mount that is over too
left_over : (d : Disks) (o p : Option State) → (IsOver o → IsOver p) → HasFailedText d o → HasFailedText d p
left_over d o p more h w is = let l = h w is in record { over = more l.over; proper = l.proper; items = l.items; none = l.none; stands = l.stands }

-- a home image that is the same chunk by chunk
pub same_landed : (w : CheckpointText) (d : Disks) (home : Image) (b k : ℕ) → ((b k : ℕ) → home b k ≡ d.home b k) → landed_image w home d.landed b k ≡ landed_image w d.home d.landed b k
same_landed w d home b k same = ap (λ (v : List ℕ). if is_cancel b w.items then v else (if is_in b w.items then chunk (w.contents b) k else d.landed b k)) (same b k)

-- ---- the end of a flight
shut_there : (o : _) → is_some (shut_for LogIoError o) ≡ true
shut_there None = refl
shut_there (Some r) = refl

left_failed : (d : Disks) (m : State) (f : Flight) → m.items.flight ≡ Some f → IsSound m → KeepsInvariant d m → IsWellFormed d.form (flight_text f d) → HasFailedText (disks_failed f d) (Some (failed [] m))
left_failed d m f flies sound c proper w is =
    let rises : IsRising f.items = subst (λ (o : Option Flight). IsRising (flight_items o)) flies sound.parts.flight_rises in
    let order : f.number < m.items.open_number = number_below m.items.flight m.items f flies sound.parts.flying in
    let r = recoverable_landed m.form.ends f d m.items flies rises sound.parts.ail_rises (omega (arith, order)) c.stands in
    subst (λ (x : CheckpointText). IsFailedText (disks_failed f d) (Some (failed [] m)) x) (some_same (flight_text f d) w is)
    (record {
      over = (shut_there m.shut, refl);
      proper = proper;
      items = landed_items m.form.ends f m.items;
      none = refl;
      stands = record { told = r.told; home = r.home; beside = λ g now. some_none g (AgreesUnlogged g (with_failed (flight_text f d) (disks_failed f d))) (sym now); aged = r.aged; below = r.below };
    })

left_ended : (ok : Bool) (d : Disks) (m : State) (f : Flight) → m.items.flight ≡ Some f → IsSound m → KeepsInvariant d m → IsWellFormed d.form (flight_text f d) → HasFailedText d (Some m)
    → HasFailedText (if ok then disks_landed f d else disks_failed f d) (Some (if ok then gives (Landed f.number) (landed [] f m) else gives (Failed f.number) (failed [] m)).state)
left_ended true d m f flies sound c proper h = λ w is. let over = (h w is).over in some_none f (IsFailedText (disks_landed f d) (Some (landed [] f m)) w) (sym flies ∙ over.1)
left_ended false d m f flies sound c proper h = left_failed d m f flies sound c proper

left_end_of : (answers : LogAnswers) (o : Option Flight) (d : Disks) (m : State) → m.items.flight ≡ o → IsSound m → KeepsInvariant d m → ((f : Flight) → o ≡ Some f → IsWellFormed d.form (flight_text f d)) → HasFailedText d (Some m)
    → HasFailedText (disks_at_end answers o d) (Some (end_of [] answers m o).state)
left_end_of answers None d m is sound c proper h = h
left_end_of answers (Some f) d m is sound c proper h = left_ended (is_ok answers.sync) d m f is sound c (proper f refl) h

left_end : (answers : LogAnswers) (o : Option State) (d : Disks) (s : Lone) → mount_is (λ m. true) o ≡ true → MountKeepsInvariant d o → MountFitsTexts d o → HasFailedText d o
    → HasFailedText (disks_at_end answers (flight_of o) d) (on_mount o s (λ m. goes_on (end [] answers m) (end_offers answers m) [] s)).slot.mounted
left_end answers None d s there holds p h = absurd (false≢true there)
left_end answers (Some m) d s there holds p h = left_end_of answers m.items.flight d m refl holds.0 holds.1 (λ f flies. (p.flight f flies).proper) h

-- ---- begin, flush, and the other steps
left_begun : (shut : Bool) (d : Disks) (m : State) → is_some m.shut ≡ shut → HasFailedText d (Some m) → HasFailedText (if shut then d else disks_begun m d) (Some (if shut then gives Nothing (finished JobKind.Ckpt m) else begun (next_pieces m) m).state)
left_begun true d m is h = left_over d (Some m) (Some (finished JobKind.Ckpt m)) (λ o. o) h
left_begun false d m is h = λ w left. let over = (h w left).over in absurd (false≢true (sym is ∙ over.0))

left_begin : (name : JobName) (o : Option State) (d : Disks) (s : Lone) → mount_is (is_waiting name) o ≡ true → HasFailedText d o → HasFailedText (disks_at_begin o d) (on_mount o s (λ m. goes_on (begin m) [] [] s)).slot.mounted
left_begin name None d s fits h = absurd (false≢true fits)
left_begin name (Some m) d s fits h = left_begun (is_some m.shut) d m refl h

plan_empty : (shut : Bool) (plan : List ℕ) → shut ≡ true → (length (if shut then [] else plan) == 0) ≡ true
plan_empty true plan is = refl
plan_empty false plan is = absurd (false≢true is)

flushed_none : (t : Bool) (answers : HomeAnswers) (m : State) → IsOver (Some m) → t ≡ true → IsOver (Some (if t then gives Nothing (unflushed m) else flushed [] (flush_plan m) answers m).state)
flushed_none true answers m over is = over
flushed_none false answers m over is = absurd (false≢true is)

left_flush : (answers : HomeAnswers) (o : Option State) (d : Disks) (s : Lone) (home : Image) → mount_is (λ m. true) o ≡ true → IsHomeAfter (on_mount o s (λ m. goes_on (flush [] answers m) [] (flush_offers answers m) s)).home d.home home → HasFailedText d o
    → HasFailedText (record d { home = home }) (on_mount o s (λ m. goes_on (flush [] answers m) [] (flush_offers answers m) s)).slot.mounted
left_flush answers None d s home there went h = absurd (false≢true there)
left_flush answers (Some m) d s home there went h = λ w is.
    let l = h w is in
    let over = l.over in
    let none : (length (flush_plan m) == 0) ≡ true = plan_empty (is_some m.shut) (map (λ e. e.0) (take 8 (by_number (eligible m)))) over.0 in
    let way = flushed_home answers m d.home home went in
    let same : (b k : ℕ) → home b k ≡ d.home b k = λ b k. elim (way.either b k) [
      | inl is_same ↦ is_same
      | inr wrote ↦ absurd (none_planned (flush_plan m) b none wrote.0)
    ] in
    let r = l.stands in
    let e : Disks = record d { home = home } in
    let alike : (b k : ℕ) → (with_failed w e).landed b k ≡ (with_failed w d).landed b k = λ b k. same_landed w d home b k same in
    record {
      over = flushed_none (length (flush_plan m) == 0) answers m l.over none;
      proper = l.proper;
      items = l.items;
      none = l.none;
      stands = record {
        told = λ b k v less found_. r.told b k v less found_ ∙ sym (alike b k);
        home = λ b k less.
            elim (r.home b k less) [
              | inl was ↦ inl (same b k ∙ was ∙ sym (alike b k))
              | inr logged ↦ inr logged
            ];
        beside = λ f flies. some_none f (AgreesUnlogged f (with_failed w e)) (sym flies ∙ l.none);
        aged = r.aged;
        below = r.below;
      };
    }

left_mounted : (slot log_bytes blocks : ℕ) (size : Option ℕ) (o : Option Errno) (d : Disks) (s : Lone) (home : Image) → HasFailedText d s.mounted
    → HasFailedText (if is_none o then new_disks d.form home else d) (unless_refused o s (mounted_new slot log_bytes blocks size s)).slot.mounted
left_mounted slot log_bytes blocks size None d s home h = λ w is. some_none w (IsFailedText (new_disks d.form home) (mounted_new slot log_bytes blocks size s).slot.mounted w) (sym is)
left_mounted slot log_bytes blocks size (Some e) d s home h = h

over_gone : (gone : Bool) (m n : State) → (IsOver (Some m) → IsOver (Some n)) → IsOver (Some m) → IsOver (if gone then None else Some n)
over_gone true m n more over = tt
over_gone false m n more over = more over

shut_on : (m n : State) → is_some m.shut ≡ true → ((r : Reason) → m.shut ≡ Some r → n.shut ≡ Some r) → is_some n.shut ≡ true
shut_on m n shut stays = let r = some_of m.shut shut in ap is_some (stays r.0 r.1)

left_called : (life : ℕ) (request : Request) (answer : Answer) (o : Option State) (d : Disks) (s : Lone) → s.mounted ≡ o → HasFailedText d s.mounted → HasFailedText d (call [] life request answer s o).slot.mounted
left_called life request answer None d s is h = h
left_called life request answer (Some m) d s is h = call_if (m.life == life)
  where
    call_if : (mine : Bool) → HasFailedText d (if mine then called request s (alone_with [] request answer m) else turn (Refused Errno.Stale) s).slot.mounted
    call_if true =
        let n : State = (alone_with [] request answer m).state in
        left_over d (Some m) (if is_unmount request && is_okay (alone_with [] request answer m).reply then None else Some n)
        (over_gone (is_unmount request && is_okay (alone_with [] request answer m).reply) m n (λ over. (shut_on m n over.0 (shut_stays [] request answer m), (call_keeps_jobs [] request answer m).flight ∙ over.1)))
        (subst (HasFailedText d) is h)
    call_if false = h

left_post : (name : JobName) (o : Option State) (d : Disks) (s : Lone) → mount_is (λ m. true) o ≡ true → HasFailedText d o → HasFailedText d (on_mount o s (λ m. turn Okay (with_mount (posted name.kind m) s))).slot.mounted
left_post name None d s there h = absurd (false≢true there)
left_post name (Some m) d s there h = left_over d (Some m) (Some (posted name.kind m)) (λ o. o) h

left_shown : (o : Option State) (d : Disks) (s : Lone) → HasFailedText d s.mounted → HasFailedText d (shown o s).mounted
left_shown None d s h = h
left_shown (Some m) d s h = h

-- a step that suits a slot
step_left : (x : Step) (s : Lone) (d : Disks) (home : Image) → suits x s ≡ true → IsHomeAfterStep x s d home → SlotKeepsInvariant d s → SlotIsWellFormed d s → HasFailedText d s.mounted → HasFailedText (disks_after x s home d) (alone x s).slot.mounted
step_left (Mount slot log_bytes blocks size) s d home fits went c p h = left_mounted slot log_bytes blocks size (first_of (mount_refusals log_bytes blocks size s)) d s home h
step_left (Call slot life request answer) s d home fits went c p h = left_called life request answer s.mounted d s refl h
step_left (Post name) s d home fits went c p h = left_post name s.mounted d s (mount_there (is_owed_as name) s.mounted fits) h
step_left (Take worker name) s d home fits went c p h = h
step_left (Begin worker name) s d home fits went c p h = left_begin name s.mounted d s (and_parts (is_ckpt name.kind) (mount_is (is_waiting name) s.mounted) fits).1 h
step_left (End worker name answers) s d home fits went c p h =
    left_end answers s.mounted d s (mount_there (λ m. is_begun name m && fits_pieces answers (length (flight_pieces m.items.flight))) s.mounted fits) c.mount p.mount h
step_left (Flush worker name answers) s d home fits went c p h =
    let both = and_parts (not (is_ckpt name.kind)) (mount_is (λ m. is_waiting name m && fits_plan answers (flush_plan m)) s.mounted) fits in
    left_flush answers s.mounted d s home (mount_there (λ m. is_waiting name m && fits_plan answers (flush_plan m)) s.mounted both.1) went h
step_left (Show slot) s d home fits went c p h = left_shown s.mounted d s h
step_left (Peek slot) s d home fits went c p h = h

-- a mount whose log may lose texts is not over
not_over : (m : State) → may_cut m ≡ true → IsOver (Some m) → ⊥
not_over m may over =
    elim (or_cases (is_none m.shut) (is_some m.items.flight) may) [
      | inl live ↦ is_none_some m.shut live over.0
      | inr flies ↦ false≢true (sym (ap is_some over.1) ∙ flies)
    ]

-- where the log was cut, no failed text is left
left_cut : (o : Option State) (d e : Disks) → IsLogCut o d e → HasFailedText d o → HasFailedText e o
left_cut None d e same h = subst (λ (y : Disks). HasFailedText y None) (sym same) h
left_cut (Some m) d e (inl same) h = subst (λ (y : Disks). HasFailedText y (Some m)) (sym same) h
left_cut (Some m) d e (inr cut) h = λ w is. absurd (not_over m cut.1 (h w (sym (ap (λ (y : Disks). y.failed) cut.3) ∙ is)).over)

-- ---- all three, over steps one after another
-- what holds of a slot with its disks after each step
pub record SlotInvariant (d : Disks) (s : Lone) : Type 0 where
  pub carried : SlotKeepsInvariant d s
  pub proper : SlotIsWellFormed d s
  pub failed : HasFailedText d s.mounted

-- it holds at the start
pub empty_stands : (form : Form) (start : Image) → SlotInvariant (new_disks form start) empty
empty_stands form start = record { carried = keeps_empty form start; proper = record { mount = tt; texts = tt }; failed = λ w is. some_none w (IsFailedText (new_disks form start) None w) (sym is) }

-- a step keeps it
pub step_stands : (x : Step) (s : Lone) (d e : Disks) → IsSuitedStep x s d e → SlotInvariant d s → SlotInvariant e (alone x s).slot
step_stands x s d e move h =
    let next : Lone = (alone x s).slot in
    record {
      carried = subst (λ (y : Disks). SlotKeepsInvariant y next) (sym move.after) (step_carried x s d e.home move.fits move.form move.told move.home h.carried);
      proper = subst (λ (y : Disks). SlotIsWellFormed y next) (sym move.after) (step_proper x s d e.home move.fits move.form h.carried h.proper);
      failed = subst (λ (y : Disks). HasFailedText y next.mounted) (sym move.after) (step_left x s d e.home move.fits move.home h.carried h.proper h.failed);
    }

-- and so does a cut of the log
pub cut_stands : (s : Lone) (d e : Disks) → IsLogCut s.mounted d e → SlotInvariant d s → SlotInvariant e s
cut_stands s d e cut h = record { carried = keeps_cut_slot s.mounted d e s refl cut h.carried; proper = formed_cut s.mounted d e s refl cut h.proper; failed = left_cut s.mounted d e cut h.failed }

moves_stand : (xs : List Step) (s : Lone) (d e : Disks) → AreSuitedSteps xs s d e → SlotInvariant d s → SlotInvariant e (after xs s)
moves_stand [] s d e moves h = subst (λ (x : Disks). SlotInvariant x s) (sym moves) h
moves_stand (x ∷ xs) s d e moves h = moves_stand xs (alone x s).slot moves.1 e moves.4 (cut_stands (alone x s).slot moves.0 moves.1 moves.3 (step_stands x s d moves.0 moves.2 h))

-- it holds after any steps
pub stands_from : (xs : List Step) (form : Form) (start : Image) (d : Disks) → AreSuitedSteps xs empty (new_disks form start) d → SlotInvariant d (after xs empty)
stands_from xs form start d moves = moves_stand xs empty (new_disks form start) d moves (empty_stands form start)
