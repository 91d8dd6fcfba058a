-- Each step keeps what the item lists of a mount have to do with its log.
use Rattle.std.proofs.Common.{◌≡◌, ◌∙◌, ◌+◌, ◌∷◌, Bool, List, None, Option, Some, [], false, inl, inr, length, refl, subst, sym, true, ℕ}
use Rattle.std.proofs.lemmas.Bool.{and_parts, cases_Bool, false≢true, leb-true, not-true}
use Rattle.std.specs.Prelude.{if◌then◌else◌, is_none, is_some, nat_le, not, ◌&&◌, ◌==◌}
use Rattle.xt_base.proofs.MapLemmas.{some_none, some_same}
use Rattle.xt_base.proofs.SoundSteps.{is_none_not, second_false}
use Rattle.xt_base.specs.Alone.{after, alone, call, called, goes_on, is_okay, mount_refusals, mounted_new, on_mount, shown, turn, unless_refused, with_mount}
use Rattle.xt_base.specs.Calls.{alone_with, first_of, gives, is_unmount}
use Rattle.xt_base.specs.Form.{Form}
use Rattle.xt_base.specs.Jobs.{begin, begun, end, end_of, end_offers, failed, finished, fits_pieces, fits_plan, flight_pieces, flush, flush_offers, flush_plan, flushed, gone, is_begun, is_ckpt, is_ok, is_outstanding, is_owed_as, is_waiting, landed, landed_items, next_pieces, posted, unflushed}
use Rattle.xt_base.specs.Order.{mount_is, suits}
use Rattle.xt_base.specs.Space.{still_needed}
use Rattle.xt_base.specs.State.{Flight, Lone, State, empty}
use Rattle.xt_base.specs.declared.names.JobKind.{JobKind}
use Rattle.xt_base.specs.declared.names.JobName.{JobName}
use Rattle.xt_base.specs.declared.steps.Answer.{Answer}
use Rattle.xt_base.specs.declared.steps.Errno.{Errno}
use Rattle.xt_base.specs.declared.steps.HomeAnswers.{HomeAnswers}
use Rattle.xt_base.specs.declared.steps.LogAnswers.{LogAnswers}
use Rattle.xt_base.specs.declared.steps.Reply.TheVariants.{Failed, Landed, Nothing, Okay, Refused}
use Rattle.xt_base.specs.declared.steps.Request.{Request}
use Rattle.xt_base.specs.declared.steps.Step.{Step}
use Rattle.xt_base.specs.declared.steps.Step.TheVariants.{Begin, Call, End, Flush, Mount, Peek, Post, Show, Take}
use Rattle.xt_recovery.proofs.CallLemmas.{call_lists}
use Rattle.xt_recovery.proofs.CountLemmas.{below_next, consecutive_fall, counted_cleaned, counted_cut, counted_landed}
use Rattle.xt_recovery.proofs.FailedLemmas.{HasFailedText, SlotInvariant, cut_stands, empty_stands, step_stands}
use Rattle.xt_recovery.proofs.FormedLemmas.{mount_there}
use Rattle.xt_recovery.proofs.LifeLemmas.{MountKeepsInvariant, none_flight}
use Rattle.xt_recovery.proofs.LogLemmas.{from_first, from_less}
use Rattle.xt_recovery.proofs.LogMatching.{LogInvariant, MatchesLog, MountMatchesLog, costs_of}
use Rattle.xt_recovery.proofs.SuitedSteps.{AreSuitedSteps, IsSuitedStep, suited_steps}
use Rattle.xt_recovery.specs.DiskSteps.{IsLogAfterCrash, IsLogCut, disks_after}
use Rattle.xt_recovery.specs.Disks.{Disks, disks_at_begin, disks_at_end, disks_begun, disks_failed, disks_landed, flight_of, flight_text, new_disks}
use Rattle.xt_recovery.specs.Log.{CheckpointText, Image, texts_from}
use Rattle.xt_recovery.specs.Numbers.{AreConsecutive, IsNext, NumbersFall, NumbersFollow}

-- ---- calls, and the steps that touch no list
-- a mount that is gone has no lists
matches_unless_gone : (gone_ : Bool) (d : Disks) (n : State) → MatchesLog d n.items → MountMatchesLog d (if gone_ then None else Some n)
matches_unless_gone true d n h = tt
matches_unless_gone false d n h = h

-- a call changes the commit list alone
matches_called : (life : ℕ) (request : Request) (answer : Answer) (o : Option State) (d : Disks) (s : Lone) → s.mounted ≡ o → MountMatchesLog d s.mounted → MountMatchesLog d (call [] life request answer s o).slot.mounted
matches_called life request answer None d s is h = h
matches_called life request answer (Some m) d s is h = call_if (m.life == life)
  where
    call_if : (mine : Bool) → MountMatchesLog d (if mine then called request s (alone_with [] request answer m) else turn (Refused Errno.Stale) s).slot.mounted
    call_if true =
        let n : State = (alone_with [] request answer m).state in
        let lists = call_lists m [] request answer in
        let was : MatchesLog d m.items = subst (MountMatchesLog d) is h in
        matches_unless_gone (is_unmount request && is_okay (alone_with [] request answer m).reply) d n
        (subst (MatchesLog d) (sym lists.1) (record { counted = was.counted; resting = was.resting; flying = was.flying }))
    call_if false = h

-- a job that is posted touches no list
matches_post : (name : JobName) (o : Option State) (d : Disks) (s : Lone) → mount_is (λ m. true) o ≡ true → MountMatchesLog d o → MountMatchesLog d (on_mount o s (λ m. turn Okay (with_mount (posted name.kind m) s))).slot.mounted
matches_post name None d s there h = absurd (false≢true there)
matches_post name (Some m) d s there h = h

-- nor does what the board shows
matches_shown : (o : Option State) (d : Disks) (s : Lone) → MountMatchesLog d s.mounted → MountMatchesLog d (shown o s).mounted
matches_shown None d s h = h
matches_shown (Some m) d s h = h

-- another mount, over the same disks
log_same : (d : Disks) (o p : Option State) → (MountMatchesLog d o → MountMatchesLog d p) → LogInvariant d o → LogInvariant d p
log_same d o p more h = record { consecutive = h.consecutive; mount = more h.mount; failed = h.failed }

-- a new mount has an empty log
log_mounted : (slot log_bytes blocks : ℕ) (size : Option ℕ) (o : Option Errno) (d : Disks) (s : Lone) (home : Image) → LogInvariant d s.mounted
    → LogInvariant (if is_none o then new_disks d.form home else d) (unless_refused o s (mounted_new slot log_bytes blocks size s)).slot.mounted
log_mounted slot log_bytes blocks size None d s home h = record {
  consecutive = tt;
  mount = record { counted = refl; resting = λ sound rests. tt; flying = λ f flies. some_none f (IsNext f.number [] × (f.number + 1 ≡ 1)) (sym flies) };
  failed = λ w is. tt;
}
log_mounted slot log_bytes blocks size (Some e) d s home h = h

-- ---- begin
-- where a failed text is left, the mount is shut
none_failed : (o : Option CheckpointText) → ((w : CheckpointText) → o ≡ Some w → ⊥) → o ≡ None
none_failed None never = refl
none_failed (Some w) never = absurd (never w refl)

-- the open checkpoint, which came next, is in flight, and another opens behind it
log_begun : (shut : Bool) (d : Disks) (m : State) → is_some m.shut ≡ shut → m.items.flight ≡ None → HasFailedText d (Some m) → LogInvariant d (Some m)
    → LogInvariant (if shut then d else disks_begun m d) (Some (if shut then gives Nothing (finished JobKind.Ckpt m) else begun (next_pieces m) m).state)
log_begun true d m is rests left h = record { consecutive = h.consecutive; mount = h.mount; failed = h.failed }
log_begun false d m is rests left h =
    let g : Flight = record { number = m.items.open_number; items = m.items.cil; pieces = next_pieces m } in
    let next : IsNext g.number d.log = h.mount.resting (none_failed d.failed (λ w failed_. false≢true (sym is ∙ (left w failed_).over.0))) rests in
    record {
      consecutive = h.consecutive;
      mount = record {
        counted = h.mount.counted;
        resting = λ sound none. some_none g (IsNext (m.items.open_number + 1) d.log) none;
        flying = λ f flies. subst (λ (x : Flight). IsNext x.number d.log × (x.number + 1 ≡ m.items.open_number + 1)) (some_same g f flies) (next, refl);
      };
      failed = h.failed;
    }

-- so at the begin of a checkpoint job that waits
log_begin : (name : JobName) (o : Option State) (d : Disks) (s : Lone) → is_ckpt name.kind ≡ true → mount_is (is_waiting name) o ≡ true → HasFailedText d o → LogInvariant d o → LogInvariant (disks_at_begin o d) (on_mount o s (λ m. goes_on (begin m) [] [] s)).slot.mounted
log_begin name None d s ckpt fits left h = absurd (false≢true fits)
log_begin name (Some m) d s ckpt fits left h =
    let both = and_parts (is_outstanding name m) (not (is_ckpt name.kind && is_some m.items.flight)) fits in
    let none : is_none m.items.flight ≡ true = is_none_not m.items.flight (second_false (is_ckpt name.kind) (is_some m.items.flight) ckpt (not-true (is_ckpt name.kind && is_some m.items.flight) both.1)) in
    log_begun (is_some m.shut) d m refl (none_flight m.items.flight none) left h

-- ---- end
-- the text of the flight is the newest on the log, or one that failed
log_ended : (ok : Bool) (d : Disks) (m : State) (f : Flight) → m.items.flight ≡ Some f → m.form ≡ d.form → HasFailedText d (Some m) → LogInvariant d (Some m)
    → LogInvariant (if ok then disks_landed f d else disks_failed f d) (Some (if ok then gives (Landed f.number) (landed [] f m) else gives (Failed f.number) (failed [] m)).state)
log_ended true d m f flies form left h =
    let next = h.mount.flying f flies in
    record {
      consecutive = (next.0, h.consecutive);
      mount = record {
        counted =
            subst (λ (x : Form). still_needed (landed_items x.ends f m.items).ail (costs_of d.form.ends (flight_text f d ∷ d.log)) ≡ (landed_items x.ends f m.items).landed) (sym form)
            (counted_landed f d.form.ends d.log m.items (below_next f.number d.log next.0 h.consecutive) h.mount.counted);
        resting = λ sound rests. next.1;
        flying = λ g now. absurd (cc);
      };
      failed = λ w is. some_none f (IsNext w.number (flight_text f d ∷ d.log)) (sym flies ∙ (left w is).over.1);
    }
log_ended false d m f flies form left h =
    let next = h.mount.flying f flies in
    record {
      consecutive = h.consecutive;
      mount = record {
        counted = h.mount.counted;
        resting = λ sound rests. some_none (flight_text f d) (IsNext m.items.open_number d.log) sound;
        flying = λ g now. absurd (cc);
      };
      failed = λ w is. subst (λ (x : CheckpointText). IsNext x.number d.log) (some_same (flight_text f d) w is) next.0;
    }

-- where there was a flight
log_end_of : (answers : LogAnswers) (o : Option Flight) (d : Disks) (m : State) → m.items.flight ≡ o → m.form ≡ d.form → HasFailedText d (Some m) → LogInvariant d (Some m) → LogInvariant (disks_at_end answers o d) (Some (end_of [] answers m o).state)
log_end_of answers None d m is form left h = h
log_end_of answers (Some f) d m is form left h = log_ended (is_ok answers.sync) d m f is form left h

-- so at an end, whatever the log device answered
log_end : (answers : LogAnswers) (o : Option State) (d : Disks) (s : Lone) → mount_is (λ m. true) o ≡ true → MountKeepsInvariant d o → HasFailedText d o → LogInvariant d o
    → LogInvariant (disks_at_end answers (flight_of o) d) (on_mount o s (λ m. goes_on (end [] answers m) (end_offers answers m) [] s)).slot.mounted
log_end answers None d s there holds left h = absurd (false≢true there)
log_end answers (Some m) d s there holds left h = log_end_of answers m.items.flight d m refl holds.1.form left h

-- ---- flush
-- blocks that were written home leave the active list, and the checkpoints that only they needed are no longer counted
log_flush_if : (none : Bool) (answers : HomeAnswers) (d : Disks) (m : State) (home : Image) → LogInvariant d (Some m)
    → LogInvariant (record d { home = home }) (Some (if none then gives Nothing (unflushed m) else flushed [] (flush_plan m) answers m).state)
log_flush_if true answers d m home h = record { consecutive = h.consecutive; mount = record { counted = h.mount.counted; resting = h.mount.resting; flying = h.mount.flying }; failed = h.failed }
log_flush_if false answers d m home h = record {
  consecutive = h.consecutive;
  mount = record { counted = counted_cleaned (gone (flush_plan m) answers) (costs_of d.form.ends d.log) m.items h.mount.counted; resting = h.mount.resting; flying = h.mount.flying };
  failed = h.failed;
}

-- so at a flush, whatever the home device answered
log_flush : (answers : HomeAnswers) (o : Option State) (d : Disks) (s : Lone) (home : Image) → mount_is (λ m. true) o ≡ true → LogInvariant d o
    → LogInvariant (record d { home = home }) (on_mount o s (λ m. goes_on (flush [] answers m) [] (flush_offers answers m) s)).slot.mounted
log_flush answers None d s home there h = absurd (false≢true there)
log_flush answers (Some m) d s home there h = log_flush_if (length (flush_plan m) == 0) answers d m home h

-- ---- any step
-- a step that suits a slot keeps it
step_keeps_log : (x : Step) (s : Lone) (d : Disks) (home : Image) → suits x s ≡ true → SlotInvariant d s → LogInvariant d s.mounted → LogInvariant (disks_after x s home d) (alone x s).slot.mounted
step_keeps_log (Mount slot log_bytes blocks size) s d home fits stands h = log_mounted slot log_bytes blocks size (first_of (mount_refusals log_bytes blocks size s)) d s home h
step_keeps_log (Call slot life request answer) s d home fits stands h = log_same d s.mounted (call [] life request answer s s.mounted).slot.mounted (matches_called life request answer s.mounted d s refl) h
step_keeps_log (Post name) s d home fits stands h =
    log_same d s.mounted (on_mount s.mounted s (λ m. turn Okay (with_mount (posted name.kind m) s))).slot.mounted (matches_post name s.mounted d s (mount_there (is_owed_as name) s.mounted fits)) h
step_keeps_log (Take worker name) s d home fits stands h = h
step_keeps_log (Begin worker name) s d home fits stands h =
    let both = and_parts (is_ckpt name.kind) (mount_is (is_waiting name) s.mounted) fits in
    log_begin name s.mounted d s both.0 both.1 stands.failed h
step_keeps_log (End worker name answers) s d home fits stands h =
    log_end answers s.mounted d s (mount_there (λ m. is_begun name m && fits_pieces answers (length (flight_pieces m.items.flight))) s.mounted fits) stands.carried.mount stands.failed h
step_keeps_log (Flush worker name answers) s d home fits stands h =
    let both = and_parts (not (is_ckpt name.kind)) (mount_is (λ m. is_waiting name m && fits_plan answers (flush_plan m)) s.mounted) fits in
    log_flush answers s.mounted d s home (mount_there (λ m. is_waiting name m && fits_plan answers (flush_plan m)) s.mounted both.1) h
step_keeps_log (Show slot) s d home fits stands h = log_same d s.mounted (shown s.mounted s).mounted (matches_shown s.mounted d s) h
step_keeps_log (Peek slot) s d home fits stands h = h

-- ---- a cut
-- what comes next behind a log comes next behind the texts that are left of it
next_from : (n k : ℕ) (log : List CheckpointText) → IsNext k log → IsNext k (texts_from n log)
next_from n k [] next = tt
next_from n k (w ∷ ws) next =
    elim (cases_Bool (nat_le n w.number)) [
      | inl stays ↦ subst (IsNext k) (sym (from_first n w ws (leb-true n w.number stays))) next
      | inr goes ↦ subst (IsNext k) (sym (from_less n w ws goes)) tt
    ]

-- and these are consecutive
consecutive_from : (n : ℕ) (log : List CheckpointText) → AreConsecutive log → AreConsecutive (texts_from n log)
consecutive_from n [] chain = tt
consecutive_from n (w ∷ ws) chain =
    elim (cases_Bool (nat_le n w.number)) [
      | inl stays ↦ subst AreConsecutive (sym (from_first n w ws (leb-true n w.number stays))) (next_from n w.number ws chain.0, consecutive_from n ws chain.1)
      | inr goes ↦ subst AreConsecutive (sym (from_less n w ws goes)) tt
    ]

-- a cut keeps it
cut_keeps_log : (o : Option State) (d e : Disks) → IsLogCut o d e → MountKeepsInvariant d o → LogInvariant d o → LogInvariant e o
cut_keeps_log None d e same holds h = subst (λ (y : Disks). LogInvariant y None) (sym same) h
cut_keeps_log (Some m) d e (inl same) holds h = subst (λ (y : Disks). LogInvariant y (Some m)) (sym same) h
cut_keeps_log (Some m) d e (inr cut) holds h =
    let n : ℕ = cut.0 in
    subst (λ (y : Disks). LogInvariant y (Some m)) (sym cut.3)
    (record {
      consecutive = consecutive_from n d.log h.consecutive;
      mount = record {
        counted = counted_cut n d.form.ends m.items d.log holds.0.parts.ail_rises cut.2 (consecutive_fall d.log h.consecutive) ∙ h.mount.counted;
        resting = λ sound rests. next_from n m.items.open_number d.log (h.mount.resting sound rests);
        flying = λ f flies. let next = h.mount.flying f flies in (next_from n f.number d.log next.0, next.1);
      };
      failed = λ w is. next_from n w.number d.log (h.failed w is);
    })

-- ---- steps one after another
-- what holds of a slot with its disks, and of its log
pub record SlotAndLog (d : Disks) (s : Lone) : Type 0 where
  pub stands : SlotInvariant d s
  pub log : LogInvariant d s.mounted

-- it holds at the start
pub empty_keeps : (form : Form) (start : Image) → SlotAndLog (new_disks form start) empty
empty_keeps form start = record { stands = empty_stands form start; log = record { consecutive = tt; mount = tt; failed = λ w is. tt } }

-- a step keeps it
pub step_keeps : (x : Step) (s : Lone) (d e : Disks) → IsSuitedStep x s d e → SlotAndLog d s → SlotAndLog e (alone x s).slot
step_keeps x s d e move h = record {
  stands = step_stands x s d e move h.stands;
  log = subst (λ (y : Disks). LogInvariant y (alone x s).slot.mounted) (sym move.after) (step_keeps_log x s d e.home move.fits h.stands h.log);
}

-- a cut keeps it
pub cut_keeps : (s : Lone) (d e : Disks) → IsLogCut s.mounted d e → SlotAndLog d s → SlotAndLog e s
cut_keeps s d e cut h = record { stands = cut_stands s d e cut h.stands; log = cut_keeps_log s.mounted d e cut h.stands.carried.mount h.log }

-- and so do any steps and cuts
moves_keep : (xs : List Step) (s : Lone) (d e : Disks) → AreSuitedSteps xs s d e → SlotAndLog d s → SlotAndLog e (after xs s)
moves_keep [] s d e moves h = subst (λ (x : Disks). SlotAndLog x s) (sym moves) h
moves_keep (x ∷ xs) s d e moves h = moves_keep xs (alone x s).slot moves.1 e moves.4 (cut_keeps (alone x s).slot moves.0 moves.1 moves.3 (step_keeps x s d moves.0 moves.2 h))

-- ---- the numbers that a crash leaves
-- the text in flight, or one that failed, comes next behind those that landed
consecutive_at_crash : (o : Option State) (d : Disks) (log : List CheckpointText) → LogInvariant d o → IsLogAfterCrash o d log → AreConsecutive log
consecutive_at_crash o d log h (inl same) = subst AreConsecutive (sym same) h.consecutive
consecutive_at_crash None d log h (inr (inl flight)) = some_none flight.0 (AreConsecutive log) (sym flight.1)
consecutive_at_crash (Some m) d log h (inr (inl flight)) = subst AreConsecutive (sym flight.2) ((h.mount.flying flight.0 flight.1).0, h.consecutive)
consecutive_at_crash o d log h (inr (inr left)) = subst AreConsecutive (sym left.2) (h.failed left.0 left.1, h.consecutive)

-- they have no gap
pub numbers_follow : NumbersFollow
numbers_follow steps suit form start d went log crash =
    consecutive_at_crash (after steps empty).mounted d log (moves_keep steps empty (new_disks form start) d (suited_steps steps empty (new_disks form start) d suit went) (empty_keeps form start)).log crash

-- and fall
pub numbers_fall : NumbersFall
numbers_fall steps suit form start d went log crash = consecutive_fall log (numbers_follow steps suit form start d went log crash)
