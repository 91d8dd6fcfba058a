-- At every crash recovery gives what was committed.
use Rattle.std.proofs.Common.{◌≡◌, ◌∙◌, ◌⊎◌, ◌∷◌, Bool, List, None, Option, Some, [], ap, arith, false, inl, inr, refl, subst, sym, true, ℕ}
use Rattle.std.proofs.lemmas.Bool.{false≢true}
use Rattle.std.specs.Prelude.{if◌then◌else◌, is_none, is_some, map, not, take, unwrap_or, ◌<◌}
use Rattle.xt_base.proofs.MapLemmas.{some_none, some_same}
use Rattle.xt_base.proofs.RisingLemmas.{rises_filter}
use Rattle.xt_base.proofs.SoundSteps.{is_none_not}
use Rattle.xt_base.specs.Alone.{after}
use Rattle.xt_base.specs.Jobs.{by_number, cleaned, eligible, flush_plan}
use Rattle.xt_base.specs.Maps.{has}
use Rattle.xt_base.specs.Sound.{IsRising, IsSound}
use Rattle.xt_base.specs.Space.{flight_items}
use Rattle.xt_base.specs.State.{Flight, Items, Lone, State, empty}
use Rattle.xt_base.specs.Text.{chunk}
use Rattle.xt_recovery.proofs.InvariantJobs.{number_below}
use Rattle.xt_recovery.proofs.LogLemmas.{recovers}
use Rattle.xt_recovery.proofs.HomeLemmas.{planned_agrees}
use Rattle.xt_recovery.proofs.FailedLemmas.{HasFailedText, IsFailedText, IsOver, same_landed, stands_from, with_failed}
use Rattle.xt_recovery.proofs.LifeLemmas.{MountKeepsInvariant}
use Rattle.xt_recovery.proofs.RecoverLemmas.{recoverable_flushed, recoverable_landed}
use Rattle.xt_recovery.proofs.CutLemmas.{home_is_landed}
use Rattle.xt_recovery.proofs.Invariant.{KeepsInvariant}
use Rattle.xt_recovery.proofs.SuitedSteps.{suited_steps}
use Rattle.xt_recovery.proofs.Recoverable.{IsFlushedHome, IsRecoverable}
use Rattle.xt_recovery.specs.Crash.{HomeHasLanded, IsCommittedImage, IsFlushing, Recovers}
use Rattle.xt_recovery.specs.DiskSteps.{Agree, IsLogAfterCrash}
use Rattle.xt_recovery.specs.Disks.{Disks, content_of, disks_landed, flight_of, flight_text, landed_image, new_disks}
use Rattle.xt_recovery.specs.Log.{CheckpointText, HasChunk, Image, logged_chunk, recovered_image}

-- a shut mount plans nothing
plan_none : (shut : Bool) (plan : List ℕ) (b : ℕ) → has (if shut then [] else plan) b ≡ true → shut ≡ false
plan_none true plan b h = absurd (false≢true h)
plan_none false plan b h = refl

module _ (d : Disks) (m : State) (home : Image) (sound : IsSound m) (c : KeepsInvariant d m) (chunks : (b k : ℕ) → (home b k ≡ d.home b k) ⊎ ((has (flush_plan m) b ≡ true) × (home b k ≡ chunk (content_of m b) k))) where
  planned : (b k : ℕ) → HasChunk d.form.size k → has (flush_plan m) b ≡ true → chunk (content_of m b) k ≡ d.landed b k
  planned b k small there =
      let live : is_none m.shut ≡ true = is_none_not m.shut (plan_none (is_some m.shut) (map (λ e. e.0) (take 8 (by_number (eligible m)))) b there) in
      planned_agrees d m sound.parts.ail_rises (sound.written live) (c.live live).matches b k small there

  -- recovery stands on the image that a flush left half done
  crashed : IsRecoverable (record d { home = home }) (cleaned [] m.items)
  crashed =
      let went : IsFlushedHome (flush_plan m) (record { writes = []; count = 0; sync = false }) (content_of m) d.home home = record { either = chunks; stands = λ b k there. absurd (false≢true there) } in
      recoverable_flushed (flush_plan m) (record { writes = []; count = 0; sync = false }) (content_of m) d home m.items sound.parts.ail_rises went planned c.stands

  kept_landed : Agree d.form.size (recovered_image d.log home) d.landed
  kept_landed b k small = recovers (record d { home = home }) (cleaned [] m.items) b k crashed small

  kept_flight : (f : Flight) → m.items.flight ≡ Some f → Agree d.form.size (recovered_image (flight_text f d ∷ d.log) home) (landed_image (flight_text f d) home d.landed)
  kept_flight f flies b k small =
      let l : Items = cleaned [] m.items in
      let rises : IsRising f.items = subst (λ (o : Option Flight). IsRising (flight_items o)) flies sound.parts.flight_rises in
      let order : f.number < m.items.open_number = number_below m.items.flight m.items f flies sound.parts.flying in
      let active : IsRising l.ail = rises_filter 0 (λ e. not (has [] e.0)) m.items.ail sound.parts.ail_rises in
      recovers (disks_landed f (record d { home = home })) _ b k (recoverable_landed m.form.ends f (record d { home = home }) l flies rises active (omega (arith, order)) crashed) small

-- a failed text that is left whole
kept_left : (d : Disks) (o : Option State) (w : CheckpointText) (home : Image) → IsFailedText d o w → ((b k : ℕ) → home b k ≡ d.home b k) → Agree d.form.size (recovered_image (w ∷ d.log) home) (landed_image w home d.landed)
kept_left d o w home l same b k small =
    ap (unwrap_or (logged_chunk (w ∷ d.log) b k)) (same b k) ∙ recovers (with_failed w d) l.items b k l.stands small ∙ sym (same_landed w d home b k same)

-- a mount that is over plans no flush
none_flushing : (o : Option State) (d : Disks) (home : Image) → IsOver o → ((b k : ℕ) → (home b k ≡ d.home b k) ⊎ IsFlushing o b k (home b k)) → (b k : ℕ) → home b k ≡ d.home b k
none_flushing None d home over chunks b k = elim (chunks b k) [
  | inl same ↦ same
  | inr bad ↦ absurd bad
]
none_flushing (Some m) d home over chunks b k = elim (chunks b k) [
  | inl same ↦ same
  | inr wrote ↦ absurd (false≢true (sym (plan_none (is_some m.shut) (map (λ e. e.0) (take 8 (by_number (eligible m)))) b wrote.0) ∙ over.0))
]

kept_mount : (o : Option State) (s : Lone) (d : Disks) (home : Image) (log : List CheckpointText) → s.mounted ≡ o → MountKeepsInvariant d o → Agree d.form.size (recovered_image d.log d.home) d.landed → HasFailedText d o → ((b k : ℕ) → (home b k ≡ d.home b k) ⊎ IsFlushing o b k (home b k))
    → IsLogAfterCrash o d log → IsCommittedImage s d home (recovered_image log home)
kept_mount None s d home log is holds stands left chunks (inl same) = inl (λ b k small. ap (λ ws. recovered_image ws home b k) same ∙ ap (λ v. unwrap_or (logged_chunk d.log b k) v) (none_flushing None d home tt chunks b k) ∙ stands b k small)
kept_mount (Some m) s d home log is holds stands left chunks (inl same) = inl (λ b k small. ap (λ ws. recovered_image ws home b k) same ∙ kept_landed d m home holds.0 holds.1 chunks b k small)
kept_mount None s d home log is holds stands left chunks (inr (inl flight)) = some_none flight.0 (IsCommittedImage s d home (recovered_image log home)) (sym flight.1)
kept_mount (Some m) s d home log is holds stands left chunks (inr (inl flight)) =
    inr (inl (flight.0, ap flight_of is ∙ flight.1, λ b k small. ap (λ ws. recovered_image ws home b k) flight.2 ∙ kept_flight d m home holds.0 holds.1 chunks flight.0 flight.1 b k small))
kept_mount o s d home log is holds stands left chunks (inr (inr failed_)) =
    let l = left failed_.0 failed_.1 in
    inr (inr (failed_.0, failed_.1, λ b k small. ap (λ ws. recovered_image ws home b k) failed_.2 ∙ kept_left d o failed_.0 home l (none_flushing o d home l.over chunks) b k small))

-- at every crash recovery gives what the last landed checkpoint committed, or the one in flight, or the one that failed
pub kept_at_crash : Recovers
kept_at_crash steps suit form start d went home log crash =
    let h = stands_from steps form start d (suited_steps steps empty (new_disks form start) d suit went) in
    let s : Lone = after steps empty in
    let c = h.carried in
    kept_mount s.mounted s d home log refl c.mount c.stands h.failed crash.chunks crash.texts

-- where the active list is empty the home image is what landed
landed_mount : (o : Option State) (d : Disks) (m : State) → o ≡ Some m → m.items.ail ≡ [] → MountKeepsInvariant d o → Agree d.form.size d.home d.landed
landed_mount None d m is bare h = some_none m (Agree d.form.size d.home d.landed) (sym is)
landed_mount (Some n) d m is bare h = home_is_landed d n.items (ap (λ (x : State). x.items.ail) (some_same n m is) ∙ bare) h.1.stands

pub home_has_landed : HomeHasLanded
home_has_landed steps suit form start d went m mounted bare =
    let h = stands_from steps form start d (suited_steps steps empty (new_disks form start) d suit went) in
    landed_mount (after steps empty).mounted d m mounted bare h.carried.mount
