-- Each job keeps what recovery stands on, over the definitions of its step.
use Rattle.std.proofs.Common.{◌≡◌, List, None, Option, Some, arith, subst, true, ℕ}
use Rattle.std.specs.Prelude.{is_none, not, ◌<◌}
use Rattle.xt_base.proofs.MapLemmas.{some_same}
use Rattle.xt_base.proofs.SoundJobs.{sound_flushed}
use Rattle.xt_base.proofs.SoundSteps.{shut_for_some, sound_landed}
use Rattle.xt_base.specs.Jobs.{failed, flown, flush_offers, flush_plan, flushed, gone, landed, waits_on}
use Rattle.xt_base.specs.Settle.{Dropped}
use Rattle.xt_base.specs.Sound.{IsBetween, IsRising, IsSound}
use Rattle.xt_base.specs.Space.{flight_items}
use Rattle.xt_base.specs.State.{Flight, Items, State}
use Rattle.xt_base.specs.declared.steps.HomeAnswers.{HomeAnswers}
use Rattle.xt_base.specs.declared.steps.Reason.TheVariants.{LogIoError}
use Rattle.xt_recovery.proofs.MatchJobs.{begun_agrees, matches_begun, matches_flushed, matches_landed, flushed_state, landed_state}
use Rattle.xt_recovery.proofs.ConsistentLemmas.{consistent_fewer}
use Rattle.xt_recovery.proofs.ConsistentEnds.{consistent_settled}
use Rattle.xt_base.specs.Maps.{at}
use Rattle.xt_base.specs.declared.steps.Owner.{Owner}
use Rattle.xt_recovery.proofs.MatchLemmas.{matches_settled}
use Rattle.xt_recovery.proofs.HomeLemmas.{flushed_home, planned_agrees}
use Rattle.xt_recovery.proofs.RecoverLemmas.{at_filter_back, recoverable_begun, recoverable_failed, recoverable_flushed, recoverable_landed}
use Rattle.xt_recovery.proofs.Invariant.{KeepsInvariant}
use Rattle.xt_recovery.proofs.Matching.{MatchesDisks}
use Rattle.xt_recovery.specs.Disks.{Disks, content_of, disks_begun, disks_failed, disks_landed}
use Rattle.xt_recovery.specs.Flush.{IsHomeAfter}
use Rattle.xt_recovery.specs.Log.{Image}

-- a begin on a live mount with nothing in flight
pub keeps_flown : (ps : List (List ℕ)) (d : Disks) (s : State) → s.items.flight ≡ None → is_none s.shut ≡ true → IsSound s → KeepsInvariant d s → KeepsInvariant (disks_begun s d) (flown ps s)
keeps_flown ps d s none live sound c = record {
  stands = recoverable_begun ps s d c.stands (begun_agrees ps d s none (c.live live).matches (sound.written live));
  form = c.form;
  live = λ still. let l = c.live live in record { matches = matches_begun ps d s none l.matches; own = l.own };
}

pub number_below : (o : Option Flight) (l : Items) (f : Flight) → o ≡ Some f → IsBetween o l → f.number < l.open_number
number_below None l f is h = absurd (cc)
number_below (Some g) l f is h = subst (λ (x : Flight). x.number < l.open_number) (some_same g f is) h.0

-- an end whose sync was answered Ok
pub keeps_landed : (dropped : Dropped) (f : Flight) (d : Disks) (s : State) → s.items.flight ≡ Some f → IsSound s → KeepsInvariant d s → KeepsInvariant (disks_landed f d) (landed dropped f s)
keeps_landed dropped f d s flies sound c =
    let rises : IsRising f.items = subst (λ (o : Option Flight). IsRising (flight_items o)) flies sound.parts.flight_rises in
    let order : f.number < s.items.open_number = number_below s.items.flight s.items f flies sound.parts.flying in
    record {
      stands = recoverable_landed s.form.ends f d s.items flies rises sound.parts.ail_rises (omega (arith, order)) c.stands;
      form = c.form;
      live = λ still.
          let l = c.live still in
          let n : State = landed_state f d s flies rises sound.parts.ail_rises order l.matches in
          let before : MatchesDisks (disks_landed f d) n = matches_landed f d s flies rises sound.parts.ail_rises order l.matches in
          let fewer : (b : ℕ) (o : Owner) → at b n.owners ≡ Some o → at b s.owners ≡ Some o = λ b o. at_filter_back 0 b o (λ e. not (waits_on f.number e.1)) s.owners sound.parts.owners_rise in
          record {
            matches = matches_settled dropped (disks_landed f d) n sound.kept.committed_rises before;
            own = consistent_settled dropped (disks_landed f d) n (sound_landed s sound dropped f flies) sound.kept.committed_rises before (consistent_fewer n.owners s fewer l.own);
          };
    }

-- an end that failed
pub keeps_failed : (dropped : Dropped) (f : Flight) (d : Disks) (s : State) → KeepsInvariant d s → KeepsInvariant (disks_failed f d) (failed dropped s)
keeps_failed dropped f d s c = record {
  stands = recoverable_failed f d s.items c.stands;
  form = c.form;
  live = λ still. absurd (shut_for_some LogIoError s.shut still);
}

-- a flush on a live mount, whatever the home device answered
pub keeps_flushed : (dropped : Dropped) (answers : HomeAnswers) (d : Disks) (s : State) (home : Image) → is_none s.shut ≡ true → IsHomeAfter (flush_offers answers s) d.home home → IsSound s → KeepsInvariant d s
    → KeepsInvariant (record d { home = home }) (flushed dropped (flush_plan s) answers s).state
keeps_flushed dropped answers d s home live went sound c =
    let l = c.live live in
    let h = l.matches in
    let n : State = flushed_state (gone (flush_plan s) answers) (flush_plan s) answers d s home (flushed_home answers s d.home home went) h in
    let over = flushed_home answers s d.home home went in
    record {
      stands = recoverable_flushed (flush_plan s) answers (content_of s) d home s.items sound.parts.ail_rises over (planned_agrees d s sound.parts.ail_rises (sound.written live) h) c.stands;
      form = c.form;
      live = λ still.
          let before : MatchesDisks (record d { home = home }) n = matches_flushed (gone (flush_plan s) answers) (flush_plan s) answers d s home over h in
          record {
            matches = matches_settled dropped (record d { home = home }) n sound.kept.committed_rises before;
            own = consistent_settled dropped (record d { home = home }) n (sound_flushed dropped (flush_plan s) answers s sound) sound.kept.committed_rises before l.own;
          };
    }
