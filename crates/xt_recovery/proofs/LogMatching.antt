-- What the item lists of a mount have to do with the texts on its log.
use Rattle.std.proofs.Common.{List, None, Option, Some, [], ◌+◌, ◌++◌, ◌∷◌, ◌≡◌, ℕ}
use Rattle.xt_base.specs.Space.{cost, still_needed}
use Rattle.xt_base.specs.State.{Flight, Items, State}
use Rattle.xt_recovery.specs.Disks.{Disks}
use Rattle.xt_recovery.specs.Log.{CheckpointText}
use Rattle.xt_recovery.specs.Numbers.{AreConsecutive, IsNext}

-- what each text of a log costs, by its number, the oldest first
abbrev pub costs_of : ℕ → List CheckpointText → List (ℕ × ℕ)
costs_of ends [] = []
costs_of ends (w ∷ ws) = costs_of ends ws ++ (w.number, cost ends w.items) ∷ []

-- the item lists of a mount match its log
pub record MatchesLog (d : Disks) (l : Items) : Type 0 where
  -- the landed checkpoints that the mount counts are the texts of the log that its active list needs
  pub counted : still_needed l.ail (costs_of d.form.ends d.log) ≡ l.landed
  -- where none failed and none is in flight the open checkpoint comes next behind the log
  pub resting : d.failed ≡ None → l.flight ≡ None → IsNext l.open_number d.log
  -- the one in flight does, and behind it the open one
  pub flying : (f : Flight) → l.flight ≡ Some f → IsNext f.number d.log × (f.number + 1 ≡ l.open_number)

-- those of a slot's mount, if there is one
abbrev pub MountMatchesLog : Disks → Option State → Type 0
MountMatchesLog d None = Unit {0}
MountMatchesLog d (Some m) = MatchesLog d m.items

-- what holds of the log of a slot after each step
pub record LogInvariant (d : Disks) (o : Option State) : Type 0 where
  pub consecutive : AreConsecutive d.log
  pub mount : MountMatchesLog d o
  pub failed : (w : CheckpointText) → d.failed ≡ Some w → IsNext w.number d.log
