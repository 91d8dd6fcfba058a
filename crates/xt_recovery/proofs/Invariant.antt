-- What holds of a mount with its disks after each step.
use Rattle.std.proofs.Common.{true, ◌≡◌}
use Rattle.std.specs.Prelude.{is_none}
use Rattle.xt_base.specs.State.{State}
use Rattle.xt_recovery.proofs.Consistent.{IsConsistent}
use Rattle.xt_recovery.proofs.Matching.{MatchesDisks}
use Rattle.xt_recovery.proofs.Recoverable.{IsRecoverable}
use Rattle.xt_recovery.specs.Disks.{Disks}

-- what holds of a live mount with its disks
pub record IsLive (d : Disks) (s : State) : Type 0 where
  pub matches : MatchesDisks d s
  pub own : IsConsistent s

-- it holds while the mount is not shut
abbrev pub IsLiveUnlessShut : Disks → State → Type 0
IsLiveUnlessShut d s = is_none s.shut ≡ true → IsLive d s

-- what holds of any mount with its disks
pub record KeepsInvariant (d : Disks) (s : State) : Type 0 where
  pub stands : IsRecoverable d s.items
  pub form : s.form ≡ d.form
  pub live : IsLiveUnlessShut d s
