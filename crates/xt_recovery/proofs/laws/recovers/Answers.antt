use Rattle.xt_recovery.proofs.LifeTheorem.{kept_at_crash}
use Rattle.xt_recovery.proofs.laws.recovers.Goals as goal

pub returns : goal.returns
returns c = kept_at_crash
