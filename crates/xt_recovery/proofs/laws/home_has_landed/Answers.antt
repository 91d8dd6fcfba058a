use Rattle.xt_recovery.proofs.LifeTheorem.{home_has_landed}
use Rattle.xt_recovery.proofs.laws.home_has_landed.Goals as goal

pub returns : goal.returns
returns c = home_has_landed
