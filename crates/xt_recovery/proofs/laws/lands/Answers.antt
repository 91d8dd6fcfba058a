use Rattle.xt_recovery.proofs.Witness.{it_lands}
use Rattle.xt_recovery.proofs.laws.lands.Goals as goal

pub returns : goal.returns
returns c = it_lands
