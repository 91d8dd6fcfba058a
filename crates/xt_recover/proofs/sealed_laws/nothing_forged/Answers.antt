use Rattle.xt_recover.proofs.SealedTheorem.{nothing_forged}
use Rattle.xt_recover.proofs.sealed_laws.nothing_forged.Goals as goal

pub returns : goal.returns
returns c = nothing_forged
