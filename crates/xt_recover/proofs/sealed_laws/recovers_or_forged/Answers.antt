use Rattle.xt_recover.proofs.SealedTheorem.{recovers_or_forged}
use Rattle.xt_recover.proofs.sealed_laws.recovers_or_forged.Goals as goal

pub returns : goal.returns
returns c = recovers_or_forged
