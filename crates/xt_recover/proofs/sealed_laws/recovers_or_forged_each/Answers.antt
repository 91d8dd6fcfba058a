use Rattle.xt_recover.proofs.SealedTheorem.{of_each, recovers_or_forged}
use Rattle.xt_recover.specs.SealedPromise.{ReadsBackOrForged}
use Rattle.xt_recover.proofs.sealed_laws.recovers_or_forged_each.Goals as goal

pub returns : goal.returns
returns c = of_each ReadsBackOrForged recovers_or_forged
