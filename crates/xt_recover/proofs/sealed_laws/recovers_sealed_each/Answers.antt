use Rattle.xt_recover.proofs.SealedTheorem.{of_each, recovers_sealed}
use Rattle.xt_recover.specs.SealedPromise.{RecoversUnlessForged}
use Rattle.xt_recover.proofs.sealed_laws.recovers_sealed_each.Goals as goal

pub returns : goal.returns
returns c = of_each RecoversUnlessForged recovers_sealed
