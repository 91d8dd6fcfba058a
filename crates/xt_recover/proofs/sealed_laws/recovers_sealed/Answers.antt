use Rattle.xt_recover.proofs.SealedTheorem.{recovers_sealed}
use Rattle.xt_recover.proofs.sealed_laws.recovers_sealed.Goals as goal

pub returns : goal.returns
returns c = recovers_sealed
