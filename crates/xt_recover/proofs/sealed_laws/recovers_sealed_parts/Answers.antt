use Rattle.xt_recover.proofs.FilesTheorem.{recovers_sealed_parts}
use Rattle.xt_recover.proofs.sealed_laws.recovers_sealed_parts.Goals as goal

pub returns : goal.returns
returns c = recovers_sealed_parts
