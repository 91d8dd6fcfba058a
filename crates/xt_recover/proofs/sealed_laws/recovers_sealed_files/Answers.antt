use Rattle.xt_recover.proofs.FilesTheorem.{recovers_sealed_files}
use Rattle.xt_recover.proofs.sealed_laws.recovers_sealed_files.Goals as goal

pub returns : goal.returns
returns c = recovers_sealed_files
