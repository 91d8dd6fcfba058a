use Rattle.xt_recover.proofs.FilesTheorem.{recovers_files_or_forged}
use Rattle.xt_recover.proofs.sealed_laws.recovers_files_or_forged.Goals as goal

pub returns : goal.returns
returns c = recovers_files_or_forged
