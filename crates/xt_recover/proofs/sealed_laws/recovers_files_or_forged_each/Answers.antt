use Rattle.xt_recover.proofs.FilesTheorem.{recovers_files_or_forged}
use Rattle.xt_recover.proofs.SealedTheorem.{of_each}
use Rattle.xt_recover.specs.SealedFiles.{FilesReadBackOrForged}
use Rattle.xt_recover.proofs.sealed_laws.recovers_files_or_forged_each.Goals as goal

pub returns : goal.returns
returns c = of_each FilesReadBackOrForged recovers_files_or_forged
