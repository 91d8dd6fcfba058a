use Rattle.xt_recover.proofs.FilesTheorem.{recovers_sealed_files}
use Rattle.xt_recover.proofs.SealedTheorem.{of_each}
use Rattle.xt_recover.specs.SealedFiles.{FilesRecoverUnlessForged}
use Rattle.xt_recover.proofs.sealed_laws.recovers_sealed_files_each.Goals as goal

pub returns : goal.returns
returns c = of_each FilesRecoverUnlessForged recovers_sealed_files
