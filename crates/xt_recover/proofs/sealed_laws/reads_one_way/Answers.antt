use Rattle.xt_recover.proofs.SealedReads.{reads_once}
use Rattle.xt_recover.proofs.sealed_laws.reads_one_way.Goals as goal

pub returns : goal.returns
returns c = reads_once
