use Rattle.std.proofs.Common.{arith}
use Rattle.xt_base.proofs.ChunkLemmas.{run_marks}
use Rattle.xt_base.proofs.chunks.Chunks.mark.Goals as goal

pub returns : goal.returns
returns c = run_marks c.args.first c.args.n (omega arith) c.requires
