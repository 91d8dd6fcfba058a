use Rattle.xt_base.proofs.ChunkLemmas.{places_of-zero}
use Rattle.xt_base.proofs.chunks.Chunks.none.Goals as goal

pub returns : goal.returns
returns c = places_of-zero
