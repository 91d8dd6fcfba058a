use Rattle.std.proofs.Common.{◌∙◌, ap, sym, length}
use Rattle.xt_base.proofs.ChunkLemmas.{length-places_of}
use Rattle.xt_base.proofs.chunks.Chunks.count.Goals as goal

pub returns-clause-value : goal.returns-clause-value
returns-clause-value c = sym (length-places_of c.self.inside.bits c.self.invariant) ∙ ap length c.self.view_is
