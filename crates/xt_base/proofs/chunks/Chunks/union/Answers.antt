use Rattle.std.proofs.Common.{◌∙◌, ap}
use Rattle.xt_base.specs.Chunks.{places_of, union}
use Rattle.xt_base.proofs.ChunkLemmas.{places_of-or}
use Rattle.xt_base.proofs.chunks.Chunks.union.Goals as goal

pub returns : goal.returns
returns c =
    places_of-or c.self.inside.bits c.other.inside.bits ∙ ap (λ s. union s (places_of c.other.inside.bits)) c.self.view_is ∙ ap (union c.args.self) c.other.view_is
