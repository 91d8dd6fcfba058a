use Rattle.std.proofs.Common.{◌∙◌, ap, sym}
use Rattle.xt_base.specs.Chunks.{word_of}
use Rattle.xt_base.specs.ChunkWords.{word_back}
use Rattle.xt_base.proofs.chunks.Chunks.word.Goals as goal

pub returns-clause-value : goal.returns-clause-value
returns-clause-value c = sym (word_back c.self.inside.bits c.self.invariant) ∙ ap word_of c.self.view_is
