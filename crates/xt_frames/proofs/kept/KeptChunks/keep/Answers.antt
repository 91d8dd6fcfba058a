use Rattle.std.proofs.Common.{◌∙◌, ap}
use Rattle.xt_frames.specs.Kept.{Kept, restored}
use Rattle.xt_frames.proofs.KeptLemmas.{restored_kept}
use Rattle.xt_frames.proofs.kept.KeptChunks.keep.Goals as goal

pub returns-clause-same : goal.returns-clause-same
returns-clause-same c =
    ap (λ chunks. restored (record { chunks = chunks; bytes = c.copy_chunks.new.to }) c.args.content.now) c.union-self-inside.ensures
    ∙ restored_kept c.self.inside.chunks c.args.chunks c.copy_chunks.new.to c.self.inside.bytes c.args.content.now c.copy_chunks.ensures.chunks
    ∙ ap (λ (k : Kept). restored k c.args.content.now) c.self.view_is
