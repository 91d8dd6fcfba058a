use Rattle.std.proofs.Common.{◌∙◌, ap, arith, if◌then◌else◌, not}
use Rattle.std.specs.Prelude.{◌&&◌}
use Rattle.xt_base.specs.Maps.{has}
use Rattle.xt_base.specs.Text.{chunk}
use Rattle.xt_frames.specs.Kept.{Kept, restored}
use Rattle.xt_frames.proofs.KeptLemmas.{put_back_is}
use Rattle.xt_frames.proofs.kept.KeptChunks.put_back.Goals as goal

pub returns-clause-value : goal.returns-clause-value
returns-clause-value c =
    let new = c.copy_chunks.new.to in
    let now = c.args.content.now in
    let kept : Kept = record { chunks = c.self.inside.chunks; bytes = c.self.inside.bytes } in
    put_back_is kept new now (omega (arith, c.content_len-size.ensures.value, c.content_len-size.ensures.short))
    (λ k lt. c.copy_chunks.ensures.chunks k lt ∙ ap (λ none. if has kept.chunks k && not (has none k) then chunk kept.bytes k else chunk now k) c.none.ensures)
    ∙ ap (λ (x : Kept). restored x now) c.self.view_is
