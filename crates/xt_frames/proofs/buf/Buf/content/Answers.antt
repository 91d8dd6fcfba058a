use Rattle.std.proofs.Common.{◌∙◌, ap, arith, length, sym}
use Rattle.xt_frames.specs.Kept.{Framed}
use Rattle.xt_frames.proofs.KeptLemmas.{before_length}
use Rattle.xt_frames.proofs.buf.Buf.content.Goals as goal

pub returns-clause-size : goal.returns-clause-size
returns-clause-size c =
    let now = c.self.inside in
    sym (before_length now.kept now.content c.self.invariant (omega (arith, c.content_len-size.ensures.value, c.content_len-size.ensures.short))) ∙ ap (λ (f : Framed). length f.committed) c.self.view_is
