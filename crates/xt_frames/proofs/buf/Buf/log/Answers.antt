use Rattle.std.proofs.Common.{◌∙◌, ap}
use Rattle.xt_frames.specs.Kept.{Framed, before_edits, framed, logged}
use Rattle.xt_frames.proofs.KeptLemmas.{framed_kept}
use Rattle.xt_frames.proofs.buf.Buf.log.Goals as goal

pub returns-clause-ok : goal.returns-clause-ok
returns-clause-ok c =
    let now = c.self.inside in
    let old : Framed = framed now.content now.kept in
    let room = c.in_ok-kept.ensures.ok ∙ ap (λ o. before_edits o now.content) c.take.ensures.value in
    framed_kept c.in_ok-kept.kept c.write.new.self now.kept c.write.new.content now.content c.write.ensures.same room
    ∙ ap (λ content. record old { edit = content }) c.write.ensures.content ∙ ap (logged c.args.first c.args.bytes.now) c.self.view_is
