use Rattle.std.proofs.Common.{◌∙◌, ap, arith, sym}
use Rattle.xt_frames.specs.Kept.{before_edits, restored}
use Rattle.xt_frames.proofs.KeptLemmas.{restored_none}
use Rattle.xt_frames.proofs.buf.kept_or_room.Goals as goal

pub returns-in_ok-room-in-None-clause-ok : goal.returns-in_ok-room-in-None-clause-ok
returns-in_ok-room-in-None-clause-ok c =
    ap (λ k. restored k c.args.content.now) c.none.ensures ∙ restored_none c.in_ok-room-in-None.room c.args.content.now (omega (arith, c.content_len-size.ensures.value, c.content_len-size.ensures.short))
    ∙ ap (λ o. before_edits o c.args.content.now) (sym c.in-None.is)
