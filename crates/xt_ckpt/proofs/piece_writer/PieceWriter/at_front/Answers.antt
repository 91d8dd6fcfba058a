use Rattle.std.proofs.Common.{◌∙◌}
use Rattle.xt_ckpt.proofs.Places.{front_text, whole_text}
use Rattle.xt_ckpt.proofs.piece_writer.PieceWriter.at_front.Goals as goal

pub returns-clause-text : goal.returns-clause-text
returns-clause-text c = λ es count.
    front_text (record { number = c.args.number; size = c.args.size; count = c.args.count }) es c.front.result c.front.ensures.0 c.front.ensures.1
    ∙ whole_text c.args.size c.args.number c.args.count es count
