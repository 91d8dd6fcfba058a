use Rattle.std.proofs.Common.{◌∙◌}
use Rattle.xt_ckpt.proofs.Entries.{entry_count, same_text}
use Rattle.xt_ckpt.specs.Grammar.{entries}
use Rattle.xt_ckpt.proofs.piece_writer.PieceWriter.new.Goals as goal

pub returns-clause-of : goal.returns-clause-of
returns-clause-of c = λ items count. c.at_front.ensures.of (entries items) (entry_count items ∙ count)

pub returns-clause-text : goal.returns-clause-text
returns-clause-text c = λ items count. c.at_front.ensures.text (entries items) (entry_count items ∙ count) ∙ same_text c.args.size c.args.number items
