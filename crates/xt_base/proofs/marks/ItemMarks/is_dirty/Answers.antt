use Rattle.std.proofs.Common.{◌∙◌}
use Rattle.xt_base.proofs.MarkLemmas.{test_is}
use Rattle.xt_base.proofs.marks.ItemMarks.is_dirty.Goals as goal

pub returns : goal.returns
returns c = c.contains.ensures tt ∙ test_is c.args.self.0 2
