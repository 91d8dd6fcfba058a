use Rattle.std.proofs.Common.{◌∙◌, ap}
use Rattle.xt_base.proofs.MarkLemmas.{marks_or}
use Rattle.xt_base.specs.Marks.{marks_in}
use Rattle.xt_base.proofs.marks.ItemMarks.with.Goals as goal

pub returns : goal.returns
returns c = ap marks_in (c.union.ensures tt) ∙ marks_or c.args.self.0 c.args.mark.0
