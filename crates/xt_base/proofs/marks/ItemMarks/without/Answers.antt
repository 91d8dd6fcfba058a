use Rattle.std.proofs.Common.{◌∙◌, ap}
use Rattle.xt_base.proofs.MarkLemmas.{marks_without}
use Rattle.xt_base.specs.Marks.{but_marks, marks_in}
use Rattle.xt_base.proofs.marks.ItemMarks.without.Goals as goal

pub returns : goal.returns
returns c =
    ap marks_in (c.difference.ensures tt) ∙ marks_without c.args.self.0 c.bits-less.result c.bits-less.type_inv
    ∙ ap (λ (n : _). but_marks (marks_in n) (marks_in c.args.self.0)) (c.bits-less.ensures tt)
