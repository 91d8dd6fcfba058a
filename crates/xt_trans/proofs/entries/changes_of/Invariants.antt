use Rattle.std.proofs.Common.{◌≡◌, ◌++◌, drop}
use Rattle.xt_trans.specs.ChangeMarks.{change_marks}
use Rattle.xt_trans.specs.LegItems.{leg_of}
use Rattle.xt_trans.proofs.entries.changes_of.Given as goal

abbrev pub invariant-loop-e : goal.invariant-loop-e
invariant-loop-e l = l.changes.items ++ change_marks (leg_of (drop l.e-index l.items)).changes ≡ change_marks (leg_of l.items).changes
