use Rattle.std.proofs.Common.{length}
use Rattle.xt_ckpt.specs.Pieces.{IsOf, to_come}
use Rattle.xt_parts_tests.proofs.texts.one_by_one.Given as goal

abbrev pub invariant-loop-pieces : goal.invariant-loop-pieces
invariant-loop-pieces l = IsOf l.items l.writer

abbrev pub decreases-loop-pieces : goal.decreases-loop-pieces
decreases-loop-pieces l = length (to_come l.items l.writer)
