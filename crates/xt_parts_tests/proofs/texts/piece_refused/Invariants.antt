use Rattle.xt_ckpt.specs.Pieces.{IsOf}
use Rattle.xt_parts_tests.proofs.texts.piece_refused.Given as goal

abbrev pub invariant-loop-len : goal.invariant-loop-len
invariant-loop-len g l = IsOf l.items l.writer
