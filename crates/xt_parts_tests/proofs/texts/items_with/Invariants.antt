use Rattle.std.proofs.Common.{All}
use Rattle.xt_ckpt.specs.Items.{HasForm}
use Rattle.xt_parts_tests.proofs.texts.items_with.Given as goal

abbrev pub invariant-loop-block : goal.invariant-loop-block
invariant-loop-block l = All HasForm l.items.items
