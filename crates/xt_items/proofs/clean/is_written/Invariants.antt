use Rattle.std.proofs.Common.{◌≡◌, drop}
use Rattle.xt_base.specs.Jobs.{written}
use Rattle.xt_base.specs.Maps.{has}
use Rattle.xt_items.proofs.clean.is_written.Given as goal

abbrev pub invariant-loop-i : goal.invariant-loop-i
invariant-loop-i l = has (written (drop l.i l.blocks) (drop l.i l.answers)) l.block ≡ has (written l.blocks l.answers) l.block
