use Rattle.std.proofs.Common.{◌≤◌}
use Rattle.xt_items.proofs.CleanLemmas.{AreSeen}
use Rattle.xt_items.proofs.clean.written_bits.Given as goal

abbrev pub invariant-loop-i : goal.invariant-loop-i
invariant-loop-i l = record {
  small : l.gone ≤ l.i;
  seen : AreSeen l.blocks l.answers l.i l.gone l.bits;
}
