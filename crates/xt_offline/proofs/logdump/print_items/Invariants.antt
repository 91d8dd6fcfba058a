use Rattle.std.proofs.Common.{take}
use Rattle.std.specs.Io.KnownBytes.{Appends}
use Rattle.xt_offline.specs.LogDump.{item_lines}
use Rattle.xt_offline.proofs.logdump.print_items.Given as goal

abbrev pub invariant-loop-item : goal.invariant-loop-item
invariant-loop-item g l = Appends (g.W.Write.contents l.fn.writer) (g.W.Write.contents l.writer) (item_lines (take l.item-index l.items))
