use Rattle.std.proofs.Common.{take}
use Rattle.xt_items.proofs.sieved.bits_of.Given as goal
use Rattle.xt_items.specs.Sieves.{ArePassed}

abbrev pub invariant-loop-entry : goal.invariant-loop-entry
invariant-loop-entry g l = ArePassed l.bits (take l.entry-index l.entries)
