use Rattle.std.proofs.Common.{All, take}
use Rattle.xt_ckpt.specs.Entries.{IsStored}
use Rattle.xt_ckpt.proofs.writing.are_stored.Given as goal

abbrev pub invariant-loop-index : goal.invariant-loop-index
invariant-loop-index g l = All IsStored (take l.index (g.S.ItemSource.entries l.items))
