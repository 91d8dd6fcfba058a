-- The total of the pieces so far.
use Rattle.std.proofs.Common.{◌≡◌, ◌-◌, ◌^◌, length, min, sum_by, take}
use Rattle.xt_dev.proofs.offer.length_of.Given as goal

abbrev pub invariant-loop-piece : goal.invariant-loop-piece
invariant-loop-piece l = l.total ≡ min (sum_by length (take l.piece-index l.pieces)) (2 ^ 64 - 1)
