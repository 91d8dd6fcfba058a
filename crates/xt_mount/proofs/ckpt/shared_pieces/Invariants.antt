use Rattle.std.proofs.Common.{◌≡◌, take}
use Rattle.xt_mount.proofs.ckpt.shared_pieces.Given as goal

-- the pieces so far
abbrev pub invariant-loop-piece : goal.invariant-loop-piece
invariant-loop-piece l = l.shared.items ≡ take l.piece-index l.pieces
