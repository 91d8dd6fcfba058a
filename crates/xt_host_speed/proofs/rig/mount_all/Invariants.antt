use Rattle.std.proofs.Common.{◌≡◌}
use Rattle.xt_host_speed.proofs.rig.mount_all.Given as goal

-- the seat is of the host's board
abbrev pub invariant-loop-slot : goal.invariant-loop-slot
invariant-loop-slot g l = l.seat.board.board ≡ l.host.board
