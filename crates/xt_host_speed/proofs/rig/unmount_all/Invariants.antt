use Rattle.std.proofs.Common.{◌≡◌}
use Rattle.xt_host_speed.proofs.rig.unmount_all.Given as goal

-- the seat is of the host's board
abbrev pub invariant-loop-at : goal.invariant-loop-at
invariant-loop-at g l = l.client.seat.board.board ≡ l.host.board
