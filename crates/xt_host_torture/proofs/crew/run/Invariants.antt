use Rattle.std.proofs.Common.{◌≡◌}
use Rattle.xt_host_torture.proofs.crew.run.Given as goal

-- the seat is of the host's board
abbrev pub invariant-loop-index : goal.invariant-loop-index
invariant-loop-index g l = l.seat.board.board ≡ l.host.board
