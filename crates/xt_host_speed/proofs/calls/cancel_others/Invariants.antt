use Rattle.std.proofs.Common.{◌≡◌}
use Rattle.xt_host_speed.proofs.calls.cancel_others.Given as goal

-- the seat is of the host's board
abbrev pub invariant-loop-number : goal.invariant-loop-number
invariant-loop-number g l = l.seat.board.board ≡ l.host.board
