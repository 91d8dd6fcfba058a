use Rattle.std.proofs.Common.{◌≡◌}
use Rattle.xt_host_example.proofs.calls.cancel.Given as goal

-- the seat is of the host's board
abbrev pub invariant-loop : goal.invariant-loop
invariant-loop g l = l.seat.board.board ≡ l.host.board
