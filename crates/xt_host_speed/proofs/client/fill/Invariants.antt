use Rattle.std.proofs.Common.{◌≡◌}
use Rattle.xt_host_speed.proofs.client.fill.Given as goal

-- the seat is of the host's board
abbrev pub invariant-loop-step : goal.invariant-loop-step
invariant-loop-step g l = l.seat.board.board ≡ l.host.board
