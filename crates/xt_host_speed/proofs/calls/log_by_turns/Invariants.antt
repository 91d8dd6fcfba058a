use Rattle.std.proofs.Common.{◌≡◌}
use Rattle.xt_host_speed.proofs.calls.log_by_turns.Given as goal

-- the seat is of the host's board
abbrev pub invariant-loop-turn : goal.invariant-loop-turn
invariant-loop-turn g l = l.seat.board.board ≡ l.host.board
