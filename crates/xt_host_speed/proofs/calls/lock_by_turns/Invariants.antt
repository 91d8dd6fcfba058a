use Rattle.std.proofs.Common.{◌<◌, ◌≡◌}
use Rattle.xt_host_speed.proofs.calls.lock_by_turns.Given as goal

-- the seat is of the host's board, and the next turn is one of the busy blocks'
abbrev pub invariant-loop-number : goal.invariant-loop-number
invariant-loop-number g l = record {
  board : l.seat.board.board ≡ l.host.board;
  turn : l.turn < 256;
}
