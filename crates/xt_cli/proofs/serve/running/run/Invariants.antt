use Rattle.std.proofs.Common.{◌≡◌}
use Rattle.xt_cli.proofs.serve.running.run.Given as goal

-- the seat is of the host's board
abbrev pub invariant-loop-opened : goal.invariant-loop-opened
invariant-loop-opened g l = l.seat.board.board ≡ l.host.board
