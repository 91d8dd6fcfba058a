use Rattle.std.proofs.Common.{◌≡◌}
use Rattle.xt_host_tests.proofs.tests.waiting.sees_others.Given as goal

-- the seat is of the host's board
abbrev pub invariant-loop-look : goal.invariant-loop-look
invariant-loop-look g l = l.seat.board.board ≡ l.host.board
