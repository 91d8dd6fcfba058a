use Rattle.std.proofs.Common.{◌≡◌}
use Rattle.xt_host_tests.proofs.tests.lines.first_wrong.Given as goal

abbrev pub invariant-loop-place : goal.invariant-loop-place
invariant-loop-place g l = l.seat.board.board ≡ l.host.board
