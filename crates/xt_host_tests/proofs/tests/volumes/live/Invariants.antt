use Rattle.std.proofs.Common.{◌≡◌}
use Rattle.std.specs.Arc.{arc_value}
use Rattle.xt_host_tests.proofs.tests.volumes.live.Given as goal

-- the tenant is of the host's queue and board
abbrev pub invariant-loop-round : goal.invariant-loop-round
invariant-loop-round g l = record {
  queue : l.tenant.pass.queue ≡ arc_value l.host.queue;
  board : l.tenant.seat.board.board ≡ l.host.board;
}
