use Rattle.std.proofs.Common.{◌≡◌}
use Rattle.std.specs.Arc.{arc_value}
use Rattle.xt_host_torture.proofs.served.take_all.Given as goal

-- seat and pass are of the host's board and queue
abbrev pub invariant-loop-step : goal.invariant-loop-step
invariant-loop-step g l = record {
  queue : l.pass.queue ≡ arc_value l.host.queue;
  board : l.seat.board.board ≡ l.host.board;
}
