use Rattle.std.proofs.Common.{◌≡◌}
use Rattle.std.specs.Arc.{arc_value}
use Rattle.xt_host_speed.proofs.crew.write_out_all.Given as goal

-- the client is of the host's queue and board
abbrev pub invariant-loop-at : goal.invariant-loop-at
invariant-loop-at g l = record {
  queue : l.client.pass.queue ≡ arc_value l.host.queue;
  board : l.client.seat.board.board ≡ l.host.board;
}
