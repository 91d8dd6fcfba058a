use Rattle.std.proofs.Common.{◌≡◌}
use Rattle.std.specs.Arc.{arc_value}
use Rattle.xt_host_speed.proofs.crew.serve_share.Given as goal

-- the caller is of the host's queue and board
abbrev pub invariant-loop-number : goal.invariant-loop-number
invariant-loop-number g l = record {
  queue : l.client.pass.queue ≡ arc_value l.host.queue;
  board : l.client.seat.board.board ≡ l.host.board;
}
