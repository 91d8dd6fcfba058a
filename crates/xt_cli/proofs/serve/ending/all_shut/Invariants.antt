use Rattle.std.proofs.Common.{take, ◌≡◌}
use Rattle.xt_cli.specs.Ends.{Looks}
use Rattle.xt_cli.proofs.serve.ending.all_shut.Given as goal

-- the seat is of the host's board, and the slots so far were looked at
abbrev pub invariant-loop-at : goal.invariant-loop-at
invariant-loop-at g l = record {
  board : l.seat.board.board ≡ l.host.board;
  looks : Looks l.fn.seat (take l.at-index l.mounts) l.seat l.shut;
}
