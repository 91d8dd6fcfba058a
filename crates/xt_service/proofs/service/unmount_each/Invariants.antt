use Rattle.std.proofs.Common.{take, ◌≡◌}
use Rattle.xt_service.specs.Seats.{IsUsed, Unmounts}
use Rattle.xt_service.proofs.service.unmount_each.Given as goal

-- the seat is of the host's board, and the mounts so far were asked for
abbrev pub invariant-loop-at : goal.invariant-loop-at
invariant-loop-at g l = record {
  board : l.seat.board.board ≡ l.host.board;
  unmounts : Unmounts l.fn.seat (take l.at-index l.mounts) l.seat l.kept;
  used : IsUsed l.fn.seat l.seat;
}
