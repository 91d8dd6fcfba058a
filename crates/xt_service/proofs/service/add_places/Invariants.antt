use Rattle.std.proofs.Common.{◌≡◌, ◌+◌, vec_len}
use Rattle.slab.specs.Slab.{slab_len}
use Rattle.xt_service.proofs.service.add_places.Given as goal
use Rattle.xt_service.specs.Seats.{IsSplitOff}

-- the seat and the table's host stay, and the table has a place for each turn
abbrev pub invariant-loop : goal.invariant-loop
invariant-loop g l = record {
  own : IsSplitOff l.fn.own l.own;
  splits : l.own.board.splits ≡ l.fn.own.board.splits + l.counter;
  like : l.table.like ≡ l.fn.table.like;
  places : slab_len l.table.sessions + vec_len l.table.free ≡ l.counter;
}
