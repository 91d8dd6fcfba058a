use Rattle.std.proofs.Common.{◌≡◌, ◌+◌, All, vec_len}
use Rattle.std.specs.Arc.{arc_value}
use Rattle.std.specs.Vec.Iter.{into_iter_len}
use Rattle.xt_service.proofs.service.Crew.add_all.Given as goal
use Rattle.xt_service.specs.Seats.{IsSplitOff}

-- the seat stays, the workers so far are of the host, and a worker is to come for each pass that is left
abbrev pub invariant-loop-pass : goal.invariant-loop-pass
invariant-loop-pass g l = record {
  can_next : (goal.iterator-loop-pass g).can_next l.pass-iterator;
  is_finite : (goal.iterator-loop-pass g).is_finite l.pass-iterator;
  own : IsSplitOff l.fn.own l.own;
  splits : l.own.board.splits + into_iter_len l.pass-iterator ≡ l.fn.own.board.splits + vec_len l.fn.passes;
  count : vec_len l.self.workers + into_iter_len l.pass-iterator ≡ vec_len l.fn.self.workers + vec_len l.fn.passes;
  workers : All (λ worker. (worker.promise.0.value.seat.board.board ≡ l.host.value.board) × (worker.promise.0.value.pass.queue ≡ arc_value l.host.value.queue)) l.self.workers.items;
}
