use Rattle.std.proofs.Common.{◌≡◌, ◌≤◌, ◌+◌, All, vec_capacity, vec_len}
use Rattle.std.specs.Arc.{arc_value}
use Rattle.std.specs.Vec.Iter.{into_iter_items, into_iter_len}
use Rattle.xt_service.proofs.service.Crew.dismiss.Given as goal

-- the benches that came back are of the host, no seat was split off theirs, and there is room for those that are to come
abbrev pub invariant-loop-worker : goal.invariant-loop-worker
invariant-loop-worker g l = record {
  can_next : (goal.iterator-loop-worker g).can_next l.worker-iterator;
  is_finite : (goal.iterator-loop-worker g).is_finite l.worker-iterator;
  room : vec_len l.benches + into_iter_len l.worker-iterator ≤ vec_capacity l.benches;
  count : vec_len l.benches + into_iter_len l.worker-iterator ≡ vec_len l.fn.self.workers;
  benches : All (λ bench. (bench.seat.board.board ≡ l.host.board) × (bench.pass.queue ≡ arc_value l.host.queue)) l.benches.items;
  coming : All (λ worker. (worker.promise.0.value.seat.board.board ≡ l.host.board) × (worker.promise.0.value.pass.queue ≡ arc_value l.host.queue)) (into_iter_items l.worker-iterator);
  unsplit : All (λ bench. bench.seat.board.splits ≡ 0) l.benches.items;
  coming_unsplit : All (λ worker. worker.promise.0.value.seat.board.splits ≡ 0) (into_iter_items l.worker-iterator);
}
