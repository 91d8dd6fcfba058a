use Rattle.std.proofs.Common.{◌≡◌, ◌≤◌, ◌+◌, All, vec_capacity, vec_len}
use Rattle.std.specs.Arc.{arc_value}
use Rattle.std.specs.Vec.Iter.{into_iter_items, into_iter_len}
use Rattle.xt_service.proofs.room.put_benches.Given as goal

-- there is room for the benches that are to come; all are of the host
abbrev pub invariant-loop-bench : goal.invariant-loop-bench
invariant-loop-bench g l = record {
  can_next : (goal.iterator-loop-bench g).can_next l.bench-iterator;
  is_finite : (goal.iterator-loop-bench g).is_finite l.bench-iterator;
  seats_room : vec_len l.seats + into_iter_len l.bench-iterator ≤ vec_capacity l.seats;
  passes_room : vec_len l.passes + into_iter_len l.bench-iterator ≤ vec_capacity l.passes;
  seats : vec_len l.seats + into_iter_len l.bench-iterator ≡ vec_len l.fn.seats + vec_len l.fn.benches;
  passes : vec_len l.passes + into_iter_len l.bench-iterator ≡ vec_len l.fn.passes + vec_len l.fn.benches;
  boards : All (λ seat. seat.board.board ≡ l.host.board) l.seats.items;
  queues : All (λ pass. pass.queue ≡ arc_value l.host.queue) l.passes.items;
  coming : All (λ bench. (bench.seat.board.board ≡ l.host.board) × (bench.pass.queue ≡ arc_value l.host.queue)) (into_iter_items l.bench-iterator);
  unsplit : All (λ seat. seat.board.splits ≡ 0) l.seats.items;
  coming_unsplit : All (λ bench. bench.seat.board.splits ≡ 0) (into_iter_items l.bench-iterator);
  capacity : vec_capacity l.fn.seats ≤ vec_capacity l.seats;
}
