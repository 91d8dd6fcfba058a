use Rattle.std.proofs.Common.{arith, subst, sym, All, Some, ◌≡◌}
use Rattle.std.proofs.lemmas.List.Elements.{All-head, All-push, All-same, All-tail}
use Rattle.std.specs.Arc.{arc_value}
use Rattle.std.specs.Vec.Iter.{into_iter_steps}
use Rattle.xt_service.proofs.room.put_benches.Goals as goal

-- the seat and the pass of the next bench are of the host
pub loop-bench-preserved : goal.loop-bench-preserved
loop-bench-preserved g c =
    let host = c.args.host.now in
    let step : into_iter_steps c.loop-bench.bench-iterator (Some c.in-Some.bench) c.next.new.self = subst (λ r. into_iter_steps c.loop-bench.bench-iterator r c.next.new.self) c.in-Some.is c.next.ensures.steps in
    let coming = All-same (λ bench. (bench.seat.board.board ≡ host.board) × (bench.pass.queue ≡ arc_value host.queue)) _ _ (sym step.0) c.loop-bench.invariant.coming in
    let own = All-head (λ bench. (bench.seat.board.board ≡ host.board) × (bench.pass.queue ≡ arc_value host.queue)) _ _ coming in
    let coming_unsplit = All-same (λ bench. bench.seat.board.splits ≡ 0) _ _ (sym step.0) c.loop-bench.invariant.coming_unsplit in
    record {
      can_next = tt;
      is_finite = tt;
      seats_room = omega (arith, c.push_reserved.ensures.len, c.push_reserved.ensures.capacity, step.1, c.loop-bench.invariant.seats_room);
      passes_room = omega (arith, c.push_reserved-in-loop-bench.ensures.len, c.push_reserved-in-loop-bench.ensures.capacity, step.1, c.loop-bench.invariant.passes_room);
      seats = omega (arith, c.push_reserved.ensures.len, step.1, c.loop-bench.invariant.seats);
      passes = omega (arith, c.push_reserved-in-loop-bench.ensures.len, step.1, c.loop-bench.invariant.passes);
      boards = subst (All (λ seat. seat.board.board ≡ host.board)) (sym c.push_reserved.ensures.items) (All-push (λ seat. seat.board.board ≡ host.board) _ _ c.loop-bench.invariant.boards own.0);
      queues = subst (All (λ pass. pass.queue ≡ arc_value host.queue)) (sym c.push_reserved-in-loop-bench.ensures.items) (All-push (λ pass. pass.queue ≡ arc_value host.queue) _ _ c.loop-bench.invariant.queues own.1);
      coming = All-tail (λ bench. (bench.seat.board.board ≡ host.board) × (bench.pass.queue ≡ arc_value host.queue)) _ _ coming;
      unsplit = subst (All (λ seat. seat.board.splits ≡ 0)) (sym c.push_reserved.ensures.items) (All-push (λ seat. seat.board.splits ≡ 0) _ _ c.loop-bench.invariant.unsplit (All-head (λ bench. bench.seat.board.splits ≡ 0) _ _ coming_unsplit));
      coming_unsplit = All-tail (λ bench. bench.seat.board.splits ≡ 0) _ _ coming_unsplit;
      capacity = omega (arith, c.push_reserved.ensures.capacity, c.loop-bench.invariant.capacity);
    }
