use Rattle.std.proofs.Common.{arith, subst, sym, All, Some, ◌≡◌, ◌∙◌}
use Rattle.std.proofs.lemmas.List.Elements.{All-head, All-push, All-same, All-tail}
use Rattle.std.specs.Arc.{arc_value}
use Rattle.std.specs.Vec.Iter.{into_iter_steps}
use Rattle.xt_service.proofs.service.Crew.dismiss.Goals as goal

-- the bench that comes back is of the host, as its thread promised
pub loop-worker-preserved : goal.loop-worker-preserved
loop-worker-preserved g c =
    let host = c.args.host.now in
    let step : into_iter_steps c.loop-worker.worker-iterator (Some c.in-Some.worker) c.next.new.self = subst (λ r. into_iter_steps c.loop-worker.worker-iterator r c.next.new.self) c.in-Some.is c.next.ensures.steps in
    let coming = All-same (λ worker. (worker.promise.0.value.seat.board.board ≡ host.board) × (worker.promise.0.value.pass.queue ≡ arc_value host.queue)) _ _ (sym step.0) c.loop-worker.invariant.coming in
    let own = All-head (λ worker. (worker.promise.0.value.seat.board.board ≡ host.board) × (worker.promise.0.value.pass.queue ≡ arc_value host.queue)) _ _ coming in
    let coming_unsplit = All-same (λ worker. worker.promise.0.value.seat.board.splits ≡ 0) _ _ (sym step.0) c.loop-worker.invariant.coming_unsplit in
    record {
      can_next = tt;
      is_finite = tt;
      room = omega (arith, c.push_reserved.ensures.len, c.push_reserved.ensures.capacity, step.1, c.loop-worker.invariant.room);
      count = omega (arith, c.push_reserved.ensures.len, step.1, c.loop-worker.invariant.count);
      benches = subst (All (λ bench. (bench.seat.board.board ≡ host.board) × (bench.pass.queue ≡ arc_value host.queue))) (sym c.push_reserved.ensures.items)
          (All-push (λ bench. (bench.seat.board.board ≡ host.board) × (bench.pass.queue ≡ arc_value host.queue)) _ _ c.loop-worker.invariant.benches (c.join.ensures.0.used.board ∙ own.0, c.join.ensures.1 ∙ own.1));
      coming = All-tail (λ worker. (worker.promise.0.value.seat.board.board ≡ host.board) × (worker.promise.0.value.pass.queue ≡ arc_value host.queue)) _ _ coming;
      unsplit = subst (All (λ bench. bench.seat.board.splits ≡ 0)) (sym c.push_reserved.ensures.items)
          (All-push (λ bench. bench.seat.board.splits ≡ 0) _ _ c.loop-worker.invariant.unsplit (c.join.ensures.0.used.splits ∙ All-head (λ worker. worker.promise.0.value.seat.board.splits ≡ 0) _ _ coming_unsplit));
      coming_unsplit = All-tail (λ worker. worker.promise.0.value.seat.board.splits ≡ 0) _ _ coming_unsplit;
    }
