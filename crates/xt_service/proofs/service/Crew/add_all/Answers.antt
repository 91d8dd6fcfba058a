use Rattle.std.proofs.Common.{ap, arith, rules, subst, sym, All, Some, ◌≡◌, ◌∙◌}
use Rattle.std.proofs.lemmas.List.Elements.{All-push}
use Rattle.std.specs.Arc.{arc_value}
use Rattle.std.specs.Vec.Iter.{into_iter_steps}
use Rattle.xt_cell.specs.HostSeats.{HostSeatView, with_split}
use Rattle.xt_queue.specs.Seats.{SeatView}
use Rattle.xt_service.proofs.SplitLemmas.{split_more}
use Rattle.xt_service.proofs.service.Crew.add_all.Goals as goal

-- the worker that is hired is of the host, as its thread promised
pub loop-pass-preserved : goal.loop-pass-preserved
loop-pass-preserved g c =
    let host = c.args.host.now.value in
    let split : c.seat.new.seat ≡ with_split c.loop-pass.own = search rules in
    let before = subst (All (λ worker. (worker.promise.0.value.seat.board.board ≡ host.board) × (worker.promise.0.value.pass.queue ≡ arc_value host.queue))) (sym c.reserve.ensures.items) c.loop-pass.invariant.workers in
    let step : into_iter_steps c.loop-pass.pass-iterator (Some c.in-Some.pass) c.next.new.self = subst (λ r. into_iter_steps c.loop-pass.pass-iterator r c.next.new.self) c.in-Some.is c.next.ensures.steps in
    record {
      can_next = tt;
      is_finite = tt;
      own = split_more _ _ _ c.loop-pass.invariant.own split;
      splits = (let more = ap (λ (s : HostSeatView). s.board.splits) split in omega (arith, more, step.1, c.loop-pass.invariant.splits));
      count = omega (arith, c.push_reserved.ensures.len, c.reserve.ensures.len, step.1, c.loop-pass.invariant.count);
      workers = subst (All (λ worker. (worker.promise.0.value.seat.board.board ≡ host.board) × (worker.promise.0.value.pass.queue ≡ arc_value host.queue))) (sym c.push_reserved.ensures.items)
          (All-push (λ worker. (worker.promise.0.value.seat.board.board ≡ host.board) × (worker.promise.0.value.pass.queue ≡ arc_value host.queue)) _ _ before (c.in-Ok.ensures.board, c.in-Ok.ensures.queue));
    }

-- and off its seat none was split
pub invariant_of-self-in-Ok : goal.invariant_of-self-in-Ok
invariant_of-self-in-Ok g c =
    let before = subst (All (λ worker. worker.promise.0.value.seat.board.splits ≡ 0)) (sym c.reserve.ensures.items) c.loop-pass.self.unsplit in
    let fresh = ap (λ (b : SeatView). b.splits) c.in_ok-seat.ensures.fresh in
    record {
      unsplit = subst (All (λ worker. worker.promise.0.value.seat.board.splits ≡ 0)) (sym c.push_reserved.ensures.items)
          (All-push (λ worker. worker.promise.0.value.seat.board.splits ≡ 0) _ _ before (ap (λ bench. bench.seat.board.splits) c.in-Ok.ensures.bench ∙ fresh));
    }
