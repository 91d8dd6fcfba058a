use Rattle.std.proofs.Common.{ap, subst, ◌++◌, ◌∙◌}
use Rattle.std.proofs.lemmas.List.{append_assoc}
use Rattle.xt_service.proofs.SeatLemmas.{has_after}
use Rattle.xt_service.proofs.bench.Bench.work_until.Goals as goal
use Rattle.xt_service.specs.Seats.{HasWorked}

-- the names that were taken last were done, after those before
pub returns-then-is_last-clause-worked : goal.returns-then-is_last-clause-worked
returns-then-is_last-clause-worked g c =
    let held = c.loop.invariant in
    let work = subst (λ w. HasWorked w c.work.new.self.pass.taken c.loop.self.seat c.work.new.self.seat) held.worker c.work.ensures.worked in
    let so_far = has_after _ _ _ _ _ _ _ c.work.ensures.taken.1 held.worked work in
    let again = subst (λ w. HasWorked w c.work-in-loop.new.self.pass.taken c.work.new.self.seat c.work-in-loop.new.self.seat) (c.work.ensures.worker ∙ held.worker) c.work-in-loop.ensures.worked in
    has_after _ _ _ _ _ _ _ c.work-in-loop.ensures.taken.1 so_far again

pub loop-preserved : goal.loop-preserved
loop-preserved g c =
    let held = c.loop.invariant in
    let taken = c.work.ensures.taken in
    let more = c.work-in-loop.ensures.taken in
    let work = subst (λ w. HasWorked w c.work.new.self.pass.taken c.loop.self.seat c.work.new.self.seat) held.worker c.work.ensures.worked in
    let so_far = has_after _ _ _ _ _ _ _ taken.1 held.worked work in
    let again = subst (λ w. HasWorked w c.work-in-loop.new.self.pass.taken c.work.new.self.seat c.work-in-loop.new.self.seat) (c.work.ensures.worker ∙ held.worker) c.work-in-loop.ensures.worked in
    let names = held.taken.0 ++ taken.0 in
    let has = taken.1 ∙ ap (λ so. so ++ taken.0) held.taken.1 ∙ append_assoc c.args.self.now.pass.taken held.taken.0 taken.0 in
    record {
      board = c.work-in-loop.ensures.board;
      queue = c.work-in-loop.ensures.queue;
      worker = c.work-in-loop.ensures.worker ∙ c.work.ensures.worker ∙ held.worker;
      taken = (names ++ more.0, more.1 ∙ ap (λ so. so ++ more.0) has ∙ append_assoc c.args.self.now.pass.taken names more.0);
      worked = has_after _ _ _ _ _ _ _ more.1 so_far again;
    }
