use Rattle.std.proofs.Common.{[], ap, arith, ◌++◌, ◌∙◌, ◌∷◌}
use Rattle.std.proofs.lemmas.List.{append_assoc}
use Rattle.xt_host.proofs.WorkLemmas.{taken_last, worked_taken}
use Rattle.xt_host.proofs.work.Host+H+Slots+H.work.Goals as goal

pub returns-in-Some-work_on-clause-worked : goal.returns-in-Some-work_on-clause-worked
returns-in-Some-work_on-clause-worked g c =
    let taken = c.in-Some-take.ensures in
    worked_taken _ _ _ _ _ _ _ _ _ taken.worker c.worker.ensures taken.taken c.loop.invariant.worked c.work_on.ensures.worked

pub returns-in-Some-work_on-clause-back : goal.returns-in-Some-work_on-clause-back
returns-in-Some-work_on-clause-back g c =
    let back = c.in-Some-work_on.ensures.back in
    (back.0 ∙ c.worker.ensures, taken_last _ _ _ _ c.in-Some-take.ensures.taken back.1)

pub loop-preserved : goal.loop-preserved
loop-preserved g c =
    let taken = c.in-Some-take.ensures in
    let held = c.loop.invariant in
    record {
      queue = taken.queue ∙ held.queue;
      worker = taken.worker ∙ held.worker;
      taken = (held.taken.0 ++ c.in-Some-take.name ∷ [], taken.taken ∙ ap (λ names. names ++ c.in-Some-take.name ∷ []) held.taken.1 ∙ append_assoc c.args.pass.now.taken held.taken.0 (c.in-Some-take.name ∷ []));
      board = c.work_on.ensures.board ∙ held.board;
      rises = λ slot. let before = held.rises slot in let after = c.work_on.ensures.rises slot in omega (arith, before, after);
      worked = worked_taken _ _ _ _ _ _ _ _ _ taken.worker c.worker.ensures taken.taken held.worked c.work_on.ensures.worked;
    }
