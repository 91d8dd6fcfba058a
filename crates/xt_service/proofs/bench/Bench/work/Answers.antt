use Rattle.std.proofs.Common.{[], ap, rules, ◌++◌, ◌∙◌}
use Rattle.std.proofs.lemmas.List.{append_assoc}
use Rattle.xt_service.proofs.AsideLemmas.{aside_none, aside_put}
use Rattle.xt_service.proofs.SeatLemmas.{has_gone_on, has_looked, has_none}
use Rattle.xt_service.proofs.bench.Bench.work.Goals as goal
use Rattle.xt_service.specs.declared.aside.TheConstants.{MOST_ASIDE}

-- nothing was taken or put aside yet
pub loop-init : goal.loop-init
loop-init g c = record {
  board = c.requires.board;
  queue = c.requires.queue;
  worker = search rules;
  taken = ([], search rules);
  worked = has_none _ _ _;
  aside = aside_none _ _ MOST_ASIDE c.new-aside.ensures;
}

-- no name was left, and the receipts were forgotten
pub returns-in_default-clause-worked : goal.returns-in_default-clause-worked
returns-in_default-clause-worked g c =
    let next = c.in_default.ensures in
    has_looked _ _ _ _ _ _ _ _ c.loop.invariant.worked c.forget.ensures.caller c.forget.ensures.counts c.forget.ensures.board next.taken.1 next.seat

-- one name that was taken was done
pub loop-preserved-then-finish : goal.loop-preserved-then-finish
loop-preserved-then-finish g c =
    let held = c.loop.invariant in
    let next = c.in-Some-next_name.ensures in
    record {
      board = search rules;
      queue = next.queue;
      worker = next.worker ∙ held.worker;
      taken = (held.taken.0 ++ next.taken.0, next.taken.1 ∙ ap (λ names. names ++ next.taken.0) held.taken.1 ∙ append_assoc c.args.self.now.pass.taken held.taken.0 next.taken.0);
      worked = has_gone_on _ _ _ _ _ _ _ _ _ _ _ held.worked c.forget.ensures.caller c.forget.ensures.counts c.forget.ensures.board next.taken.1 next.seat (c.worker.ensures ∙ next.worker ∙ held.worker) next.name c.finish.ensures.worked c.finish.ensures.board c.finish.ensures.rises;
      aside = next.aside;
    }

-- or tried, and put aside
pub loop-preserved : goal.loop-preserved
loop-preserved g c =
    let held = c.loop.invariant in
    let next = c.in-Some-next_name.ensures in
    record {
      board = search rules;
      queue = next.queue;
      worker = next.worker ∙ held.worker;
      taken = (held.taken.0 ++ next.taken.0, next.taken.1 ∙ ap (λ names. names ++ next.taken.0) held.taken.1 ∙ append_assoc c.args.self.now.pass.taken held.taken.0 next.taken.0);
      worked = has_gone_on _ _ _ _ _ _ _ _ _ _ _ held.worked c.forget.ensures.caller c.forget.ensures.counts c.forget.ensures.board next.taken.1 next.seat (c.worker.ensures ∙ next.worker ∙ held.worker) next.name c.finish.ensures.worked c.finish.ensures.board c.finish.ensures.rises;
      aside = aside_put _ _ _ _ _ c.put.ensures.1 next.name next.aside;
    }
