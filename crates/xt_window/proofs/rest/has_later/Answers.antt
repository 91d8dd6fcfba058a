use Rattle.std.proofs.Common.{arith}
use Rattle.std.proofs.lemmas.List.{length-drop}
use Rattle.xt_window.proofs.RestLemmas.{looked_found, looked_next}
use Rattle.xt_window.proofs.rest.has_later.Goals as goal

pub returns-then-branch-clause-later : goal.returns-then-branch-clause-later
returns-then-branch-clause-later c = λ same. looked_found c.args.head.now c.args.rest.now c.loop-at.at _ (omega (arith, length-drop c.loop-at.at c.args.rest.now)) (c.in_ok-begins_later.ensures.later c.if-branch.true)

pub loop-at-preserved : goal.loop-at-preserved
loop-at-preserved c = looked_next c.args.head.now c.args.rest.now c.loop-at.at _ c.loop-at.invariant (omega (arith, length-drop c.loop-at.at c.args.rest.now)) (c.in_ok-begins_later.ensures.none c.if-branch.false)
