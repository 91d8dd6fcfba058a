use Rattle.std.proofs.Common.{◌∙◌, sym}
use Rattle.xt_core.proofs.HostRunLemmas.{end_same, end_struck, end_tells, stop, stop_struck, stop_unordered}
use Rattle.xt_core.proofs.ToldLemmas.{end_turns, goes_on, started, stop_barred}
use Rattle.xt_core.proofs.host.HostCore.run.Goals as goal

pub returns-then-not-can_take-clause-disorder : goal.returns-then-not-can_take-clause-disorder
returns-then-not-can_take-clause-disorder c =
    stop c.args.steps.now c.loop-at.at c.loop-at.outcomes c.loop-at.host c.loop-at.invariant.run c.index-steps-at.result c.loop-at-test.true c.index-steps-at.is (sym c.can_take.ensures ∙ c.if-not-can_take.true)

pub returns-then-not-can_take-clause-before : goal.returns-then-not-can_take-clause-before
returns-then-not-can_take-clause-before c = stop_struck c.args.steps.now c.loop-at.at c.loop-at.outcomes c.loop-at.host c.loop-at.invariant.run

pub returns-then-not-can_take-clause-unordered : goal.returns-then-not-can_take-clause-unordered
returns-then-not-can_take-clause-unordered c =
    stop_unordered c.args.steps.now c.loop-at.at c.loop-at.outcomes c.loop-at.host c.loop-at.invariant.run c.index-steps-at.result c.loop-at-test.true c.index-steps-at.is (sym c.can_take.ensures ∙ c.if-not-can_take.true)

pub returns-then-not-can_take-clause-order : goal.returns-then-not-can_take-clause-order
returns-then-not-can_take-clause-order c =
    stop_barred c.args.steps.now c.loop-at.at c.loop-at.outcomes c.loop-at.host c.loop-at.invariant c.index-steps-at.result c.loop-at-test.true c.index-steps-at.is (sym c.can_take.ensures ∙ c.if-not-can_take.true)

pub loop-at-init : goal.loop-at-init
loop-at-init c = started c.in-Ok.outcomes c.in-Ok-new.host c.in-Ok.ensures c.in-Ok-new.ensures.new

pub loop-at-preserved : goal.loop-at-preserved
loop-at-preserved c =
    goes_on c.args.steps.now c.loop-at.at c.loop-at.outcomes c.loop-at.host c.loop-at.invariant c.index-steps-at.result c.loop-at-test.true c.index-steps-at.is c.advance.new.outcomes c.advance.new.self c.in-Ok-advance.ensures

pub returns-clause-alone : goal.returns-clause-alone
returns-clause-alone c = end_tells c.args.steps.now c.loop-at.at c.loop-at.outcomes c.loop-at.host c.loop-at.invariant.run c.loop-at-test.false

pub returns-clause-struck : goal.returns-clause-struck
returns-clause-struck c = end_struck c.args.steps.now c.loop-at.at c.loop-at.outcomes c.loop-at.host c.loop-at.invariant.run c.loop-at-test.false

pub returns-clause-same : goal.returns-clause-same
returns-clause-same c = end_same c.args.steps.now c.loop-at.at c.loop-at.outcomes c.loop-at.host c.loop-at.invariant.run c.loop-at-test.false

pub returns-clause-turns : goal.returns-clause-turns
returns-clause-turns c = end_turns c.args.steps.now c.loop-at.at c.loop-at.outcomes c.loop-at.host c.loop-at.invariant c.loop-at-test.false
