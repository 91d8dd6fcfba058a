use Rattle.xt_session.proofs.Loops.{answering_left, answering_more, answering_none, none_done, none_left}
use Rattle.xt_session.proofs.session.answer_lines.Goals as goal

pub returns-in_default-clause-done : goal.returns-in_default-clause-done
returns-in_default-clause-done g c = none_done g.C.Calls.answers c.args.bytes.now c.args.fresh _ _ c.requires.fresh c.requires.seen c.in_default.ensures.none

pub returns-in_default-clause-left : goal.returns-in_default-clause-left
returns-in_default-clause-left g c = none_left c.args.bytes.now c.args.fresh c.requires.fresh c.requires.seen c.in_default.ensures.none

pub loop-line-init : goal.loop-line-init
loop-line-init g c = answering_none g.C.Calls.answers _ _ _

pub loop-line-preserved : goal.loop-line-preserved
loop-line-preserved g c = answering_more g.C.Calls.answers _ _ _ _ _ _ _ _ _ _ c.loop-line.invariant c.in-Some-first_line.ensures.first c.if-not-answer.ensures

pub returns-clause-left : goal.returns-clause-left
returns-clause-left g c = answering_left g.C.Calls.answers _ _ _ _ _ _ c.loop-line.invariant c.in_default-first_line.ensures.none
