use Rattle.std.proofs.Common.{refl}
use Rattle.xt_session.proofs.Loops.{ended_at, seen_before, so_far_none, turned, went_on}
use Rattle.xt_session.proofs.session.serve.Goals as goal

pub loop-left-init : goal.loop-left-init
loop-left-init g c = so_far_none g.C.Calls.answers c.args.bound _ _ _ _ c.requires

pub answer_fetched-end-requires-clause-seen : goal.answer_fetched-end-requires-clause-seen
answer_fetched-end-requires-clause-seen g c =
    seen_before g.C.Calls.answers c.in-Bytes.count _ _ c.args.bound _ _ _ _ _ _ _ _ c.loop-left.invariant c.in-Bytes.ensures

pub returns-in-Some : goal.returns-in-Some
returns-in-Some g c =
    turned g.C.Calls.answers c.in-Some.end c.in-Bytes.count _ _ _ c.args.bound _ _ _ _ _ _ _ _ _ _ c.loop-left.invariant c.in-Bytes.ensures c.in-Some.ensures

pub loop-left-preserved-in_default : goal.loop-left-preserved-in_default
loop-left-preserved-in_default g c =
    went_on g.C.Calls.answers c.in-Bytes.count _ _ _ _ c.args.bound _ _ _ _ _ _ _ _ _ _ c.loop-left.invariant c.in-Bytes.ensures c.in_default.ensures refl

pub returns-in-End : goal.returns-in-End
returns-in-End g c =
    ended_at g.C.Calls.answers _ _ _ c.args.bound _ _ _ _ _ _ _ _ _ _ c.loop-left.invariant c.in-End.ensures.0 c.in-End.ensures.1 c.in-End.ensures.2 (rw c.bytes.ensures at c.answer_last.ensures)
