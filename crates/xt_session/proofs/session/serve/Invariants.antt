use Rattle.xt_session.proofs.Loops.{IsSoFar}
use Rattle.xt_session.proofs.session.serve.Given as goal

abbrev pub invariant-loop-left : goal.invariant-loop-left
invariant-loop-left g l = IsSoFar g.C.Calls.answers l.bound l.left l.fn.calls l.calls (g.R.Read.remaining l.fn.reader) (g.R.Read.remaining l.reader) (g.W.Write.contents l.fn.writer) (g.W.Write.contents l.writer) l.intake

abbrev pub decreases-loop-left : goal.decreases-loop-left
decreases-loop-left g l = l.left
