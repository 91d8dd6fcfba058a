use Rattle.std.proofs.Common.{length}
use Rattle.xt_session.proofs.Loops.{IsAnswering}
use Rattle.xt_session.proofs.session.answer_lines.Given as goal

abbrev pub invariant-loop-line : goal.invariant-loop-line
invariant-loop-line g l = IsAnswering g.C.Calls.answers l.bytes l.rest l.fn.calls l.calls (g.W.Write.contents l.fn.writer) (g.W.Write.contents l.writer)

abbrev pub decreases-loop-line : goal.decreases-loop-line
decreases-loop-line g l = length l.rest
