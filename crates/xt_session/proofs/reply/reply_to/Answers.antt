use Rattle.std.proofs.Common.{Err, ap, arith, sym, ◌∙◌}
use Rattle.xt_session.proofs.AnswerLemmas.{bad_spelling, held_put, other_step, said_asked, said_bad, said_starved}
use Rattle.xt_session.proofs.reply.reply_to.Goals as goal
use Rattle.xt_session.specs.Turns.{held}

pub returns-then-in_session-clause-answered : goal.returns-then-in_session-clause-answered
returns-then-in_session-clause-answered g c =
    said_asked g.C.Calls.answers _ _ _ c.in-Ok.step c.call-reply.result c.print_reply.new.out
    (record { valid = c.in-Ok.ensures.valid; session = sym c.in_session.ensures ∙ c.if-in_session.true; short = c.in-Ok.ensures.short; text = c.in-Ok.ensures.found })
    c.call-reply.ensures
    (held_put _ _ _ (omega (arith, c.print_reply.ensures.short)) c.clear.ensures c.print_reply.ensures.text)

pub returns-else-in_session-clause-answered : goal.returns-else-in_session-clause-answered
returns-else-in_session-clause-answered g c =
    said_bad g.C.Calls.answers _ _ c.write_over.new.text (other_step _ c.in-Ok.step c.in-Ok.ensures.only (sym c.in_session.ensures ∙ c.if-in_session.false)) (ap held c.write_over.ensures)

pub returns-in-Err-Spelling-clause-answered : goal.returns-in-Err-Spelling-clause-answered
returns-in-Err-Spelling-clause-answered g c =
    said_bad g.C.Calls.answers _ _ c.write_over-in-Err-Spelling.new.text (bad_spelling _ _ c.in-Err-Spelling.field-0-is c.in-Err-Spelling.ensures.only) (ap held c.write_over-in-Err-Spelling.ensures)

pub returns-in-Err-Memory-clause-answered : goal.returns-in-Err-Memory-clause-answered
returns-in-Err-Memory-clause-answered g c =
    said_starved g.C.Calls.answers _ _ c.write_over-in-Err-Memory.new.text (c.in-Err-Memory.ensures.memory (ap Err c.in-Err-Memory.field-0-is)) (ap held c.write_over-in-Err-Memory.ensures)
