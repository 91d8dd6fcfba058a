use Rattle.std.proofs.Common.{sym, ◌∙◌}
use Rattle.std.proofs.lemmas.Bool.{eqb-false, eqb-true}
use Rattle.xt_session.proofs.Loops.{last_answered, last_broken, last_none}
use Rattle.xt_session.proofs.session.answer_last.Goals as goal

pub returns-then-is_empty : goal.returns-then-is_empty
returns-then-is_empty g c = last_none g.C.Calls.answers _ _ _ (eqb-true _ _ (sym c.is_empty.ensures ∙ c.if-is_empty.true))

pub returns-then-answer : goal.returns-then-answer
returns-then-answer g c =
    last_answered g.C.Calls.answers _ _ _ _ _ (eqb-false _ _ (sym c.is_empty.ensures ∙ c.if-is_empty.false)) c.if-answer.ensures

pub returns-else-answer : goal.returns-else-answer
returns-else-answer g c =
    last_broken g.C.Calls.answers _ _ _ _ _ (eqb-false _ _ (sym c.is_empty.ensures ∙ c.if-is_empty.false)) c.if-answer.ensures
