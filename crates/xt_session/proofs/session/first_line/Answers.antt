use Rattle.xt_session.proofs.CutLemmas.{first_at}
use Rattle.xt_session.proofs.session.first_line.Goals as goal

pub returns-then-at-text-clause-first : goal.returns-then-at-text-clause-first
returns-then-at-text-clause-first c = first_at _ _ c.line_len-at.ensures c.if-at-text.true
