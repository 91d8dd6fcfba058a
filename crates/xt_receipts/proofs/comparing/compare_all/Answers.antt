use Rattle.xt_receipts.proofs.AgreeLemmas.{answered}
use Rattle.xt_receipts.proofs.comparing.compare_all.Goals as goal

pub returns-clause-answered : goal.returns-clause-answered
returns-clause-answered g c = answered _ _ _ c.compare.ensures.order c.compare.ensures.agree c.compare.ensures.fault
