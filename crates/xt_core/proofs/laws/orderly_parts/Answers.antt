use Rattle.xt_core.proofs.StruckLemmas.{orderly_take, struck}
use Rattle.xt_core.proofs.laws.orderly_parts.Goals as goal

pub returns-clause-begun : goal.returns-clause-begun
returns-clause-begun c = λ xs n whole. orderly_take n xs whole

pub returns-clause-struck : goal.returns-clause-struck
returns-clause-struck c = struck
