use Rattle.xt_core.proofs.HostLemmas.{alike_may_come, alike_taken}
use Rattle.xt_core.proofs.laws.front_and_hands_are_shared.Goals as goal

pub returns-clause-order : goal.returns-clause-order
returns-clause-order c = alike_may_come

pub returns-clause-turn : goal.returns-clause-turn
returns-clause-turn c = alike_taken
