use Rattle.xt_recovery.proofs.TurnLemmas.{recovers_by_turns}
use Rattle.xt_recovery.proofs.laws.recovers_by_turns.Goals as goal

pub returns : goal.returns
returns c = recovers_by_turns
