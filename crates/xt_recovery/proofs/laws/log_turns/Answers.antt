use Rattle.xt_recovery.proofs.Witness.{it_turns}
use Rattle.xt_recovery.proofs.laws.log_turns.Goals as goal

pub returns : goal.returns
returns c = it_turns
