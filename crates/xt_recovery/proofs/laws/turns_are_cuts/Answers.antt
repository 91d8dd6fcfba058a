use Rattle.xt_recovery.proofs.TurnLemmas.{turns_are_cuts}
use Rattle.xt_recovery.proofs.laws.turns_are_cuts.Goals as goal

pub returns : goal.returns
returns c = turns_are_cuts
