use Rattle.xt_recovery.proofs.LogSteps.{numbers_follow}
use Rattle.xt_recovery.proofs.laws.numbers_follow.Goals as goal

pub returns : goal.returns
returns c = numbers_follow
