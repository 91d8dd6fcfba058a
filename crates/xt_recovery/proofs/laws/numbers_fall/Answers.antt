use Rattle.xt_recovery.proofs.LogSteps.{numbers_fall}
use Rattle.xt_recovery.proofs.laws.numbers_fall.Goals as goal

pub returns : goal.returns
returns c = numbers_fall
