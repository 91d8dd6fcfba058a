use Rattle.xt_recovery.proofs.CutLemmas.{log_may_go}
use Rattle.xt_recovery.proofs.laws.log_may_go.Goals as goal

pub returns : goal.returns
returns c = log_may_go
