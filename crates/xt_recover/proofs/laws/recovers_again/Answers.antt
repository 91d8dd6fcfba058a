use Rattle.xt_recover.proofs.AgainLemmas.{replayed_again}
use Rattle.xt_recover.proofs.laws.recovers_again.Goals as goal

pub returns : goal.returns
returns c = replayed_again
