use Rattle.xt_recover.proofs.AgainLemmas.{replayed_newer}
use Rattle.xt_recover.proofs.laws.recovers_by_newer.Goals as goal

pub returns : goal.returns
returns c = replayed_newer
