use Rattle.xt_base.proofs.DeviceLemmas.{kept_since, used_since}
use Rattle.xt_base.proofs.laws.counts_landed.Goals as goal

pub returns : goal.returns
returns c = record { used = used_since; kept = kept_since }
