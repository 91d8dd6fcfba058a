use Rattle.xt_core.proofs.HostRunLemmas.{two_runs}
use Rattle.xt_core.proofs.laws.two_worlds.Goals as goal

pub returns : goal.returns
returns c = two_runs
