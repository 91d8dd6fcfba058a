use Rattle.std.proofs.Common.{take}
use Rattle.xt_core.proofs.ToldLemmas.{IsRunSoFar}
use Rattle.xt_core.proofs.host.HostCore.run.Given as goal

abbrev pub invariant-loop-at : goal.invariant-loop-at
invariant-loop-at l = IsRunSoFar (take l.at l.steps) l.outcomes l.host
