use Rattle.xt_window.proofs.RestLemmas.{IsLookedAt}
use Rattle.xt_window.proofs.rest.has_later.Given as goal

abbrev pub invariant-loop-at : goal.invariant-loop-at
invariant-loop-at l = IsLookedAt l.head l.rest l.at
