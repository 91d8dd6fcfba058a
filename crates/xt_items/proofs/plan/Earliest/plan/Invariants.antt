use Rattle.std.proofs.Common.{◌≡◌, map, take}
use Rattle.xt_items.proofs.plan.Earliest.plan.Given as goal

abbrev pub invariant-loop-entry : goal.invariant-loop-entry
invariant-loop-entry l = l.plan ≡ map (λ e. e.0) (take l.entry-index l.self)
