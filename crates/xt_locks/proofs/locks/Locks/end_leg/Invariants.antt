use Rattle.std.proofs.Common.{◌≡◌, ◌≤◌, ◌-◌, Option, length, ℕ}
use Rattle.xt_base.specs.declared.steps.Owner.{Owner}
use Rattle.xt_locks.proofs.PassLemmas.{Passes}
use Rattle.xt_locks.proofs.locks.Locks.end_leg.Given as goal

abbrev pub invariant-loop-index : goal.invariant-loop-index
invariant-loop-index g l = (l.index ≤ length l.self)
    × ((f : ℕ → Option Owner) → ((b : ℕ) → (o : Option Owner) → goal.F-post g l.fn.next b o → o ≡ f b) → Passes l.trans f l.index l.fn.self l.self)

abbrev pub decreases-loop-index : goal.decreases-loop-index
decreases-loop-index g l = length l.self - l.index
