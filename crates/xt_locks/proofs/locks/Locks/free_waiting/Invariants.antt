use Rattle.std.proofs.Common.{◌≡◌, ◌≤◌, ◌-◌, ◌++◌, length, take, drop, filter, not}
use Rattle.xt_base.specs.Jobs.{waits_on}
use Rattle.xt_locks.proofs.locks.Locks.free_waiting.Given as goal

abbrev pub invariant-loop-index : goal.invariant-loop-index
invariant-loop-index l = (l.index ≤ length l.self-inside.owners)
    × (take l.index l.self-inside.owners ++ filter (λ e. not (waits_on l.number e.1)) (drop l.index l.self-inside.owners) ≡ filter (λ e. not (waits_on l.number e.1)) l.fn.self)

abbrev pub decreases-loop-index : goal.decreases-loop-index
decreases-loop-index l = length l.self-inside.owners - l.index
