use Rattle.std.proofs.Common.{◌≡◌, ◌≤◌, ◌+◌, ◌-◌, drop, length}
use Rattle.xt_base.specs.Jobs.{activated}
use Rattle.xt_items.proofs.items.activate.Given as goal

abbrev pub invariant-loop-e : goal.invariant-loop-e
invariant-loop-e l = (activated l.number (drop l.e-index l.items) l.ail ≡ activated l.number l.items l.fn.ail) × (length l.ail + (length l.items - l.e-index) ≤ 128)
