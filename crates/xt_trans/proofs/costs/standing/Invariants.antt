use Rattle.std.proofs.Common.{◌≡◌, ◌≤◌, ◌+◌, ◌*◌, drop}
use Rattle.std.specs.Prelude.{sum_by}
use Rattle.xt_base.specs.Space.{item_cost}
use Rattle.xt_trans.proofs.costs.standing.Given as goal

abbrev pub invariant-loop-e : goal.invariant-loop-e
invariant-loop-e l = (l.total + sum_by item_cost (drop l.e-index l.list) ≡ sum_by item_cost l.list) × (l.total ≤ 4112 * l.e-index)
