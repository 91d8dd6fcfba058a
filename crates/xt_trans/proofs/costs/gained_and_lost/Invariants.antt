use Rattle.std.proofs.Common.{◌≡◌, ◌≤◌, ◌+◌, ◌*◌, drop}
use Rattle.std.specs.Prelude.{sum_by}
use Rattle.xt_trans.specs.LegItems.{gain_in, loss_in}
use Rattle.xt_trans.proofs.costs.gained_and_lost.Given as goal

abbrev pub invariant-loop-e : goal.invariant-loop-e
invariant-loop-e l = record {
  gained : l.gained + sum_by (gain_in l.list) (drop l.e-index l.items) ≡ sum_by (gain_in l.list) l.items;
  lost : l.lost + sum_by (loss_in l.list) (drop l.e-index l.items) ≡ sum_by (loss_in l.list) l.items;
  most_gained : l.gained ≤ 4112 * l.e-index;
  most_lost : l.lost ≤ 4112 * l.e-index;
}
