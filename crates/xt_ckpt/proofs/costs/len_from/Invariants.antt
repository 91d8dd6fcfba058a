use Rattle.std.proofs.Common.{◌≡◌, ◌+◌, ◌-◌, ◌*◌, ◌≤◌, drop, length, sum_by}
use Rattle.xt_ckpt.specs.Entries.{entry_len}
use Rattle.xt_ckpt.proofs.costs.len_from.Given as goal

abbrev pub invariant-loop-index : goal.invariant-loop-index
invariant-loop-index g l = record {
  sum : l.len + sum_by entry_len (drop l.index (g.S.ItemSource.entries l.items)) ≡ sum_by entry_len (drop l.fn.from (g.S.ItemSource.entries l.items));
  range : l.len ≤ 4112 * (l.index - l.fn.from);
  from : l.fn.from ≤ l.index;
  within : l.index ≤ length (g.S.ItemSource.entries l.items);
}
