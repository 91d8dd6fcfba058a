use Rattle.std.proofs.Common.{◌≡◌, length}
use Rattle.xt_frames.specs.Shares.{AreThere}
use Rattle.xt_frames.proofs.table.empty_shares.Given as goal

abbrev pub invariant-loop-number : goal.invariant-loop-number
invariant-loop-number l = record {
  count : length l.shares.items ≡ l.number;
  there : AreThere 0 l.number l.shares.items;
}
