-- No sector so far is in doubt.
use Rattle.std.proofs.Common.{◌≡◌, ◌+◌, ◌<◌, false, ℕ}
use Rattle.xt_dev.specs.Doubting.{is_among}
use Rattle.xt_dev.proofs.doubts.Doubts.has.Given as goal

abbrev pub invariant-loop-k : goal.invariant-loop-k
invariant-loop-k l = (j : ℕ) → j < l.k → is_among l.self.doubtful.items (l.sectors.first + j) ≡ false
