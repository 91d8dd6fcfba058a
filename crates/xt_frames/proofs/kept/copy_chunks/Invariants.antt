use Rattle.std.proofs.Common.{◌≡◌, ◌<◌, ◌≤◌, if◌then◌else◌, length, ℕ}
use Rattle.xt_base.specs.Maps.{has}
use Rattle.xt_base.specs.Text.{chunk}
use Rattle.xt_frames.proofs.kept.copy_chunks.Given as goal

abbrev pub invariant-loop-k : goal.invariant-loop-k
invariant-loop-k l = record {
  size : length l.to ≡ length l.fn.to;
  copied : (j : ℕ) → j < l.k → j < 32 → chunk l.to j ≡ (if has l.wanted j then chunk l.from j else chunk l.fn.to j);
  waiting : (j : ℕ) → l.k ≤ j → chunk l.to j ≡ chunk l.fn.to j;
}
