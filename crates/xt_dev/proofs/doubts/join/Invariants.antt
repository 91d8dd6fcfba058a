-- The sectors so far are among those in doubt, each once, and there is room for the rest.
use Rattle.std.proofs.Common.{◌≡◌, ◌+◌, ◌≤◌, length, take, ℕ}
use Rattle.std.specs.List.{IsDistinct}
use Rattle.std.specs.Prelude.{◌||◌, nat_eq}
use Rattle.std.specs.Vec.{vec_capacity, vec_len}
use Rattle.xt_dev.specs.Doubting.{is_among}
use Rattle.xt_dev.proofs.doubts.join.Given as goal

abbrev pub invariant-loop-sector : goal.invariant-loop-sector
invariant-loop-sector l = record {
  once : IsDistinct nat_eq l.doubtful.items;
  joined : (s : ℕ) → is_among l.doubtful.items s ≡ (is_among l.initial.doubtful.items s || is_among (take l.sector-index l.sectors) s);
  room : vec_len l.doubtful + length l.sectors ≤ vec_capacity l.doubtful + l.sector-index;
}
