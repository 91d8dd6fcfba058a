use Rattle.std.proofs.Common.{◌≡◌, ◌-◌, Bool, length, ℕ}
use Rattle.xt_frames.specs.Settling.{fresh_from}
use Rattle.xt_frames.proofs.frames.Frames.settle_marks.Given as goal

abbrev pub invariant-loop-block : goal.invariant-loop-block
invariant-loop-block g l =
    (busy : ℕ → Bool) → ((near : _) → (b : ℕ) → (r : Bool) → (after : _) → goal.F-post g l.fn.is_busy near b r after → r ≡ busy b)
    → fresh_from busy l.mark l.self ≡ fresh_from busy 0 l.fn.self

abbrev pub decreases-loop-block : goal.decreases-loop-block
decreases-loop-block g l = length l.self.fresh - l.mark
