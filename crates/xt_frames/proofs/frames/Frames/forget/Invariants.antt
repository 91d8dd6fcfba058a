use Rattle.std.proofs.Common.{◌≡◌, ◌-◌, Bool, false, length, ℕ}
use Rattle.xt_frames.specs.Settling.{frames_from, bufs_saved_by}
use Rattle.xt_frames.proofs.frames.Frames.forget.Given as goal

abbrev pub invariant-loop-block : goal.invariant-loop-block
invariant-loop-block g l =
    (saved : ℕ → Bool) → ((b : ℕ) → (r : Bool) → goal.F-post g l.fn.is_saved b r → r ≡ saved b)
    → frames_from saved false l.frame l.self ≡ bufs_saved_by saved l.fn.self

abbrev pub decreases-loop-block : goal.decreases-loop-block
decreases-loop-block g l = length l.self.frames - l.frame
