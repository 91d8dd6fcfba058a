-- Shares of frames, and the table that hands them out.
use Rattle.std.specs.Prelude.{IfSome, List, None, Option, Some, [], slice_index_or, ℕ, ◌<◌, ◌≡◌, ◌≤◌}
use Rattle.xt_frames.specs.declared.share.FrameShare.{FrameShare}

-- the share of a slot, without contents
abbrev pub no_contents : ℕ → FrameShare
no_contents slot = record { slot = slot; busy = []; idle = [] }

-- the share at a place of the table, if it is there
abbrev pub share_at : ℕ → List (Option FrameShare) → Option FrameShare
share_at n shares = slice_index_or shares n None

-- each share stands at the place of its slot, so no two have one slot
pub record AreOwn (shares : List (Option FrameShare)) : Type 0 where
  pub own : (n : ℕ) → IfSome (share_at n shares) (λ share. share.slot ≡ n)

-- the shares of the slots from one number on, below another, are there, without contents
pub record AreThere (from upto : ℕ) (shares : List (Option FrameShare)) : Type 0 where
  pub there : (n : ℕ) → from ≤ n → n < upto → share_at n shares ≡ Some (no_contents n)
