-- Busy frames: in a slab, each beside its block, and an index from blocks to the keys of their frames.
use Rattle.std.specs.Prelude.{List, None, Option, Some, length, map, option_map, ℕ, ◌≡◌, ◌≤◌}
use Rattle.slab.specs.Slab.{Slab, get, slab_len}
use Rattle.xt_base.specs.Maps.{at, put}
use Rattle.xt_base.specs.Sound.{Each, IsRising}
use Rattle.xt_base.specs.Views.{view}
use Rattle.xt_base.specs.declared.sizes.TheConstants.{ROOM}
use Rattle.xt_frames.specs.Kept.{Framed}

-- the block whose frame stands under a key
abbrev pub block_in : Slab (ℕ × Framed) → ℕ → Option ℕ
block_in frames key = option_map (λ (e : ℕ × Framed). e.0) (get frames key)

-- the frame that stands under a key
abbrev pub frame_in : Slab (ℕ × Framed) → ℕ → Option Framed
frame_in frames key = option_map (λ (e : ℕ × Framed). e.1) (get frames key)

-- the frames that an index leads to, by rising block
abbrev pub busy_of : Slab (ℕ × Framed) → List (ℕ × ℕ) → List (ℕ × Framed)
busy_of frames index = view (frame_in frames) index

-- each block of the index leads to the frame that names it, there are no other frames, and there is room for all
pub record AreTied (frames : Slab (ℕ × Framed)) (index : List (ℕ × ℕ)) : Type 0 where
  pub rising : IsRising index
  pub named : Each (λ e. block_in frames e.1 ≡ Some e.0) index
  pub count : slab_len frames ≡ length index
  pub room : ROOM ≤ frames.capacity

-- the committed contents of frames, by rising block
abbrev pub committed_of : List (ℕ × Framed) → List (ℕ × List ℕ)
committed_of frames = map (λ (e : ℕ × Framed). (e.0, e.1.committed)) frames

-- the committed content of the frame that stands under a key
abbrev pub base_in : Slab (ℕ × Framed) → ℕ → Option (List ℕ)
base_in frames key = option_map (λ (f : Framed). f.committed) (frame_in frames key)

-- frames in which what a block has, if anything, is changed
abbrev pub changed_at : (Framed → Framed) → ℕ → Option Framed → List (ℕ × Framed) → List (ℕ × Framed)
changed_at change b None frames = frames
changed_at change b (Some frame) frames = put b (change frame) frames

-- frames in which the one of a block, if it is there, is changed
abbrev pub changed_in : (Framed → Framed) → ℕ → List (ℕ × Framed) → List (ℕ × Framed)
changed_in change b frames = changed_at change b (at b frames) frames
