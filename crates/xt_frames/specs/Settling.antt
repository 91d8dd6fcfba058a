-- Settling: which contents and fresh marks stay, where a test says it of each block.
use Rattle.std.specs.Prelude.{Bool, List, None, Option, Some, [], true, ℕ, ◌++◌, ◌==◌, ◌≡◌, ◌∷◌, ◌⊎◌, drop, filter, if◌then◌else◌, not, option_map, slice_get, take}
use Rattle.xt_base.specs.Settle.{rested}
use Rattle.xt_base.specs.Sound.{Each}
use Rattle.xt_base.specs.State.{Frames}
use Rattle.xt_frames.specs.Busy.{committed_of}
use Rattle.xt_frames.specs.Contents.{Bufs}
use Rattle.xt_frames.specs.Kept.{Framed}

-- the contents of blocks that are not busy
abbrev pub leaving_contents : (ℕ → Bool) → List (ℕ × List ℕ) → List (ℕ × List ℕ)
leaving_contents busy contents = filter (λ e. not (busy e.0)) contents

-- the idle list, with the contents of blocks that are not busy where they are kept
abbrev pub rest_of : (ℕ → Bool) → Bool → List (ℕ × List ℕ) → List (ℕ × List ℕ) → List (ℕ × List ℕ)
rest_of busy is_kept contents idle = if is_kept then rested (leaving_contents busy contents) idle else idle

-- contents and fresh marks of blocks that are not busy go; where the contents are kept, to the idle list
abbrev pub settled_by : (ℕ → Bool) → Bool → Frames → Frames
settled_by busy is_kept f = record {
  committed = filter (λ e. busy e.0) f.committed;
  fresh = filter busy f.fresh;
  idle = rest_of busy is_kept f.committed f.idle;
}

-- each block that has a content or a fresh mark is busy, but perhaps one
pub record AreOthersBusy (busy : ℕ → Bool) (block : ℕ) (f : Frames) : Type 0 where
  pub contents : Each (λ e. (e.0 ≡ block) ⊎ (busy e.0 ≡ true)) f.committed
  pub marks : Each (λ b. (b ≡ block) ⊎ (busy b ≡ true)) f.fresh

-- frames and fresh marks of blocks that are not busy go; where committed contents are kept, to the idle list
abbrev pub bufs_settled_by : (ℕ → Bool) → Bool → Bufs → Bufs
bufs_settled_by busy is_kept b = record {
  frames = filter (λ e. busy e.0) b.frames;
  fresh = filter busy b.fresh;
  idle = rest_of busy is_kept (committed_of b.frames) b.idle;
}

-- a block is another than this one
abbrev pub is_other : ℕ → ℕ → Bool
is_other block b = not (b == block)

-- the content of a block with its name, where there is one
abbrev pub entry_of : ℕ → Option (List ℕ) → List (ℕ × List ℕ)
entry_of block None = []
entry_of block (Some content) = (block, content) ∷ []

-- contents of blocks that are not saved go
abbrev pub saved_by : (ℕ → Bool) → Frames → Frames
saved_by saved f = record f { committed = filter (λ e. saved e.0) f.committed }

-- frames of blocks that are not saved go
abbrev pub bufs_saved_by : (ℕ → Bool) → Bufs → Bufs
bufs_saved_by saved b = record b { frames = filter (λ e. saved e.0) b.frames }

-- a frame as an idle content
abbrev pub idle_entry : ℕ × Framed → ℕ × List ℕ
idle_entry e = (e.0, e.1.committed)

-- the block of the frame at a place
abbrev pub frame_block : ℕ → Bufs → Option ℕ
frame_block i b = option_map (λ (e : ℕ × Framed). e.0) (slice_get b.frames i)

-- the fresh block at a place
abbrev pub fresh_block : ℕ → Bufs → Option ℕ
fresh_block i b = slice_get b.fresh i

-- frames are as they were before a place, and settled from there on
abbrev pub frames_from : (ℕ → Bool) → Bool → ℕ → Bufs → Bufs
frames_from busy is_kept i b = record b {
  frames = take i b.frames ++ filter (λ e. busy e.0) (drop i b.frames);
  idle = rest_of busy is_kept (committed_of (drop i b.frames)) b.idle;
}

-- fresh marks are as they were before a place, and settled from there on
abbrev pub fresh_from : (ℕ → Bool) → ℕ → Bufs → Bufs
fresh_from busy i b = record b { fresh = take i b.fresh ++ filter busy (drop i b.fresh) }
