-- The contents of a mount at the start, and what they are after a block was brought in: as they are seen, and in frames.
use Rattle.std.specs.Prelude.{ℕ, List, [], Option, None, Some}
use Rattle.xt_base.specs.Maps.{put, with_member, without}
use Rattle.xt_base.specs.State.{Frames}
use Rattle.xt_frames.specs.Busy.{committed_of}
use Rattle.xt_frames.specs.Kept.{Framed, clean_of}

-- no content at all
abbrev pub no_frames : Frames
no_frames = record { committed = []; fresh = []; idle = [] }

-- a block becomes busy, with its idle content, or fresh
abbrev pub brought_in : ℕ → Option (List ℕ) → Frames → Frames
brought_in b (Some content) f = record f { committed = put b content f.committed; idle = without b f.idle }
brought_in b None f = record f { fresh = with_member b f.fresh }

-- the frames of busy blocks; the set of fresh ones; contents of idle ones, the most recent first
pub record Bufs : Type 0 where
  pub frames : List (ℕ × Framed)
  pub fresh : List ℕ
  pub idle : List (ℕ × List ℕ)

-- the contents, of which the frames have the committed ones
abbrev pub contents_of : Bufs → Frames
contents_of b = record { committed = committed_of b.frames; fresh = b.fresh; idle = b.idle }

-- no frame at all
abbrev pub no_bufs : Bufs
no_bufs = record { frames = []; fresh = []; idle = [] }

-- a block becomes busy, its idle content in a frame, or fresh
abbrev pub bufs_brought_in : ℕ → Option (List ℕ) → Bufs → Bufs
bufs_brought_in k (Some content) b = record b { frames = put k (clean_of content) b.frames; idle = without k b.idle }
bufs_brought_in k None b = record b { fresh = with_member k b.fresh }
