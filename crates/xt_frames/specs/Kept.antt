-- A block that is changed in place, and what is kept of it.
use Rattle.std.specs.Prelude.{List, None, Option, Some, [], flat_map, if◌then◌else◌, ℕ, ◌≡◌}
use Rattle.xt_base.specs.Calls.{overwritten}
use Rattle.xt_base.specs.Chunks.{below}
use Rattle.xt_base.specs.Maps.{has}
use Rattle.xt_base.specs.Text.{chunk}
use Rattle.xt_base.specs.declared.sizes.TheConstants.{CHUNKS}

-- the chunks that are kept, and bytes that have them at their places
pub record Kept : Type 0 where
  pub chunks : List ℕ
  pub bytes : List ℕ

-- none is
abbrev pub none_kept : List ℕ → Kept
none_kept bytes = record { chunks = []; bytes = bytes }

-- a chunk as it was
abbrev pub as_it_was : Kept → List ℕ → ℕ → List ℕ
as_it_was kept content k = if has kept.chunks k then chunk kept.bytes k else chunk content k

-- a content with the kept chunks put back
unfoldable pub restored : Kept → List ℕ → List ℕ
restored kept content = flat_map (as_it_was kept content) (below CHUNKS)

-- a frame: its bytes, and the committed content, which is the same where nobody changed them
pub record Framed : Type 0 where
  pub edit : List ℕ
  pub committed : List ℕ

-- a frame that nobody changed
abbrev pub clean_of : List ℕ → Framed
clean_of content = record { edit = content; committed = content }

-- nobody changed the frame
abbrev pub IsClean : Framed → Type 0
IsClean frame = frame.edit ≡ frame.committed

-- a frame with bytes written in place, from here on
abbrev pub logged : ℕ → List ℕ → Framed → Framed
logged first bytes frame = record frame { edit = overwritten first bytes frame.edit }

-- a frame whose changes are put back
abbrev pub undone : Framed → Framed
undone frame = clean_of frame.committed

-- a frame whose bytes are committed
abbrev pub committed_now : Framed → Framed
committed_now frame = clean_of frame.edit

-- what a content was, where chunks of it may be kept
abbrev pub before_edits : Option Kept → List ℕ → List ℕ
before_edits None content = content
before_edits (Some kept) content = restored kept content

-- a frame of a content of which chunks may be kept
abbrev pub framed : List ℕ → Option Kept → Framed
framed content kept = record { edit = content; committed = before_edits kept content }
