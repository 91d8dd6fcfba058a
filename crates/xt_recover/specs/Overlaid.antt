-- What is gathered of the texts of a log, as it is kept: for each block the chunks, and a content that has them.
use Rattle.std.specs.Prelude.{List, None, Option, Some, [], if◌then◌else◌, length, unwrap_or, ℕ, ◌==◌, ◌∷◌}
use Rattle.xt_recover.specs.Chunks.{with_chunks}
use Rattle.xt_recover.specs.Sizes.{block_size}
use Rattle.xt_base.specs.Chunks.{union}
use Rattle.xt_base.specs.Maps.{at, has, put, without}
use Rattle.xt_base.specs.Text.{chunk, content_at}
use Rattle.xt_ckpt.specs.Grammar.{Entry}
use Rattle.xt_recover.specs.declared.overlay.Overlay.{Overlay}

-- what the texts say of the size of a block, the chunks of each block, and the contents that have them
pub record Overlaid : Type 0 where
  pub size : Option ℕ
  pub chunks : List (ℕ × List ℕ)
  pub contents : List (ℕ × List ℕ)

-- an overlay without where it lies in memory
abbrev pub overlaid : Overlay → Overlaid
overlaid o = record { size = o.size; chunks = o.chunks.entries; contents = o.contents.entries }

-- a cancel takes the block out, and another item is laid over what is there
abbrev pub with_item : Entry → Overlaid → Overlaid
with_item e l =
    if length e.chunks == 0 then record { size = l.size; chunks = without e.block l.chunks; contents = without e.block l.contents }
    else record {
      size = l.size;
      chunks = put e.block (union (unwrap_or (at e.block l.chunks) []) e.chunks) l.chunks;
      contents = put e.block (with_chunks e.chunks e.content (content_at (block_size l.size) e.block l.contents)) (without e.block l.contents);
    }

-- the items of a text, one after another
abbrev pub with_items : List Entry → Overlaid → Overlaid
with_items [] l = l
with_items (e ∷ es) l = with_items es (with_item e l)

-- what it has of a chunk
abbrev pub overlaid_chunk : Overlaid → ℕ → ℕ → Option (List ℕ)
overlaid_chunk l b k = if has (unwrap_or (at b l.chunks) []) k then Some (chunk (content_at (block_size l.size) b l.contents) k) else None

-- texts, the oldest first
abbrev pub with_texts : List (List Entry) → Overlaid → Overlaid
with_texts [] l = l
with_texts (t ∷ ts) l = with_texts ts (with_items t l)

-- nothing yet, of texts that say this of the size of a block
abbrev pub nothing : Option ℕ → Overlaid
nothing size = record { size = size; chunks = []; contents = [] }
