-- Entries of a checkpoint, wherever they lie, and what a list of them has to obey: what `Items` says of items.
use Rattle.std.specs.Prelude.{List, Option, flat_map, length, map, slice_index_or, sum_by, ℕ, [], ◌*◌, ◌+◌, ◌<◌, ◌^◌, ◌≡◌}
use Rattle.xt_base.specs.Chunks.{places_of, word_of}
use Rattle.xt_base.specs.Form.{form_of}
use Rattle.xt_base.specs.Sound.{RisesFromKeys}
use Rattle.xt_base.specs.Text.{item_text, text_in}
use Rattle.xt_base.specs.declared.sizes.TheConstants.{CHUNK_BYTES, CHUNK_COST, ENDS, ITEM_COST}
use Rattle.xt_ckpt.specs.Grammar.{Entry, map_limit}

-- the bytes of one entry in a text
abbrev pub entry_bytes : Entry → List ℕ
entry_bytes e = item_text e.block e.chunks e.content

-- the text of a checkpoint of these entries, which says the size of a block where one is given
abbrev pub entries_text : Option ℕ → ℕ → List Entry → List ℕ
entries_text size number es = text_in (form_of size) number (length es) (flat_map entry_bytes es)

-- what an entry costs in bytes of the log: 16, and 128 for each chunk
abbrev pub entry_len : Entry → ℕ
entry_len e = ITEM_COST + CHUNK_COST * length e.chunks

-- what a checkpoint of them costs
abbrev pub entries_len : List Entry → ℕ
entries_len es = ENDS + sum_by entry_len es

-- an entry has 128 bytes for each chunk
abbrev pub IsWhole : Entry → Type 0
IsWhole e = length e.content ≡ CHUNK_BYTES * length e.chunks

-- an entry logs no chunk that a block of a size lacks
abbrev pub Fits : Option ℕ → Entry → Type 0
Fits size e = word_of e.chunks < map_limit size

-- the blocks of the entries rise
abbrev pub EntriesRise : List Entry → Type 0
EntriesRise es = RisesFromKeys 0 (map (λ e. e.block) es)

-- an entry as it is kept: its block is one of 64 bits, and its set is that of a word of 32
pub record IsStored (e : Entry) : Type 0 where
  pub block : e.block < 2 ^ 64
  pub word : word_of e.chunks < 2 ^ 32
  pub back : places_of (word_of e.chunks) ≡ e.chunks

-- ---- the entry at an index
-- its block
abbrev pub block_at : List Entry → ℕ → ℕ
block_at es i = slice_index_or (map (λ e. e.block) es) i 0

-- its chunks
abbrev pub chunks_at : List Entry → ℕ → List ℕ
chunks_at es i = slice_index_or (map (λ e. e.chunks) es) i []

-- the bytes of its chunks
abbrev pub content_at : List Entry → ℕ → List ℕ
content_at es i = slice_index_or (map (λ e. e.content) es) i []
