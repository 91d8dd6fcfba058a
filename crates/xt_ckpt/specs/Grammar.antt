-- The grammar of a checkpoint text, by cases: which bytes are the text of a number and a list of items. Numbers are unsigned, the high byte first.
use Rattle.std.specs.Int.{to_be_bytes, w32, w64}
use Rattle.std.specs.Prelude.{List, None, Option, Some, [], codes, length, map, suc, true, ℕ, ◌*◌, ◌++◌, ◌/◌, ◌<◌, ◌^◌, ◌≡◌, ◌≤◌, ◌⊎◌, ◌∷◌}
use Rattle.xt_base.specs.Chunks.{places_of}
use Rattle.xt_base.specs.Form.{is_size}
use Rattle.xt_base.specs.declared.sizes.TheConstants.{BUSY_BLOCKS, CHUNKS, CHUNK_BYTES}
use Rattle.xt_ckpt.specs.declared.item.Item.{Item}

-- what a text says of one block: which chunks it logs, and their bytes
pub record Entry : Type 0 where
  pub block : ℕ
  pub chunks : List ℕ
  pub content : List ℕ

-- an item without where it lies in memory
abbrev pub entry : Item → Entry
entry item = record { block = item.block; chunks = item.chunks; content = item.content.items }

-- items without where they lie in memory
abbrev pub entries : List Item → List Entry
entries items = map entry items

-- the first word of a text, which says the size of a block or does not
abbrev pub start_of : Option ℕ → List ℕ
start_of None = codes "XCP1"
start_of (Some size) = codes "XCP2"

-- the size, where it is said
abbrev pub size_field : Option ℕ → List ℕ
size_field None = []
size_field (Some size) = to_be_bytes w32 size

-- the word behind the items
abbrev pub end_of : Option ℕ → List ℕ
end_of None = codes "XCE1"
end_of (Some size) = codes "XCE2"

-- what the map of an item is below: it has no bit for a chunk from size / 128 on
abbrev pub map_limit : Option ℕ → ℕ
map_limit None = 2 ^ CHUNKS
map_limit (Some size) = 2 ^ (size / CHUNK_BYTES)

-- the bytes before the items
abbrev pub head_of : Option ℕ → ℕ → ℕ → List ℕ
head_of size number count = start_of size ++ to_be_bytes w64 number ++ to_be_bytes w32 count ++ size_field size

-- a cancel: the block, a map without a chunk, and the flag 1
pub record IsCancel (bytes : List ℕ) (e : Entry) : Type 0 where
  pub block : e.block < 2 ^ 64
  pub chunks : e.chunks ≡ []
  pub content : e.content ≡ []
  pub fields : bytes ≡ to_be_bytes w64 e.block ++ to_be_bytes w32 0 ++ to_be_bytes w32 1

-- logged chunks: the block, their map, which names none that a block of the size lacks, the flag 0, and 128 bytes for each of them
pub record IsLogged (size : Option ℕ) (bytes : List ℕ) (e : Entry) : Type 0 where
  pub block : e.block < 2 ^ 64
  pub bits : ℕ
  pub some : 0 < bits
  pub word : bits < 2 ^ 32
  pub within : bits < map_limit size
  pub chunks : e.chunks ≡ places_of bits
  pub content : length e.content ≡ CHUNK_BYTES * length e.chunks
  pub fields : bytes ≡ to_be_bytes w64 e.block ++ to_be_bytes w32 bits ++ to_be_bytes w32 0 ++ e.content

-- an item is a cancel or has logged chunks
abbrev pub IsItem : Option ℕ → List ℕ → Entry → Type 0
IsItem size bytes e = IsCancel bytes e ⊎ IsLogged size bytes e

-- items one behind another, whose blocks rise from `least` on
abbrev pub AreItems : Option ℕ → ℕ → List ℕ → List Entry → Type 0
AreItems size least bytes [] = bytes ≡ []
AreItems size least bytes (e ∷ es) = (here : List ℕ) × (rest : List ℕ) × (bytes ≡ here ++ rest) × (least ≤ e.block) × IsItem size here e × AreItems size (suc e.block) rest es

-- the text of a checkpoint: XCP1, its number, the count of its items, the items, XCE1, the count, the number; or, where it says the size of a
-- block, XCP2, its number, the count, the size, the items, XCE2, the count, the number
pub record IsTextIn (size : Option ℕ) (bytes : List ℕ) (number : ℕ) (items : List Entry) : Type 0 where
  pub sized : is_size size ≡ true
  pub first : 1 ≤ number
  pub range : number < 2 ^ 64
  pub some : 1 ≤ length items
  pub few : length items ≤ BUSY_BLOCKS
  pub body : List ℕ
  pub each : AreItems size 0 body items
  pub fields : bytes ≡ head_of size number (length items) ++ body ++ end_of size ++ to_be_bytes w32 (length items) ++ to_be_bytes w64 number

-- one that does not say the size
abbrev pub IsText : List ℕ → ℕ → List Entry → Type 0
IsText bytes number items = IsTextIn None bytes number items
