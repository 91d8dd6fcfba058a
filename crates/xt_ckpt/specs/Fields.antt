-- How the fields of a text are judged: one after another, each once all its bytes are there.
use Rattle.std.specs.Int.{from_be_bytes, w32, w64}
use Rattle.std.specs.Prelude.{Bool, List, None, Option, Some, [], if◌then◌else◌, length, nat_le, nat_lt, suc, ℕ, ◌&&◌, ◌*◌, ◌++◌, ◌<◌, ◌==◌, ◌≡◌, ◌∷◌}
use Rattle.xt_base.specs.Chunks.{places_of}
use Rattle.xt_base.specs.Form.{is_size}
use Rattle.xt_base.specs.declared.sizes.TheConstants.{BUSY_BLOCKS, CHUNK_BYTES}
use Rattle.xt_ckpt.specs.Grammar.{Entry, end_of, map_limit, start_of}
use Rattle.xt_ckpt.specs.declared.draft.Field.{Field}

-- what the fields so far say, and which field is next
pub record Draft : Type 0 where
  -- the size of a block, where the text says it; 0 until it does
  pub size : Option ℕ
  pub number : ℕ
  pub count : ℕ
  pub items : List Entry
  -- the least block that the next item may have
  pub least : ℕ
  pub next : Field

-- nothing is read yet
abbrev pub opening : Draft
opening = record { size = None; number = 0; count = 0; items = []; least = 0; next = Field.Start }

-- how many bytes a field has
abbrev pub width : Field → ℕ
width Field.Start = 4
width Field.Number = 8
width Field.Count = 4
width Field.Size = 4
width Field.Block = 8
width (Field.Map block) = 4
width (Field.Flag block bits) = 4
width (Field.Content block bits) = CHUNK_BYTES * length (places_of bits)
width Field.End = 4
width Field.EndCount = 4
width Field.EndNumber = 8
width Field.Nothing = 0

-- the first word of a text
abbrev pub start_word : Option ℕ → ℕ
start_word size = from_be_bytes w32 (start_of size)

-- the word behind its items
abbrev pub end_word : Option ℕ → ℕ
end_word size = from_be_bytes w32 (end_of size)

-- the draft goes on where the field's rule holds
abbrev pub provided : Bool → Draft → Option Draft
provided holds d = if holds then Some d else None

-- behind the count and behind each item comes an item, or the end where there are as many as the count says
abbrev pub at_item : Draft → Draft
at_item d = record d { next = if length d.items == d.count then Field.End else Field.Block }

-- behind the count comes the size, where the text says it
abbrev pub at_body : Option ℕ → Draft → Draft
at_body None d = at_item d
at_body (Some size) d = record d { next = Field.Size }

-- the draft with one more item
abbrev pub with_item : ℕ → ℕ → List ℕ → Draft → Draft
with_item block bits content d = at_item (record d { items = d.items ++ (record { block = block; chunks = places_of bits; content = content }) ∷ []; least = suc block })

-- the first word says of which kind a text is
abbrev pub start_rule : ℕ → Draft → Option Draft
start_rule word d =
    if word == start_word None then Some (record d { size = None; next = Field.Number })
    else provided (word == start_word (Some 0)) (record d { size = Some 0; next = Field.Number })

-- a number is at least 1
abbrev pub number_rule : ℕ → Draft → Option Draft
number_rule number d = provided (nat_le 1 number) (record d { number = number; next = Field.Count })

-- there is an item, and no more than blocks can be busy
abbrev pub count_rule : ℕ → Draft → Option Draft
count_rule count d = provided (nat_le 1 count && nat_le count BUSY_BLOCKS) (at_body d.size (record d { count = count }))

-- the size is one of the four
abbrev pub size_rule : ℕ → Draft → Option Draft
size_rule size d = provided (is_size (Some size)) (at_item (record d { size = Some size }))

-- the block of an item is above that of the item before
abbrev pub block_rule : ℕ → Draft → Option Draft
block_rule block d = provided (nat_le d.least block) (record d { next = Field.Map block })

-- the map names no chunk that a block of the size does not have
abbrev pub map_rule : ℕ → ℕ → Draft → Option Draft
map_rule block bits d = provided (nat_lt bits (map_limit d.size)) (record d { next = Field.Flag block bits })

-- the flag is 1 where the map is 0, and that is the whole item; else it is 0, and the chunks follow
abbrev pub flag_rule : ℕ → ℕ → ℕ → Draft → Option Draft
flag_rule block bits flag d =
    provided (flag == (if bits == 0 then 1 else 0)) (if bits == 0 then with_item block 0 [] d else record d { next = Field.Content block bits })

-- the rule of each field, and what is said with it; any content will do
abbrev pub after_field : Field → List ℕ → Draft → Option Draft
after_field Field.Start bytes d = start_rule (from_be_bytes w32 bytes) d
after_field Field.Number bytes d = number_rule (from_be_bytes w64 bytes) d
after_field Field.Count bytes d = count_rule (from_be_bytes w32 bytes) d
after_field Field.Size bytes d = size_rule (from_be_bytes w32 bytes) d
after_field Field.Block bytes d = block_rule (from_be_bytes w64 bytes) d
after_field (Field.Map block) bytes d = map_rule block (from_be_bytes w32 bytes) d
after_field (Field.Flag block bits) bytes d = flag_rule block bits (from_be_bytes w32 bytes) d
after_field (Field.Content block bits) bytes d = Some (with_item block bits bytes d)
after_field Field.End bytes d = provided (from_be_bytes w32 bytes == end_word d.size) (record d { next = Field.EndCount })
after_field Field.EndCount bytes d = provided (from_be_bytes w32 bytes == d.count) (record d { next = Field.EndNumber })
after_field Field.EndNumber bytes d = provided (from_be_bytes w64 bytes == d.number) (record d { next = Field.Nothing })
after_field Field.Nothing bytes d = None

-- the draft behind its next field, or None where that breaks its rule
abbrev pub after : Draft → List ℕ → Option Draft
after d bytes = after_field d.next bytes d

-- whole fields that obey their rules lead from one draft to another
pub data Reads : Draft → List ℕ → Draft → Type 0 where
  nothing : (d : Draft) → Reads d [] d
  field : (d mid last : Draft) (bytes rest : List ℕ) → length bytes ≡ width d.next → after d bytes ≡ Some mid → Reads mid rest last → Reads d (bytes ++ rest) last

-- the input ends within a field, and all before it obey their rules
pub record IsUnfinished (input : List ℕ) : Type 0 where
  pub draft : Draft
  pub front : List ℕ
  pub rest : List ℕ
  pub parts : input ≡ front ++ rest
  pub reads : Reads opening front draft
  pub short : length rest < width draft.next

-- the field that begins at an offset is all there and breaks its rule, and all before it obey theirs
pub record IsFaultAt (offset : ℕ) (input : List ℕ) : Type 0 where
  pub draft : Draft
  pub front : List ℕ
  pub bytes : List ℕ
  pub rest : List ℕ
  pub parts : input ≡ front ++ bytes ++ rest
  pub place : offset ≡ length front
  pub reads : Reads opening front draft
  pub more : 0 < width draft.next
  pub whole : length bytes ≡ width draft.next
  pub broken : after draft bytes ≡ None
