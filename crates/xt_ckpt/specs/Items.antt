-- Items of a checkpoint, and what a list of them has to obey.
use Rattle.std.specs.Prelude.{List, Option, flat_map, length, map, sum_by, ℕ, ◌*◌, ◌+◌, ◌<◌, ◌≡◌}
use Rattle.xt_base.specs.Chunks.{word_of}
use Rattle.xt_base.specs.Form.{form_of}
use Rattle.xt_base.specs.Sound.{RisesFromKeys}
use Rattle.xt_base.specs.Text.{item_text, text_in, text_with}
use Rattle.xt_base.specs.declared.sizes.TheConstants.{CHUNK_BYTES, CHUNK_COST, ENDS, ITEM_COST}
use Rattle.xt_ckpt.specs.Grammar.{map_limit}
use Rattle.xt_ckpt.specs.declared.item.Item.{Item}

-- the bytes of one item in a text
abbrev pub item_bytes : Item → List ℕ
item_bytes item = item_text item.block item.chunks item.content.items

-- the text of a checkpoint
abbrev pub checkpoint_text : ℕ → List Item → List ℕ
checkpoint_text number items = text_with number (length items) (flat_map item_bytes items)

-- the text of a checkpoint, which says the size of a block where one is given
abbrev pub checkpoint_text_in : Option ℕ → ℕ → List Item → List ℕ
checkpoint_text_in size number items = text_in (form_of size) number (length items) (flat_map item_bytes items)

-- what an item costs in bytes of the log: 16, and 128 for each chunk
abbrev pub item_len : Item → ℕ
item_len item = ITEM_COST + CHUNK_COST * length item.chunks

-- what a checkpoint costs: the length of its text
abbrev pub checkpoint_len : List Item → ℕ
checkpoint_len items = ENDS + sum_by item_len items

-- an item has 128 bytes for each chunk
abbrev pub HasForm : Item → Type 0
HasForm item = length item.content.items ≡ CHUNK_BYTES * length item.chunks

-- an item logs no chunk that a block of a size lacks
abbrev pub FitsSize : Option ℕ → Item → Type 0
FitsSize size item = word_of item.chunks < map_limit size

-- the blocks of the items rise
abbrev pub BlocksRise : List Item → Type 0
BlocksRise items = RisesFromKeys 0 (map (λ item. item.block) items)
