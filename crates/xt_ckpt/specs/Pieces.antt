-- A text that is given in pieces: its parts, a place in it, and what is still to come from there on.
use Rattle.std.specs.Int.{to_be_bytes, w32, w64}
use Rattle.std.specs.Prelude.{List, None, Option, Some, [], drop, flat_map, if◌then◌else◌, length, map, nat_lt, slice_index_or, ℕ, ◌*◌, ◌++◌, ◌+◌, ◌-◌, ◌<◌, ◌==◌, ◌≡◌, ◌≤◌}
use Rattle.xt_base.specs.Chunks.{word_of}
use Rattle.xt_ckpt.specs.Entries.{content_at, entry_bytes}
use Rattle.xt_ckpt.specs.Grammar.{Entry, end_of, entries, head_of, size_field}
use Rattle.xt_ckpt.specs.declared.format.TheConstants.{END_BYTES, FIELD_BYTES}
use Rattle.xt_ckpt.specs.declared.item.Item.{Item}
use Rattle.xt_ckpt.specs.declared.piece_writer.PieceWriter.{PieceWriter}
use Rattle.xt_ckpt.specs.declared.place.Ends.{Ends}
use Rattle.xt_ckpt.specs.declared.place.Part.{Part}
use Rattle.xt_ckpt.specs.declared.place.Place.{Place}

-- the fields before the items: the first word, the number, the count, and the size where it is said
abbrev pub front_bytes : Ends → List ℕ
front_bytes ends = head_of ends.size ends.number ends.count

-- the fields behind them: the last word, the count, the number
abbrev pub end_bytes : Ends → List ℕ
end_bytes ends = end_of ends.size ++ to_be_bytes w32 ends.count ++ to_be_bytes w64 ends.number

-- a block, the map of its chunks, and the flag of a cancel
abbrev pub field_bytes : ℕ → List ℕ → List ℕ
field_bytes block chunks = to_be_bytes w64 block ++ to_be_bytes w32 (word_of chunks) ++ to_be_bytes w32 (if length chunks == 0 then 1 else 0)

-- the fields of the item at an index
abbrev pub fields_at : List Entry → ℕ → List ℕ
fields_at items i = slice_index_or (map (λ e. field_bytes e.block e.chunks) items) i []

-- what a text has from the item at an index on
abbrev pub from_item : Ends → List Entry → ℕ → List ℕ
from_item ends items i = flat_map entry_bytes (drop i items) ++ end_bytes ends

-- the bytes of a part
abbrev pub part_bytes : Ends → List Entry → Part → List ℕ
part_bytes ends items Part.Front = front_bytes ends
part_bytes ends items (Part.Fields i) = fields_at items i
part_bytes ends items (Part.Content i) = content_at items i
part_bytes ends items Part.End = end_bytes ends
part_bytes ends items Part.Nothing = []

-- what a text has behind a part
abbrev pub behind : Ends → List Entry → Part → List ℕ
behind ends items Part.Front = from_item ends items 0
behind ends items (Part.Fields i) = content_at items i ++ from_item ends items (i + 1)
behind ends items (Part.Content i) = from_item ends items (i + 1)
behind ends items Part.End = []
behind ends items Part.Nothing = []

-- what a text has from a place on
abbrev pub from_place : Ends → List Entry → Place → List ℕ
from_place ends items place = drop place.done (part_bytes ends items place.part) ++ behind ends items place.part

-- an item is one of so many
abbrev pub IsPart : ℕ → Part → Type 0
IsPart count Part.Front = Unit {0}
IsPart count (Part.Fields i) = i < count
IsPart count (Part.Content i) = i < count
IsPart count Part.End = Unit {0}
IsPart count Part.Nothing = Unit {0}

-- how many bytes a part has
abbrev pub part_len : Ends → List Entry → Part → ℕ
part_len ends items Part.Front = END_BYTES + length (size_field ends.size)
part_len ends items (Part.Fields i) = FIELD_BYTES
part_len ends items (Part.Content i) = length (content_at items i)
part_len ends items Part.End = END_BYTES
part_len ends items Part.Nothing = 0

-- a place lies in the text of these items
pub record LiesIn (ends : Ends) (items : List Entry) (place : Place) : Type 0 where
  pub part : IsPart (length items) place.part
  pub done : place.done ≤ part_len ends items place.part

-- the part behind the items before an index: the next item, or the end
abbrev pub item_or_end : ℕ → ℕ → Part
item_or_end count i = if nat_lt i count then Part.Fields i else Part.End

-- the part behind a part
abbrev pub next_part : ℕ → Part → Part
next_part count Part.Front = item_or_end count 0
next_part count (Part.Fields i) = Part.Content i
next_part count (Part.Content i) = item_or_end count (i + 1)
next_part count Part.End = Part.Nothing
next_part count Part.Nothing = Part.Nothing

-- how many parts follow a part at most
abbrev pub rank : ℕ → Part → ℕ
rank count Part.Front = 2 * count + 2
rank count (Part.Fields i) = 2 * (count - i) + 1
rank count (Part.Content i) = 2 * (count - i)
rank count Part.End = 1
rank count Part.Nothing = 0

-- bytes of a part were put from `done` on: all that were left, or as many as there was room for and so far
abbrev pub IsPut : List ℕ → ℕ → ℕ → List ℕ → List ℕ → Option ℕ → Type 0
IsPut bytes done limit old new None = (new ≡ old ++ drop done bytes) × (length new ≤ limit)
IsPut bytes done limit old new (Some far) = (new ++ drop far bytes ≡ old ++ drop done bytes) × (length new ≡ limit) × (far ≤ length bytes)

-- what is still to come of the text of these entries
abbrev pub left_of : List Entry → PieceWriter → List ℕ
left_of es writer = from_place writer.ends es writer.place

-- the writer is one for these entries: they are as many as was said at its making, and it has come to a place in their text
pub record IsFor (es : List Entry) (writer : PieceWriter) : Type 0 where
  pub count : length es ≡ writer.ends.count
  pub place : LiesIn writer.ends es writer.place

-- what is still to come of the text of these items
abbrev pub to_come : List Item → PieceWriter → List ℕ
to_come items writer = left_of (entries items) writer

-- the writer is one for these items
abbrev pub IsOf : List Item → PieceWriter → Type 0
IsOf items writer = IsFor (entries items) writer

-- the bytes that were given, none at the end
abbrev pub given_bytes : Option (List ℕ) → List ℕ
given_bytes None = []
given_bytes (Some piece) = piece
