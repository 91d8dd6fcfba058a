-- The text of a checkpoint, its pieces, and what is offered of them.
use Rattle.std.specs.Int.{to_be_bytes, w32, w64}
use Rattle.std.specs.Prelude.{Bool, List, None, Option, Some, [], codes, drop, false, flat_map, if◌then◌else◌, length, map, replicate, set, suc, take, true, unwrap_or, zero, ℕ, ◌*◌, ◌++◌, ◌+◌, ◌-◌, ◌/◌, ◌==◌, ◌∷◌}
use Rattle.xt_base.specs.Chunks.{word_of}
use Rattle.xt_base.specs.Form.{Form}
use Rattle.xt_base.specs.Maps.{at}
use Rattle.xt_base.specs.declared.sizes.TheConstants.{CHUNK_BYTES, PIECE_BYTES}
use Rattle.xt_base.specs.declared.steps.LogAnswers.{LogAnswers}
use Rattle.xt_base.specs.declared.steps.LogOffer.{LogOffer}

-- a block of zeros
abbrev pub zeros : ℕ → List ℕ
zeros size = replicate size 0

-- what a map of contents of a size has at a block
abbrev pub content_at : ℕ → ℕ → List (ℕ × List ℕ) → List ℕ
content_at size b contents = unwrap_or (at b contents) (zeros size)

-- the bytes of one chunk
abbrev pub chunk : List ℕ → ℕ → List ℕ
chunk content k = take CHUNK_BYTES (drop (CHUNK_BYTES * k) content)

-- the bytes of some chunks, one after another
abbrev pub chunk_bytes : List ℕ → List ℕ → List ℕ
chunk_bytes content set = flat_map (chunk content) set

-- an item's text: block, chunk map, cancel flag (1 where there is no chunk), and the bytes of its chunks
abbrev pub item_text : ℕ → List ℕ → List ℕ → List ℕ
item_text block set bytes = to_be_bytes w64 block ++ to_be_bytes w32 (word_of set) ++ to_be_bytes w32 (if length set == 0 then 1 else 0) ++ bytes

-- a text: XCP1, number, count of items, the items, XCE1, count, number
abbrev pub text_with : ℕ → ℕ → List ℕ → List ℕ
text_with number count body =
    codes "XCP1" ++ to_be_bytes w64 number ++ to_be_bytes w32 count ++ body ++ codes "XCE1" ++ to_be_bytes w32 count ++ to_be_bytes w64 number

-- a text that says the size of a block: XCP2, number, count of items, size, the items, XCE2, count, number
abbrev pub sized_text_with : ℕ → ℕ → ℕ → List ℕ → List ℕ
sized_text_with size number count body =
    codes "XCP2" ++ to_be_bytes w64 number ++ to_be_bytes w32 count ++ to_be_bytes w32 size ++ body ++ codes "XCE2" ++ to_be_bytes w32 count ++ to_be_bytes w64 number

-- the one or the other, by the form of a mount
abbrev pub text_in : Form → ℕ → ℕ → List ℕ → List ℕ
text_in form number count body = if form.sized then sized_text_with form.size number count body else text_with number count body

-- the text of a checkpoint: its number, and its items with these contents
abbrev pub text_of : Form → ℕ → List (ℕ × List ℕ) → List (ℕ × List ℕ) → List ℕ
text_of form number items contents = text_in form number (length items) (flat_map (λ e. item_text e.0 e.1 (chunk_bytes (content_at form.size e.0 contents) e.1)) items)

-- how many pieces a text has, the last one shorter or whole
abbrev pub piece_count : List ℕ → ℕ
piece_count text = (length text + (PIECE_BYTES - 1)) / PIECE_BYTES

-- the first n pieces
abbrev pub first_pieces : ℕ → List ℕ → List (List ℕ)
first_pieces zero text = []
first_pieces (suc n) text = take PIECE_BYTES text ∷ first_pieces n (drop PIECE_BYTES text)

-- the text cut into pieces
abbrev pub pieces : List ℕ → List (List ℕ)
pieces text = first_pieces (piece_count text) text

-- pieces that were all answered alike
abbrev pub offered : Bool → List (List ℕ) → List LogOffer
offered ok ps = map (λ p. LogOffer.Piece p ok) ps

-- after the pieces taken comes the sync, or the next piece, which failed
abbrev pub last_offer : Option Bool → List (List ℕ) → List LogOffer
last_offer (Some ok) rest = LogOffer.Sync ok ∷ []
last_offer None rest = offered false (take 1 rest)

-- what an end offered to the log, by its answers
abbrev pub log_offers_of : LogAnswers → List (List ℕ) → List LogOffer
log_offers_of answers ps = offered true (take answers.taken ps) ++ last_offer answers.sync (drop answers.taken ps)
