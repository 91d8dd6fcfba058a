-- The texts that stand on a log, and the image that recovery makes of them.
use Rattle.std.specs.Prelude.{Bool, List, None, Option, Some, [], flat_map, if◌then◌else◌, length, nat_le, unwrap_or, ℕ, ◌&&◌, ◌/◌, ◌<◌, ◌==◌, ◌∷◌}
use Rattle.xt_base.specs.Form.{Form}
use Rattle.xt_base.specs.Maps.{at, has, is_in}
use Rattle.xt_base.specs.Text.{chunk, chunk_bytes, item_text, text_in}
use Rattle.xt_base.specs.declared.sizes.TheConstants.{CHUNK_BYTES}

-- a block of so many bytes has this chunk
abbrev pub HasChunk : ℕ → ℕ → Type 0
HasChunk size k = k < size / CHUNK_BYTES

-- the bytes of each chunk of each block
abbrev pub Image : Type 0
Image = ℕ → ℕ → List ℕ

-- the text of a checkpoint: its number, its items, and each block's committed content at its begin
pub record CheckpointText : Type 0 where
  pub number : ℕ
  pub items : List (ℕ × List ℕ)
  pub contents : ℕ → List ℕ

-- the bytes of a text of this form
abbrev pub text_bytes : Form → CheckpointText → List ℕ
text_bytes form w = text_in form w.number (length w.items) (flat_map (λ e. item_text e.0 e.1 (chunk_bytes (w.contents e.0) e.1)) w.items)

-- the chunks that items log of a block
abbrev pub chunks_of : ℕ → List (ℕ × List ℕ) → List ℕ
chunks_of b items = unwrap_or (at b items) []

-- whether items cancel a block
abbrev pub is_cancel : ℕ → List (ℕ × List ℕ) → Bool
is_cancel b items = is_in b items && (length (chunks_of b items) == 0)

-- a chunk as the newest text that logs it has it; a text that cancels its block hides what is older
abbrev pub logged_chunk : List CheckpointText → ℕ → ℕ → Option (List ℕ)
logged_chunk [] b k = None
logged_chunk (w ∷ ws) b k =
    if is_cancel b w.items then None else (if has (chunks_of b w.items) k then Some (chunk (w.contents b) k) else logged_chunk ws b k)

-- the home image with the texts of the log laid over it, the newest first; a chunk that none of them gives is as it is at home
abbrev pub recovered_image : List CheckpointText → Image → Image
recovered_image log home b k = unwrap_or (logged_chunk log b k) (home b k)

-- the texts whose number is at least n, the newest first
abbrev pub texts_from : ℕ → List CheckpointText → List CheckpointText
texts_from n [] = []
texts_from n (w ∷ ws) = if nat_le n w.number then w ∷ texts_from n ws else []
