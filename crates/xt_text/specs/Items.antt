-- The texts of a checkpoint: its head and its items.
use Rattle.std.specs.Fmt.{decimal}
use Rattle.std.specs.Int.{to_be_bytes, w32}
use Rattle.std.specs.List.{flat_map}
use Rattle.std.specs.Prelude.{List, None, Option, Some, codes, if◌then◌else◌, length, ℕ, ◌==◌}
use Rattle.xt_base.specs.Chunks.{word_of}
use Rattle.xt_text.specs.DataText.{hex, spelling}
use Rattle.xt_text.specs.Lines.{ckpt_text, ◌␣◌}

-- the number of a checkpoint and the count of its items, and the size of a block where its text says it
abbrev pub head_text : ℕ → ℕ → Option ℕ → List ℕ
head_text number count None = ckpt_text number ␣ decimal count
head_text number count (Some size) = ckpt_text number ␣ decimal count ␣ decimal size

-- a word of 32 bits as eight hexadecimal digits
abbrev pub word_text : ℕ → List ℕ
word_text word = flat_map hex (to_be_bytes w32 word)

-- whether an item logs data or cancels, and the data
abbrev pub logged_text : List ℕ → List ℕ → List ℕ
logged_text chunks bytes = if length chunks == 0 then codes "cancel -" else codes "data" ␣ spelling bytes

-- a block, the word of its chunks, and their bytes; or that it is a cancel
abbrev pub item_text : ℕ → List ℕ → List ℕ → List ℕ
item_text block chunks bytes = decimal block ␣ word_text (word_of chunks) ␣ logged_text chunks bytes
