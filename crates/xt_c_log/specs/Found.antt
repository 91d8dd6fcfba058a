-- A checkpoint that begins some bytes.
use Rattle.std.specs.Prelude.{List, length, negsuc, pos, unwrap_or, ℕ, ℤ, ◌≡◌, ◌⊎◌}
use Rattle.xt_c_log.specs.declared.words.FoundWords.{FoundWords}
use Rattle.xt_ckpt.specs.Fields.{IsFaultAt, IsUnfinished}
use Rattle.xt_ckpt.specs.Reading.{Begins, BeginsNoText}
use Rattle.xt_ckpt.specs.declared.reading.Checkpoint.{Checkpoint}

-- what is told of a checkpoint whose text has so many bytes
pub record IsFound (checkpoint : Checkpoint) (len : ℕ) (told : FoundWords) : Type 0 where
  pub number : told.number ≡ checkpoint.no
  pub bytes : told.bytes ≡ len
  pub items : told.items ≡ length checkpoint.items.items
  pub size : told.size ≡ unwrap_or checkpoint.size 0

-- a checkpoint begins the input, and this is told of it
pub record HasFound (input : List ℕ) (told : FoundWords) : Type 0 where
  pub checkpoint : Checkpoint
  pub len : ℕ
  pub begins : Begins input checkpoint len
  pub found : IsFound checkpoint len told

-- a reading: 1 found; 0 the input ends within a field, and no text begins it; 2 the first field that breaks its rule is at the byte that is told, and that
-- is all that is told; ENOMEM. Of 0 and ENOMEM nothing is told
abbrev pub IsRead : List ℕ → ℤ → FoundWords → FoundWords → Type 0
IsRead input status told before =
    ((status ≡ pos 1) × HasFound input told)
    ⊎ ((status ≡ pos 0) × BeginsNoText input × IsUnfinished input × (told ≡ before))
    ⊎ ((status ≡ pos 2) × IsFaultAt told.bytes input × (told ≡ record before { bytes = told.bytes }))
    ⊎ ((status ≡ negsuc 11) × (told ≡ before))
