-- What a file of a log has.
use Rattle.std.specs.Prelude.{List, [], length, take, ℕ, ◌++◌, ◌≡◌}

-- the bytes of a file, and how many of them no loss of power takes: those that it had when it was last made safe
pub record Stored : Type 0 where
  pub bytes : List ℕ
  pub safe : List ℕ

-- bytes, all of them safe
abbrev pub all_safe : List ℕ → Stored
all_safe bytes = record { bytes = bytes; safe = bytes }

-- a file after a piece was put behind what it has
abbrev pub with_more : List ℕ → Stored → Stored
with_more piece s = record { bytes = s.bytes ++ piece; safe = s.safe }

-- a file after it was made safe
abbrev pub made_safe : Stored → Stored
made_safe s = all_safe s.bytes

-- a file after it was emptied, which is not safe yet
abbrev pub emptied : Stored → Stored
emptied s = record { bytes = []; safe = s.safe }

-- what is safe begins what a file has: so it is, unless the file was emptied and that is not safe yet
abbrev pub IsSettled : Stored → Type 0
IsSettled s = take (length s.safe) s.bytes ≡ s.safe
