-- How a file of a log begins.
use Rattle.std.specs.List.{starts_with}
use Rattle.std.specs.Prelude.{Bool, List, None, Option, Some, [], codes, drop, length, nat_eq, true, ℕ, ◌+◌, ◌++◌, ◌<◌, ◌||◌, ◌≡◌, ◌≤◌, ◌⊎◌}
use Rattle.xt_seal.specs.Headers.{IsHeader, head_bytes, header_bytes}
use Rattle.xt_seal.specs.Seal.{Seals, seal_of}
use Rattle.xt_seal.specs.Sums.{Sums}
use Rattle.xt_seal.specs.declared.header.Header.{Header}
use Rattle.xt_seal.specs.declared.header.TheConstants.{HEADER_BYTES}
use Rattle.xt_window.specs.Window.{Held, ahead, taken}
use Rattle.xt_window.specs.declared.start.Start.{Start}
use Rattle.xt_window.specs.declared.start.Unsealed.{Unsealed}

-- the first word of a text begins the bytes
abbrev pub begins_bare : List ℕ → Bool
begins_bare bytes = starts_with nat_eq bytes (codes "XCP1") || starts_with nat_eq bytes (codes "XCP2")

-- so many bytes are held, or the log ends with those that are
abbrev pub IsFilled : ℕ → Held → Type 0
IsFilled len h = (len ≤ length h.bytes) ⊎ (h.is_ended ≡ true)

-- a header with its seal begins the bytes, and then these follow, at least one: a header alone is none, since a file that was emptied may have got back what it had in front
pub record BeginsHeader (bytes : List ℕ) (h : Header) (more : List ℕ) : Type 0 where
  pub fits : IsHeader h
  pub parts : bytes ≡ header_bytes h ++ more
  pub some : 1 ≤ length more

-- none does
abbrev pub BeginsNoHeader : List ℕ → Type 0
BeginsNoHeader bytes = (h : Header) (more : List ℕ) → BeginsHeader bytes h more → ⊥

-- how many bytes there are, where a header has as many or more
abbrev pub IsShort : List ℕ → Option ℕ → Type 0
IsShort bytes (Some count) = (count ≡ length bytes) × (count ≤ HEADER_BYTES)
IsShort bytes None = HEADER_BYTES < length bytes

-- no header begins the bytes, and this is seen of them
pub record IsUnsealed (bytes : List ℕ) (seen : Unsealed) : Type 0 where
  pub none : BeginsNoHeader bytes
  pub word : seen.has_text ≡ begins_bare bytes
  pub short : IsShort bytes seen.short

-- a header begins the bytes, and of that all is summed up; or none does
abbrev pub IsStartOf : List ℕ → Start → Type 0
IsStartOf bytes (Start.Sealed h sums) = BeginsHeader bytes h (drop HEADER_BYTES bytes) × Seals sums (head_bytes h) (seal_of (head_bytes h)) []
IsStartOf bytes (Start.Other seen) = IsUnsealed bytes seen

-- a header is taken, and nothing else
abbrev pub past : Start → ℕ
past (Start.Sealed h sums) = HEADER_BYTES
past (Start.Other seen) = 0

-- how what is held begins, as far as it is held
abbrev pub IsStarted : Held → Start → Held → Type 0
IsStarted old start new = IsStartOf old.bytes start × (new ≡ taken (past start) old)

-- how a log begins that has these bytes from the offset on, of which a header is taken
pub record IsStart (old : Held) (log : List ℕ) (start : Start) (new : Held) (has : Option (List ℕ)) : Type 0 where
  pub is : IsStartOf log start
  pub place : new.offset ≡ old.offset + past start
  pub ahead : ahead new has ≡ Some (drop (past start) log)
