-- A log of sealed texts in two files, which are written by turns.
use Rattle.std.specs.Prelude.{Bool, IfSome, List, None, Option, Some, [], length, min, nat_lt, not, sum_by, ℕ, ◌&&◌, ◌+◌, ◌++◌, ◌-◌, ◌^◌, ◌∷◌, ◌≡◌, if◌then◌else◌}
use Rattle.xt_base.specs.Text.{zeros}
use Rattle.xt_dev.specs.Segments.{Stored, all_safe}
use Rattle.xt_dev.specs.declared.sealed_files.SealedFiles.{SealedFiles}
use Rattle.xt_seal.specs.Headers.{head_bytes, header_bytes}
use Rattle.xt_seal.specs.Seal.{Seals, last_seal, seal_of, sealed_texts}
use Rattle.xt_seal.specs.declared.header.Header.{Header}

-- what one file has of a log: its header, and whole texts
pub record Part : Type 0 where
  pub header : Header
  pub texts : List (List ℕ)

-- the bytes of that: the header, and each text with its seal behind it
abbrev pub part_bytes : Part → List ℕ
part_bytes p = header_bytes p.header ++ sealed_texts (head_bytes p.header) (seal_of (head_bytes p.header)) p.texts

-- the seal at its end: of its last text, or of the header where it has none
abbrev pub part_seal : Part → List ℕ
part_seal p = last_seal (head_bytes p.header) (seal_of (head_bytes p.header)) p.texts

-- a log: what the older file has, if anything was written there, what the newer one has, and the bytes of the text that is begun behind that
pub record TwoFiles : Type 0 where
  pub older : Option Part
  pub newer : Part
  pub begun : List ℕ

-- what the newer file has: all of it is safe but the text that is begun
abbrev pub newer_stored : TwoFiles → Stored
newer_stored log = record { bytes = part_bytes log.newer ++ log.begun; safe = part_bytes log.newer }

-- what the older file has
abbrev pub older_stored : Option Part → Stored
older_stored None = all_safe []
older_stored (Some p) = all_safe (part_bytes p)

-- whether a text is begun
abbrev pub is_begun : TwoFiles → Bool
is_begun log = nat_lt 0 (length log.begun)

-- how many bytes the texts in the newer file have, without seals
abbrev pub texts_length : TwoFiles → ℕ
texts_length log = sum_by length log.newer.texts + length log.begun

-- the header of the file that is written behind this one: the next generation, and a link to its last seal
abbrev pub next_header : Part → Header
next_header p = record p.header { generation = p.header.generation + 1; link = part_seal p }

-- the first header of a life
abbrev pub IsFirst : Header → Type 0
IsFirst h = (h.generation ≡ 1) × (h.link ≡ zeros 8)

-- a header follows what the older file has
abbrev pub Follows : Option Part → Header → Type 0
Follows None h = IsFirst h
Follows (Some p) h = h ≡ next_header p

-- a log that begins a life: a header, and nothing more
abbrev pub first_log : Header → TwoFiles
first_log h = record { older = None; newer = record { header = h; texts = [] }; begun = [] }

-- a log after a piece more of a text
abbrev pub with_piece : List ℕ → TwoFiles → TwoFiles
with_piece piece log = record log { begun = log.begun ++ piece }

-- a log after a sync: the text that was begun is whole; where none was, nothing changed
abbrev pub synced : TwoFiles → TwoFiles
synced log = if is_begun log then record log { newer = record log.newer { texts = log.newer.texts ++ log.begun ∷ [] }; begun = [] } else log

-- a log after a turn: what was newer is older, and the other file has nothing but the next header
abbrev pub turned : TwoFiles → TwoFiles
turned log = record { older = Some log.newer; newer = record { header = next_header log.newer; texts = [] }; begun = [] }

-- whether a turn is due where a text of so many bytes comes next: none is begun, with it the texts of the newer file would have more bytes than the log of
-- the mount, and there is a next generation
abbrev pub is_due : ℕ → TwoFiles → Bool
is_due bytes log = not (is_begun log) && (nat_lt log.newer.header.log_bytes (texts_length log + bytes) && nat_lt log.newer.header.generation (2 ^ 64 - 1))

-- a log after such a call, which took a turn or not
abbrev pub after_room : Bool → TwoFiles → TwoFiles
after_room turns log = if turns then turned log else log

-- two files have a log, and what is kept of them in memory is right
pub record Holds {S : Type 0} (stored : S → Option Stored) (files : SealedFiles S) (log : TwoFiles) : Type 0 where
  pub follows : Follows log.older log.newer.header
  pub newer : IfSome (stored files.newer) (λ s. s ≡ newer_stored log)
  pub older : IfSome (stored files.older) (λ s. s ≡ older_stored log.older)
  pub header : files.header ≡ log.newer.header
  pub sums : Seals files.sealer (head_bytes log.newer.header) (part_seal log.newer) log.begun
  pub last : files.last ≡ part_seal log.newer
  pub within : files.is_within ≡ is_begun log
  pub length : files.length ≡ min (texts_length log) (2 ^ 64 - 1)
