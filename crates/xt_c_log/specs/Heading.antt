-- The headers of sealed logs, as a caller's words.
use Rattle.std.specs.Prelude.{List, MatchBool, drop, length, negsuc, pos, ℕ, ℤ, ◌++◌, ◌==◌, ◌≡◌, ◌⊎◌}
use Rattle.xt_c_log.specs.Told.{invalid}
use Rattle.xt_c_log.specs.declared.words.LogFields.{LogFields}
use Rattle.xt_seal.specs.Headers.{IsHeader, header_bytes}
use Rattle.xt_seal.specs.declared.header.Header.{Header}

-- EILSEQ of Linux, negative
abbrev pub illegal_sequence : ℤ
illegal_sequence = negsuc 83

-- the header that has these fields
abbrev pub header_of : LogFields → Header
header_of f = record {
  block_size = f.block_size;
  log_bytes = f.log_bytes;
  generation = f.generation;
  salt = f.salt;
  link = f.link;
  name = f.name;
}

-- a room of 64 bytes gets the header of these fields, its seal at the end; a room of another length stays as it is
abbrev pub IsBegun : LogFields → ℤ → List ℕ → List ℕ → Type 0
IsBegun fields status new old = MatchBool (length old == 64) ((status ≡ pos 0) × (new ≡ header_bytes (header_of fields))) ((status ≡ invalid) × (new ≡ old))

-- no header with its seal begins these bytes
abbrev pub BeginsNoHeader : List ℕ → Type 0
BeginsNoHeader bytes = (h : Header) (rest : List ℕ) → IsHeader h → bytes ≡ header_bytes h ++ rest → ⊥

-- the header of the fields that are told begins the bytes, with its seal; or none does, and nothing is told
abbrev pub IsHeaderRead : List ℕ → ℤ → LogFields → LogFields → Type 0
IsHeaderRead bytes status new old =
    ((status ≡ pos 0) × (bytes ≡ header_bytes (header_of new) ++ drop 64 bytes)) ⊎ ((status ≡ illegal_sequence) × BeginsNoHeader bytes × (new ≡ old))
