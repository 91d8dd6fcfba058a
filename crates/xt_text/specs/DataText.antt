-- Data as text: a list of bytes has one spelling.
use Rattle.std.specs.Fmt.{decimal}
use Rattle.std.specs.List.{All, flat_map}
use Rattle.std.specs.Prelude.{Bool, List, [], if◌then◌else◌, length, nat_lt, replicate, ℕ, ◌<◌, ◌≤◌, ◌%◌, ◌&&◌, ◌++◌, ◌+◌, ◌-◌, ◌/◌, ◌==◌, ◌∷◌}
use Rattle.xt_base.specs.declared.sizes.TheConstants.{DATA_BYTES}
use Rattle.xt_text.specs.declared.data_text.TheConstants.{DIGITS}
use Rattle.xt_text.specs.declared.data_text.Run.{Run}

-- a hexadecimal digit, in lower case
abbrev pub hex_digit : ℕ → ℕ
hex_digit value = if nat_lt value 10 then 48 + value else 87 + value

-- a byte as two hexadecimal digits
abbrev pub hex : ℕ → List ℕ
hex byte = hex_digit (byte / DIGITS) ∷ hex_digit (byte % DIGITS) ∷ []

-- one more byte before some runs: the first run grows if it is of that byte
abbrev pub onto_runs : ℕ → List Run → List Run
onto_runs x [] = record { byte = x; count = 1 } ∷ []
onto_runs x (r ∷ rs) = if r.byte == x then record { byte = x; count = r.count + 1 } ∷ rs else record { byte = x; count = 1 } ∷ r ∷ rs

-- the maximal runs of equal bytes, in order
abbrev pub runs : List ℕ → List Run
runs [] = []
runs (x ∷ xs) = onto_runs x (runs xs)

-- a run of fewer than four bytes
abbrev pub is_short : Run → Bool
is_short r = nat_lt r.count 4

-- a run's text: the digits of each byte of a short one; XX*N for a longer one
abbrev pub run_text : Run → List ℕ
run_text r = if is_short r then flat_map hex (replicate r.count r.byte) else hex r.byte ++ 42 ∷ decimal r.count

-- a dot between neighbours, unless both are short
abbrev pub between : Run → Run → List ℕ
between r s = if is_short r && is_short s then [] else 46 ∷ []

-- the text of the runs that come after a run
abbrev pub after_run : Run → List Run → List ℕ
after_run r [] = []
after_run r (s ∷ rs) = between r s ++ run_text s ++ after_run s rs

-- the text of some runs; a dash for none
abbrev pub runs_text : List Run → List ℕ
runs_text [] = 45 ∷ []
runs_text (r ∷ rs) = run_text r ++ after_run r rs

-- some runs, of which the one with a place has so many bytes more
abbrev pub grown : ℕ → ℕ → List Run → List Run
grown place more [] = []
grown place more (r ∷ rs) = if nat_lt place r.count then record { byte = r.byte; count = r.count + more } ∷ rs else r ∷ grown (place - r.count) more rs

-- the one spelling of a list of bytes
abbrev pub spelling : List ℕ → List ℕ
spelling bytes = runs_text (runs bytes)

-- data: bytes, no more than a request may carry
pub record IsData (bytes : List ℕ) : Type 0 where
  pub few : length bytes ≤ DATA_BYTES
  pub are_bytes : All (λ b. b < 256) bytes
