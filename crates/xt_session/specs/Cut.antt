-- A text cut into lines.
use Rattle.std.specs.List.{position_or_len}
use Rattle.std.specs.Prelude.{List, [], if◌then◌else◌, ℕ, ◌++◌, ◌==◌, ◌∷◌}

-- a line with its newline
abbrev pub ended : List ℕ → List ℕ
ended line = line ++ 10 ∷ []

-- the lines of a text that end with a newline, each without it, and what stands behind the last newline
pub record Cut : Type 0 where
  pub lines : List (List ℕ)
  pub rest : List ℕ

-- a byte that is no newline, put in front of a text that is cut
abbrev pub byte_before : ℕ → List (List ℕ) → List ℕ → Cut
byte_before b [] rest = record { lines = []; rest = b ∷ rest }
byte_before b (line ∷ lines) rest = record { lines = (b ∷ line) ∷ lines; rest = rest }

-- the lines of a text
abbrev pub cut : List ℕ → Cut
cut [] = record { lines = []; rest = [] }
cut (b ∷ bytes) = if b == 10 then record { lines = [] ∷ (cut bytes).lines; rest = (cut bytes).rest } else byte_before b (cut bytes).lines (cut bytes).rest

-- what stands behind the last newline, as a line of its own where there is anything
abbrev pub last_line : List ℕ → List (List ℕ)
last_line [] = []
last_line (b ∷ bytes) = (b ∷ bytes) ∷ []

-- where the first newline of a text stands; its length where it has none
abbrev pub line_end : List ℕ → ℕ
line_end text = position_or_len (λ b. b == 10) text
