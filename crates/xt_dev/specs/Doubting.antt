-- Which sectors of a home device are in doubt.
use Rattle.std.specs.Prelude.{Bool, List, [], suc, true, zero, ℕ, ◌+◌, ◌++◌, ◌<◌, ◌==◌, ◌∷◌, ◌≡◌}
use Rattle.std.specs.List.{list_any}

-- whether a sector is among these
abbrev pub is_among : List ℕ → ℕ → Bool
is_among sectors s = list_any (λ c. c == s) sectors

-- one of so many sectors from one on is among these
abbrev pub HasAmong : List ℕ → ℕ → ℕ → Type 0
HasAmong sectors first count = (k : ℕ) × (k < count) × (is_among sectors (first + k) ≡ true)

-- so many sectors from one on
abbrev pub sectors_from : ℕ → ℕ → List ℕ
sectors_from first zero = []
sectors_from first (suc n) = sectors_from first n ++ (first + n) ∷ []
