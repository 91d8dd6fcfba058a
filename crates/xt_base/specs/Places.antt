-- Where a key stands, or would stand, among the entries of a finite map.
use Rattle.std.specs.Prelude.{ℕ, List, [], ◌∷◌, suc, nat_lt, if◌then◌else◌}

module _ {V : Type 0} where
  -- how many entries stand before the first whose key is not below k
  abbrev pub place : ℕ → List (ℕ × V) → ℕ
  place k [] = 0
  place k (e ∷ es) = if nat_lt e.0 k then suc (place k es) else 0
