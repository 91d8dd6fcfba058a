-- A word with a bit for each key of a map.
use Rattle.std.specs.Int.{bit_at}
use Rattle.std.specs.Prelude.{Bool, List, true, ℕ, ◌%◌, ◌==◌, ◌≡◌}
use Rattle.xt_base.specs.Sound.{Each}

-- whether the bit of a key is set
abbrev pub passes : ℕ → ℕ → Bool
passes bits key = bit_at bits (key % 64) == 1

-- the bit of each key is
abbrev pub ArePassed : {V : Type 0} → ℕ → List (ℕ × V) → Type 0
ArePassed bits es = Each (λ e. passes bits e.0 ≡ true) es
