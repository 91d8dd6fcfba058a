-- What a reader answers, and the reading of numbers.
use Rattle.std.specs.Prelude.{Bool, Err, List, None, Ok, Option, Result, Some, [], false, if◌then◌else◌, nat_le, nat_lt, not, true, ℕ, ◌&&◌, ◌==◌, ◌*◌, ◌+◌, ◌-◌, ◌≡◌, ◌∷◌}
use Rattle.xt_text.specs.declared.bad_line.BadLine.{BadLine}
use Rattle.xt_text.specs.declared.bad_line.BadLine.TheVariants.{Memory, Spelling}

-- a reader answers as the text says: the value, or Spelling where the text says none; Memory says nothing
abbrev pub Gives : {A : Type 0} → Result A BadLine → Option A → Type 0
Gives (Ok x) said = said ≡ Some x
Gives (Err Spelling) said = said ≡ None
Gives (Err Memory) said = Unit {0}

-- the same for a value that is made of the result
abbrev pub GivesAs : {A B : Type 0} → (A → B) → Result A BadLine → Option B → Type 0
GivesAs f (Ok x) said = said ≡ Some (f x)
GivesAs f (Err Spelling) said = said ≡ None
GivesAs f (Err Memory) said = Unit {0}

-- what a value, if there is one, goes on to
infixr 20 ◌>>=◌
abbrev pub ◌>>=◌ : {A B : Type 0} → Option A → (A → Option B) → Option B
None >>= f = None
(Some x) >>= f = f x

-- a number with one more digit; none for what is no digit, and where it would pass the greatest u64
abbrev pub number_on : ℕ → ℕ → Option ℕ
number_on number c = if nat_le 48 c && nat_le c 57 && nat_lt (10 * number + (c - 48)) 18446744073709551616 then Some (10 * number + (c - 48)) else None

-- a number with more digits
abbrev pub number_with : ℕ → List ℕ → Option ℕ
number_with number [] = Some number
number_with number (c ∷ cs) = number_on number c >>= λ more. number_with more cs

-- whether there is a first character, and no other behind a zero
abbrev pub is_plain : List ℕ → Bool
is_plain [] = false
is_plain (c ∷ []) = true
is_plain (c ∷ d ∷ cs) = not (c == 48)

-- the number of some digits, where no zero leads
abbrev pub number_of : List ℕ → Option ℕ
number_of word = if is_plain word then number_with 0 word else None

-- a number below a limit
abbrev pub below : ℕ → List ℕ → Option ℕ
below limit word = number_of word >>= λ number. if nat_lt number limit then Some number else None
