-- What one turn at a reader fetches.
use Rattle.std.specs.Io.KnownBytes.{Consumes, IsAtEnd, Keeps}
use Rattle.std.specs.Prelude.{List, Option, [], length, ℕ, ◌++◌, ◌<◌, ◌≡◌, ◌≤◌}
use Rattle.xt_session.specs.declared.intake.Fetched.{Fetched}
use Rattle.xt_session.specs.declared.intake.Fetched.TheVariants.{Again, Bytes, End, Fault}

-- so many bytes came behind what was held
pub record Grows (count limit : ℕ) (old new : List ℕ) (had has : Option (List ℕ)) : Type 0 where
  pub more : List ℕ
  pub grown : new ≡ old ++ more
  pub counted : length more ≡ count
  pub some : 0 < count
  pub few : count ≤ limit
  pub room : length new ≤ 8401
  pub consumed : Consumes had has more

-- what a turn at a reader leaves
abbrev pub Fetches : Fetched → ℕ → List ℕ → List ℕ → Option (List ℕ) → Option (List ℕ) → Type 0
Fetches (Bytes count) limit old new had has = Grows count limit old new had has
Fetches End limit old new had has = (new ≡ old) × Consumes had has [] × IsAtEnd has
Fetches Again limit old new had has = (new ≡ old) × Keeps had has
Fetches Fault limit old new had has = (new ≡ old) × Keeps had has
