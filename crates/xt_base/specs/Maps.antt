-- Finite maps from numbers: lists of entries by rising key, with the words of a `BTreeMap`'s clauses; and sets of numbers, which rise.
use Rattle.std.specs.BTreeMap.{insert_entry, is_at}
use Rattle.std.specs.BTreeSet.{insert_key}
use Rattle.std.specs.Map.{lookup, remove_entry, set_value}
use Rattle.std.specs.Ordering.{nat_cmp}
use Rattle.std.specs.Prelude.{Bool, List, Option, filter, is_some, nat_eq, not, set, ℕ, ◌==◌}
use Rattle.std.specs.Set.{is_member}

module _ {V : Type 0} where
  -- what the map has at a key
  abbrev pub at : ℕ → List (ℕ × V) → Option V
  at k m = lookup (is_at (nat_cmp k)) m

  -- whether it has the key
  abbrev pub is_in : ℕ → List (ℕ × V) → Bool
  is_in k m = is_some (at k m)

  -- the map with a value at a key, which may be new
  abbrev pub put : ℕ → V → List (ℕ × V) → List (ℕ × V)
  put k v m = insert_entry nat_cmp m k v

  -- the map with another value at a key that it has
  abbrev pub set_at : ℕ → V → List (ℕ × V) → List (ℕ × V)
  set_at k v m = set_value (is_at (nat_cmp k)) m v

  -- the map without a key
  abbrev pub without : ℕ → List (ℕ × V) → List (ℕ × V)
  without k m = remove_entry (is_at (nat_cmp k)) m

-- whether a set has a number
abbrev pub has : List ℕ → ℕ → Bool
has set n = is_member nat_eq set n

-- the set with one more number
abbrev pub with_member : ℕ → List ℕ → List ℕ
with_member n set = insert_key nat_cmp set n

-- the set without one
abbrev pub without_member : ℕ → List ℕ → List ℕ
without_member n set = filter (λ k. not (k == n)) set
