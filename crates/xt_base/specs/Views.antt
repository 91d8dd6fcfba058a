-- What is seen of a map through a function of its values, and the keys whose value passes a test.
use Rattle.std.specs.Prelude.{Bool, List, None, Option, Some, cond, false, filter_map, option_map, ℕ}

module _ {V W : Type 0} (g : V → Option W) where
  -- an entry, if its value is seen
  abbrev pub view_entry : ℕ × V → Option (ℕ × W)
  view_entry e = option_map (λ (w : W). (e.0, w)) (g e.1)

  -- the entries whose value is seen
  abbrev pub view : List (ℕ × V) → List (ℕ × W)
  view es = filter_map view_entry es

  -- what is seen of a value, if there is one
  abbrev pub viewed : Option V → Option W
  viewed None = None
  viewed (Some v) = g v

module _ {V : Type 0} (p : V → Bool) where
  -- the keys whose value passes
  abbrev pub keys_where : List (ℕ × V) → List ℕ
  keys_where es = filter_map (λ e. cond (p e.1) (Some e.0) None) es

  -- whether there is a value, and it passes
  abbrev pub key_if : Option V → Bool
  key_if None = false
  key_if (Some v) = p v
