-- What the calls on locks make of the map from blocks to owners.
use Rattle.std.specs.Prelude.{Bool, List, None, Option, Some, drop, if◌then◌else◌, is_some, not, option_map, option_to_list, take, ℕ, ◌++◌, ◌+◌, ◌-◌, ◌==◌, ◌≡◌}
use Rattle.xt_base.specs.Calls.{is_held}
use Rattle.xt_base.specs.Legs.{owned_by}
use Rattle.xt_base.specs.Maps.{at, is_in, put}
use Rattle.xt_base.specs.declared.steps.Owner.{Owner}
use Rattle.xt_base.specs.declared.steps.Owner.TheVariants.{Trans}

-- blocks with their owners, by rising block
abbrev pub Owners : Type 0
Owners = List (ℕ × Owner)

-- a first lock, where nobody owns the block
abbrev pub first_locked : ℕ → ℕ → Owners → Owners
first_locked t b m = if is_in b m then m else put b (Trans t 0) m

-- one lock more of a block with so many, where its count has not come to its end
abbrev pub counted_up : ℕ → ℕ → Option ℕ → Owners → Owners
counted_up t b None m = m
counted_up t b (Some count) m = if count == 4294967295 then m else put b (Trans t (count + 1)) m

-- one lock less, where there is more than the first
abbrev pub counted_down : ℕ → ℕ → Option ℕ → Owners → Owners
counted_down t b None m = m
counted_down t b (Some count) m = if count == 0 then m else put b (Trans t (count - 1)) m

-- a held block taken over
abbrev pub joined : ℕ → ℕ → Owners → Owners
joined t b m = if is_held (at b m) then put b (Trans t 0) m else m

-- who has a block after its transaction's leg: it is passed on, and others stay
abbrev pub passed : ℕ → (ℕ → Option Owner) → ℕ × Owner → Option (ℕ × Owner)
passed t next e = if not (owned_by t e.1) then Some e else option_map (λ o. (e.0, o)) (next e.0)

-- the entry at a place has become this one, or has gone
pub record IsPassedAt (index : ℕ) (next : Option (ℕ × Owner)) (kept : Bool) (new old : Owners) : Type 0 where
  pub stays : kept ≡ is_some next
  pub list : new ≡ take index old ++ (option_to_list next ++ drop (index + 1) old)
