-- What a leg has of a block that it changed: bytes of its own, or none where they stand in the block's frame.
use Rattle.std.specs.Prelude.{Bool, List, None, Option, Some, [], false, is_none, is_some, ℕ, ◌∷◌}

-- the bytes of its own, if there are some: a content is never without bytes
abbrev pub own_bytes : List ℕ → Option (List ℕ)
own_bytes [] = None
own_bytes (x ∷ xs) = Some (x ∷ xs)

-- whether there are some
abbrev pub has_own : List ℕ → Bool
has_own bytes = is_some (own_bytes bytes)

-- the bytes of its own that a leg has of a block that it changed, invalidated or left alone
abbrev pub own_edit : Option (List ℕ) → Option (List ℕ)
own_edit None = None
own_edit (Some bytes) = own_bytes bytes

-- whether such a block is changed in place
abbrev pub is_in_place : Option (List ℕ) → Bool
is_in_place None = false
is_in_place (Some bytes) = is_none (own_bytes bytes)
