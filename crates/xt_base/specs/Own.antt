-- What holds of a slot's mount after any steps of the slot.
use Rattle.std.specs.Prelude.{IfSome, Option, ℕ, ◌≡◌}
use Rattle.xt_base.specs.State.{Lone, State}

-- the mount is of this slot, and of its last life
abbrev pub IsOwnIn : ℕ → ℕ → Option State → Type 0
IsOwnIn slot last o = IfSome o (λ m. (m.slot ≡ slot) × (m.life ≡ last))

-- the same of a slot's state
abbrev pub IsOwnOf : ℕ → Lone → Type 0
IsOwnOf slot s = IsOwnIn slot s.last_life s.mounted
