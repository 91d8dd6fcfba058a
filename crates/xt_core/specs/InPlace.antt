-- Sixteen slots, each at the place of its number.
use Rattle.std.specs.Prelude.{List, length, slice_index_or, ℕ, ◌≡◌}
use Rattle.xt_base.specs.State.{Lone, empty}
use Rattle.xt_base.specs.declared.sizes.TheConstants.{SLOTS}
use Rattle.xt_core.specs.Cells.{Cell}

-- a slot that was never mounted
abbrev pub unused : ℕ → Cell
unused m = record { slot = m; lone = empty }

-- the slot at a place; one that was never mounted where there is none
abbrev pub cell_at : ℕ → List Cell → Cell
cell_at m cells = slice_index_or cells m (unused m)

-- the states of the slots, by number
abbrev pub states_of : List Cell → ℕ → Lone
states_of cells m = (cell_at m cells).lone

-- sixteen slots, each at the place of its number
pub record AreInPlace (cells : List Cell) : Type 0 where
  pub count : length cells ≡ SLOTS
  pub place : (m : ℕ) → (cell_at m cells).slot ≡ m

-- the first so many slots, none of which was ever mounted
pub record AreUnused (n : ℕ) (cells : List Cell) : Type 0 where
  pub count : length cells ≡ n
  pub each : (m : ℕ) → cell_at m cells ≡ unused m
