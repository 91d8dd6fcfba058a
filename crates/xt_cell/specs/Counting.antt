-- The sixteen numbers of events that a seat keeps, one a slot.
use Rattle.std.specs.Prelude.{List, slice_index, slice_set, ℕ, ◌+◌}

-- the numbers, where one more event of a slot was counted
abbrev pub counted : ℕ → List ℕ → List ℕ
counted slot counts = slice_set counts slot (slice_index counts slot + 1)
