-- The marks of a block in a transaction, each set or not.
use Rattle.std.specs.Int.{bit_at}
use Rattle.std.specs.Prelude.{Bool, false, not, ℕ, ◌&&◌, ◌==◌, ◌||◌}
use Rattle.xt_base.specs.declared.marks.ItemMarks.{ItemMarks}

-- which marks are set
pub record Marks : Type 0 where
  pub hold : Bool
  pub stale : Bool
  pub dirty : Bool
  pub fresh : Bool

-- which marks a number has set: its bits 0 to 3
abbrev pub marks_in : ℕ → Marks
marks_in n = record { hold = bit_at n 0 == 1; stale = bit_at n 1 == 1; dirty = bit_at n 2 == 1; fresh = bit_at n 3 == 1 }

-- which of a block's marks are set
abbrev pub marks_of : ItemMarks → Marks
marks_of m = marks_in m.0

-- no mark
abbrev pub no_marks : Marks
no_marks = record { hold = false; stale = false; dirty = false; fresh = false }

-- some marks, and more
abbrev pub and_marks : Marks → Marks → Marks
and_marks more m = record { hold = more.hold || m.hold; stale = more.stale || m.stale; dirty = more.dirty || m.dirty; fresh = more.fresh || m.fresh }

-- some marks without others
abbrev pub but_marks : Marks → Marks → Marks
but_marks less m = record { hold = not less.hold && m.hold; stale = not less.stale && m.stale; dirty = not less.dirty && m.dirty; fresh = not less.fresh && m.fresh }
