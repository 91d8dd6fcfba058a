-- What a leg did to its blocks, without their bytes.
use Rattle.std.specs.Prelude.{List, is_none, map, ℕ}
use Rattle.xt_base.specs.State.{Change}
use Rattle.xt_trans.specs.declared.trans.ChangeMarks.{ChangeMarks}

-- one change
abbrev pub marks_in : Change → ChangeMarks
marks_in c = record { is_stale = is_none c.edit; marks = c.marks; charged = c.charged }

-- those of some blocks
abbrev pub change_marks : List (ℕ × Change) → List (ℕ × ChangeMarks)
change_marks es = map (λ e. (e.0, marks_in e.1)) es
