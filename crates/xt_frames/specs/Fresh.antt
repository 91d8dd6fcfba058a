-- Fresh blocks, by their marks.
use Rattle.std.specs.Prelude.{Bool, List, true, ℕ, ◌≡◌}
use Rattle.xt_base.specs.Marks.{marks_of}
use Rattle.xt_base.specs.Sound.{Each, IsRising}
use Rattle.xt_base.specs.Views.{keys_where}
use Rattle.xt_base.specs.declared.marks.ItemMarks.{ItemMarks}

-- whether marks have the fresh one
abbrev pub is_fresh_mark : ItemMarks → Bool
is_fresh_mark m = (marks_of m).fresh

-- the blocks whose marks have it
abbrev pub fresh_of : List (ℕ × ItemMarks) → List ℕ
fresh_of es = keys_where is_fresh_mark es

-- the blocks rise, and each is fresh
pub record AreFresh (es : List (ℕ × ItemMarks)) : Type 0 where
  pub rising : IsRising es
  pub each : Each (λ e. is_fresh_mark e.1 ≡ true) es
