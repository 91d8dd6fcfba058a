-- What is kept, whoever owns it.
use Rattle.std.specs.Arc.{arc_value}
use Rattle.xt_cell.specs.declared.kept.Owner.{Owner}
use Rattle.xt_cell.specs.declared.kept.Owner.TheVariants.{Own, Shared}

module _ {T : Type 0} where
  -- the value that is kept
  abbrev pub value_of : Owner T → T
  value_of (Own value) = value
  value_of (Shared shared) = arc_value shared
