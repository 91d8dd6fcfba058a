-- Who has a block where a leg has ended.
use Rattle.std.specs.Prelude.{None, Option, Some, if◌then◌else◌, ℕ}
use Rattle.xt_base.specs.Legs.{is_stale}
use Rattle.xt_base.specs.Maps.{has}
use Rattle.xt_base.specs.State.{Leg}
use Rattle.xt_base.specs.declared.steps.Owner.{Owner}
use Rattle.xt_base.specs.declared.steps.Owner.TheVariants.{Held, Stale}

-- who has a block of a leg that was committed
abbrev pub owner_left : Leg → ℕ → ℕ → Option Owner
owner_left leg number b = if is_stale b leg then Some (Stale number) else (if has leg.holds b then Some Held else None)

-- who has a block of a leg that was given up
abbrev pub owner_kept : Leg → ℕ → Option Owner
owner_kept leg b = if has leg.holds b then Some Held else None
