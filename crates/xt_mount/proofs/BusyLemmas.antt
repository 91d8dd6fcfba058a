-- How many blocks the lists have beside those that somebody owns, at most.
use Rattle.std.proofs.Common.{◌≤◌, ◌+◌, List, arith, length, ℕ}
use Rattle.std.proofs.lemmas.List.Sums.{count_by-le-length}
use Rattle.std.specs.Prelude.{not, ◌||◌}
use Rattle.xt_base.specs.Maps.{is_in}
use Rattle.xt_base.specs.Space.{count_beside, flight_items}
use Rattle.xt_base.specs.State.{Items}
use Rattle.xt_base.specs.declared.steps.Owner.{Owner}

-- no more than the lists have places
pub beside_le : (owners : List (ℕ × Owner)) (l : Items) → count_beside owners l ≤ length l.cil + length (flight_items l.flight) + length l.ail
beside_le owners l = omega (
  arith,
  count_by-le-length (λ e. not (is_in e.0 owners)) l.cil,
  count_by-le-length (λ e. not (is_in e.0 owners || is_in e.0 l.cil)) (flight_items l.flight),
  count_by-le-length (λ e. not (is_in e.0 owners || is_in e.0 l.cil || is_in e.0 (flight_items l.flight))) l.ail,
)
