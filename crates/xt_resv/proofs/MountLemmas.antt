-- The ledger of a mount beside the mount's definitions: the numbers of each step, and the conditions of each call.
use Rattle.std.proofs.Common.{◌≡◌, ◌∙◌, ◌+◌, ◌-◌, ◌*◌, ◌≤◌, ℕ, List, [], ◌∷◌, Option, Some, None, Bool, false, sym, ap, refl, arith}
use Rattle.std.specs.Prelude.{◌&&◌, ◌==◌, if◌then◌else◌, nat_lt, sum_by}
use Rattle.std.proofs.lemmas.List.Sums.{sum_by-cons}
use Rattle.std.proofs.lemmas.Bool.Decides.{nat_tests}
use Rattle.xt_base.proofs.CostLemmas.{charge-cons}
use Rattle.xt_base.proofs.DeviceLemmas.{kept_since}
use Rattle.xt_base.proofs.SoundParts.{cost_added, granted_less}
use Rattle.xt_base.specs.Calls.{closed, is_no_room as finds_no_room}
use Rattle.xt_base.specs.Legs.{ended, with_marks}
use Rattle.xt_base.specs.Maps.{at, without}
use Rattle.xt_base.specs.Sound.{IsSound}
use Rattle.xt_base.specs.Space.{change_cost, charge, cost, flight_items, granted, least_number, still_needed, used as used_of}
use Rattle.xt_base.specs.State.{Change, Flight, State, Transaction}
use Rattle.xt_resv.specs.Ledgers.{flight_cost, is_no_room, still_counted, ungranted, used, whole_charge}
use Rattle.xt_resv.specs.Mounts.{flight_of, grant_of, ledger_of}

-- ---- the space in use
-- the flight's cost
pub flight_is : (ends : ℕ) (o : Option Flight) → flight_cost (flight_of ends o) ≡ cost ends (flight_items o)
flight_is ends None = refl
flight_is ends (Some f) = refl

-- the ledger has the space in use
pub used_is : (s : State) → used (ledger_of s) ≡ used_of s
used_is s = ap (λ n. granted s.transactions + cost s.form.ends s.items.cil + n + sum_by (λ e. e.1) s.items.landed) (flight_is s.form.ends s.items.flight)

-- ---- a leg
-- a number from 1 on is not 0
not_zero : (n : ℕ) → 1 ≤ n → (n == 0) ≡ false
not_zero n h = grind (arith, nat_tests)

-- a leg's charge by what its blocks and chunks are charged
pub charge_is : (ends : ℕ) (es : List (ℕ × Change)) → charge ends es ≡ whole_charge ends (sum_by change_cost es)
charge_is ends [] = refl
charge_is ends (e ∷ es) =
    let some : (sum_by change_cost (e ∷ es) == 0) ≡ false = not_zero (sum_by change_cost (e ∷ es)) (omega (arith, sum_by-cons change_cost e es)) in
    charge-cons ends e es ∙ sym (ap {B = ℕ} (λ (b : Bool). if b then 0 else ends + sum_by change_cost (e ∷ es)) some)

-- with no ends it is that alone
pub bare_charge : (es : List (ℕ × Change)) → charge 0 es ≡ sum_by change_cost es
bare_charge [] = refl
bare_charge (e ∷ es) = omega (arith, charge-cons 0 e es)

module _ (s : State) (h : IsSound s) (t : ℕ) (trans : Transaction) (is : at t s.transactions ≡ Some trans) where
  -- what the commit list costs after the leg's commit
  abbrev pub cost_after : ℕ
  cost_after = cost s.form.ends (with_marks trans.leg.changes s.items.cil)

  -- the grant without the transaction
  less : granted (without t s.transactions) + trans.unit * trans.legs ≡ granted s.transactions
  less = granted_less s.form.ends s.log_bytes s.owners s.transactions s.items h.parts t trans is

  -- the ledger has what the ticket gives back
  pub is_covered : trans.unit * trans.legs ≤ granted s.transactions
  is_covered = omega (arith, less)

  -- the commit list costs no more than the leg was charged above what it did
  pub is_paid : cost_after ≤ cost s.form.ends s.items.cil + charge s.form.ends trans.leg.changes
  is_paid = cost_added s.form.ends s.log_bytes s.owners s.transactions s.items h.parts t trans is

  -- the grant without the transaction, as the ledger says it
  granted_closed : granted (without t s.transactions) ≡ granted s.transactions - trans.unit * trans.legs
  granted_closed = omega (arith, less)

  -- the leg is committed and its transaction closed
  pub ledger_ended : ledger_of (closed t (ended t trans.leg s)) ≡ ungranted (grant_of trans) cost_after (ledger_of s)
  ledger_ended = ap (λ n. record (ledger_of s) { granted = n; cil = cost_after }) granted_closed

  -- the last leg finds no space for a new unit
  pub no_room_is : finds_no_room t trans s ≡ is_no_room (grant_of trans) cost_after (ledger_of s)
  no_room_is =
      ap (λ n. (trans.legs == 1) && nat_lt s.log_bytes (n + trans.unit)) (sym (used_is (closed t (ended t trans.leg s))) ∙ ap used ledger_ended)

-- ---- landed checkpoints
-- the landed checkpoints that still count
pub still_is : (ail landed : List (ℕ × ℕ)) → still_needed ail landed ≡ still_counted (least_number ail) landed
still_is ail landed = kept_since ail landed

-- ---- checkpoints
