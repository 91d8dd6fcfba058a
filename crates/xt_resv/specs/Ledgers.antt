-- The ledger of a mount's log space, and what a transaction was granted.
use Rattle.std.specs.Prelude.{Bool, Err, List, None, Ok, Option, Result, Some, [], false, if◌then◌else◌, nat_le, nat_lt, not, sum_by, ℕ, ◌&&◌, ◌*◌, ◌+◌, ◌-◌, ◌==◌, ◌||◌, ◌∷◌, ◌≡◌, ◌≤◌}
use Rattle.xt_base.specs.Calls.{legs_after}
use Rattle.xt_base.specs.Laws.{is_since, landed_since}
use Rattle.xt_base.specs.Sound.{IsRising}
use Rattle.xt_base.specs.declared.newly.Newly.{Newly}
use Rattle.xt_base.specs.declared.sizes.TheConstants.{CHUNK_COST, GRANTED_LEGS, ITEM_COST, MOST_LOG}
use Rattle.xt_base.specs.declared.steps.Errno.{Errno}
use Rattle.xt_base.specs.declared.steps.Errno.TheVariants.{Again, Invalid}

-- ---- the parts
-- the log size, what tickets that are out were granted, what the commit list costs, what the flight costs where there is one, and what each landed checkpoint costs that still counts, by its number
pub record Ledger : Type 0 where
  pub size : ℕ
  pub granted : ℕ
  pub cil : ℕ
  pub flight : Option ℕ
  pub landed : List (ℕ × ℕ)

-- what a transaction was granted: log bytes of a leg, legs left with the present one, whether it may roll, and what the present leg was charged for its blocks and chunks
pub record Grant : Type 0 where
  pub unit : ℕ
  pub legs : ℕ
  pub perm : Bool
  pub charged : ℕ

-- an empty ledger
abbrev pub new_ledger : ℕ → Ledger
new_ledger size = record { size = size; granted = 0; cil = 0; flight = None; landed = [] }

-- what the flight costs; nothing where there is none
abbrev pub flight_cost : Option ℕ → ℕ
flight_cost None = 0
flight_cost (Some cost) = cost

-- the log space in use
abbrev pub used : Ledger → ℕ
used s = s.granted + s.cil + flight_cost s.flight + sum_by (λ e. e.1) s.landed

-- what holds of the fields of a ledger, whose total is that of the landed checkpoints
pub record IsInOrder (s : Ledger) (total : ℕ) : Type 0 where
  pub space : s.granted + s.cil + flight_cost s.flight + total ≤ s.size
  pub small : s.size ≤ MOST_LOG
  pub rising : IsRising s.landed
  pub summed : total ≡ sum_by (λ e. e.1) s.landed

-- ---- granted
-- whether no ledger of this size ever grants this
abbrev pub is_invalid : ℕ → ℕ → Bool → ℕ → Bool
is_invalid unit count perm size = (unit == 0) || (count == 0) || nat_lt GRANTED_LEGS count || (nat_lt 1 count && not perm) || nat_lt size (unit * count)

-- what refuses a grant
abbrev pub grant_refusal : ℕ → ℕ → Bool → Ledger → Option Errno
grant_refusal unit count perm s = if is_invalid unit count perm s.size then Some Invalid else (if nat_lt s.size (used s + unit * count) then Some Again else None)

-- a grant of which nothing was charged
abbrev pub new_grant : ℕ → ℕ → Bool → Grant
new_grant unit count perm = record { unit = unit; legs = count; perm = perm; charged = 0 }

-- refused, or else this grant
abbrev pub grant_unless : Option Errno → Grant → Result Grant Errno
grant_unless None t = Ok t
grant_unless (Some e) t = Err e

-- ---- charged
-- what a leg is charged for its blocks and chunks, with what is charged anew
abbrev pub charged_with : Newly → ℕ → ℕ
charged_with newly charged = charged + ITEM_COST * newly.blocks + CHUNK_COST * newly.chunks

-- a leg's whole charge: with the first change of a leg come the ends of a text
abbrev pub whole_charge : ℕ → ℕ → ℕ
whole_charge ends charged = if charged == 0 then 0 else ends + charged

-- whether a leg may be charged so
abbrev pub is_fitting : ℕ → Newly → Grant → Bool
is_fitting ends newly t = nat_le (whole_charge ends (charged_with newly t.charged)) t.unit

-- ---- given back
-- the ledger where the commit list costs this, and a grant is gone with all its legs
abbrev pub ungranted : Grant → ℕ → Ledger → Ledger
ungranted t cil s = record s { granted = s.granted - t.unit * t.legs; cil = cil }

-- whether the last leg finds no room for one new unit, where its commit makes the commit list cost this
abbrev pub is_no_room : Grant → ℕ → Ledger → Bool
is_no_room t cil s = (t.legs == 1) && nat_lt s.size (used (ungranted t cil s) + t.unit)

-- the grant of the next leg: one leg less, or one new unit, of which nothing was charged
abbrev pub next_grant : Grant → Grant
next_grant t = record t { legs = legs_after t.legs; charged = 0 }

-- the ledger where the grant of the next leg stands in place of this one
abbrev pub regranted : Grant → ℕ → Ledger → Ledger
regranted t cil s = record (ungranted t cil s) { granted = (ungranted t cil s).granted + t.unit * legs_after t.legs }

-- ---- landed
-- whether a landed checkpoint still counts, where this is the least number of the active list; none does where that is empty
abbrev pub is_counted : Option ℕ → ℕ → Bool
is_counted least number = is_since least number

-- the landed checkpoints that still count
abbrev pub still_counted : Option ℕ → List (ℕ × ℕ) → List (ℕ × ℕ)
still_counted least landed = landed_since least landed

-- whether there is a first landed checkpoint, and it counts no more
abbrev pub is_front_uncounted : Option ℕ → List (ℕ × ℕ) → Bool
is_front_uncounted least [] = false
is_front_uncounted least (e ∷ es) = not (is_counted least e.0)
