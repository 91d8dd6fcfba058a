-- Charges, costs, the log space in use, and which blocks are busy.
use Rattle.std.specs.List.{list_any}
use Rattle.std.specs.Prelude.{◌∷◌, Bool, List, None, Option, Some, [], count_by, filter, if◌then◌else◌, length, nat_le, not, sum_by, ℕ, ◌*◌, ◌+◌, ◌==◌, ◌||◌}
use Rattle.xt_base.specs.Maps.{is_in}
use Rattle.xt_base.specs.State.{Change, Flight, Items, State, Transaction}
use Rattle.xt_base.specs.declared.sizes.TheConstants.{CHUNK_COST, ITEM_COST}
use Rattle.xt_base.specs.declared.steps.Owner.{Owner}

-- the greatest number of a counter
abbrev pub greatest : ℕ
greatest = 18446744073709551615

-- what one item costs, with its chunks
abbrev pub item_cost : ℕ × List ℕ → ℕ
item_cost e = ITEM_COST + CHUNK_COST * length e.1

-- the cost of a list of items, which is the length of its checkpoint text, with the bytes that a text has beside its items
abbrev pub cost : ℕ → List (ℕ × List ℕ) → ℕ
cost ends es = if length es == 0 then 0 else ends + sum_by item_cost es

-- what a leg is charged for one block
abbrev pub change_cost : ℕ × Change → ℕ
change_cost e = ITEM_COST + CHUNK_COST * length e.1.charged

-- a leg's charge
abbrev pub charge : ℕ → List (ℕ × Change) → ℕ
charge ends es = if length es == 0 then 0 else ends + sum_by change_cost es

-- what is in flight
abbrev pub flight_items : Option Flight → List (ℕ × List ℕ)
flight_items None = []
flight_items (Some f) = f.items

-- whether a checkpoint is no older than some block on the active list; none is where that is empty
abbrev pub is_needed : List (ℕ × ℕ) → ℕ → Bool
is_needed ail number = list_any (λ e. nat_le e.1 number) ail

-- a number, or one that is less
abbrev pub lesser : ℕ → Option ℕ → ℕ
lesser n None = n
lesser n (Some m) = if nat_le n m then n else m

-- the least number of an active list
abbrev pub least_number : List (ℕ × ℕ) → Option ℕ
least_number [] = None
least_number (e ∷ es) = Some (lesser e.1 (least_number es))

-- landed checkpoints that still count
abbrev pub still_needed : List (ℕ × ℕ) → List (ℕ × ℕ) → List (ℕ × ℕ)
still_needed ail landed = filter (λ e. is_needed ail e.0) landed

-- what open transactions were granted
abbrev pub granted : List (ℕ × Transaction) → ℕ
granted ts = sum_by (λ e. e.1.unit * e.1.legs) ts

-- the log space in use
abbrev pub used : State → ℕ
used s = granted s.transactions + cost s.form.ends s.items.cil + cost s.form.ends (flight_items s.items.flight) + sum_by (λ e. e.1) s.items.landed

-- whether a block is on a list
abbrev pub is_listed : Items → ℕ → Bool
is_listed l b = is_in b l.cil || is_in b (flight_items l.flight) || is_in b l.ail

-- locked, held, or on a list
abbrev pub is_busy : State → ℕ → Bool
is_busy s b = is_in b s.owners || is_listed s.items b

-- the blocks on the lists that nobody owns, each counted on the first list that has it
abbrev pub count_beside : List (ℕ × Owner) → Items → ℕ
count_beside owners l =
    count_by (λ e. not (is_in e.0 owners)) l.cil
    + count_by (λ e. not (is_in e.0 owners || is_in e.0 l.cil)) (flight_items l.flight)
    + count_by (λ e. not (is_in e.0 owners || is_in e.0 l.cil || is_in e.0 (flight_items l.flight))) l.ail

-- how many blocks are busy
abbrev pub busy_count : State → ℕ
busy_count s = length s.owners + count_beside s.owners s.items
