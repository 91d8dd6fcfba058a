-- The ledger of a mount: the numbers of its state that `LogSpace` keeps.
use Rattle.std.specs.Prelude.{List, None, Option, Some, sum_by, ℕ}
use Rattle.xt_base.specs.Space.{change_cost, cost, granted}
use Rattle.xt_base.specs.State.{Flight, Items, State, Transaction}
use Rattle.xt_resv.specs.Ledgers.{Grant, Ledger}

-- what a flight costs, if there is one
abbrev pub flight_of : ℕ → Option Flight → Option ℕ
flight_of ends None = None
flight_of ends (Some f) = Some (cost ends f.items)

-- the ledger of a log of so many bytes, with such open transactions and item lists, whose texts have such ends
abbrev pub ledger : ℕ → ℕ → List (ℕ × Transaction) → Items → Ledger
ledger ends log_bytes ts l = record { size = log_bytes; granted = granted ts; cil = cost ends l.cil; flight = flight_of ends l.flight; landed = l.landed }

-- the ledger of a mount
abbrev pub ledger_of : State → Ledger
ledger_of s = ledger s.form.ends s.log_bytes s.transactions s.items

-- the grant of a transaction
abbrev pub grant_of : Transaction → Grant
grant_of trans = record { unit = trans.unit; legs = trans.legs; perm = trans.perm; charged = sum_by change_cost trans.leg.changes }
