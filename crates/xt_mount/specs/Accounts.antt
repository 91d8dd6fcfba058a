-- Accounts: the size of the log, the form of the mount, the open transactions, the item lists and the contents, and why the mount is shut, if it is.
use Rattle.std.specs.Prelude.{ℕ, List, [], None, Option, Some, false, sum_by, true, ◌+◌, ◌≡◌, ◌⊎◌}
use Rattle.xt_base.specs.Form.{Form}
use Rattle.xt_base.specs.Jobs.{cleaned, landed_items}
use Rattle.xt_base.specs.Legs.{clean_leg, with_edits, with_marks}
use Rattle.xt_base.specs.Maps.{is_in, put, set_at, without}
use Rattle.xt_base.specs.Sound.{Each}
use Rattle.xt_base.specs.Space.{cost, flight_items, granted}
use Rattle.xt_base.specs.State.{Change, Flight, Frames, Items, Leg, Transaction}
use Rattle.xt_base.specs.declared.steps.Reason.{Reason}
use Rattle.xt_frames.specs.Contents.{no_frames}
use Rattle.xt_items.specs.Lists.{Lists}
use Rattle.xt_journal.specs.Keeping.{leg_lost}
use Rattle.xt_resv.specs.Ledgers.{Grant}

-- the log bytes, the form, the open transactions by number, the lists, the contents, and why the mount is shut
pub record AccountsState : Type 0 where
  pub log_bytes : ℕ
  pub form : Form
  pub transactions : List (ℕ × Transaction)
  pub items : Items
  pub frames : Frames
  pub shut : Option Reason

-- accounts of which nothing is in use
abbrev pub no_accounts : ℕ → Form → AccountsState
no_accounts log_bytes form = record { log_bytes = log_bytes; form = form; transactions = []; items = record { open_number = 1; cil = []; flight = None; ail = []; landed = [] }; frames = no_frames; shut = None }

-- the log bytes in use
abbrev pub used_in : AccountsState → ℕ
used_in j = granted j.transactions + cost j.form.ends j.items.cil + cost j.form.ends (flight_items j.items.flight) + sum_by (λ e. e.1) j.items.landed

-- a transaction with a grant and a leg
abbrev pub opened_with : Grant → Leg → Transaction
opened_with t leg = record { unit = t.unit; legs = t.legs; perm = t.perm; leg = leg }

-- one more open transaction
abbrev pub opened_in : ℕ → Transaction → AccountsState → AccountsState
opened_in t trans j = record j { transactions = put t trans j.transactions }

-- an open transaction with another leg
abbrev pub releg : ℕ → Transaction → Leg → AccountsState → AccountsState
releg t trans leg j = record j { transactions = set_at t (record trans { leg = leg }) j.transactions }

-- a transaction is closed
abbrev pub closed_in : ℕ → AccountsState → AccountsState
closed_in t j = record j { transactions = without t j.transactions }

-- the edits of its leg are committed, and its marks are joined to the commit list
abbrev pub kept_in : Transaction → AccountsState → AccountsState
kept_in trans j = record j {
  items = record j.items { cil = with_marks trans.leg.changes j.items.cil };
  frames = record j.frames { committed = with_edits trans.leg.changes j.frames.committed };
}

-- its leg is given up
abbrev pub lost_in : Transaction → AccountsState → AccountsState
lost_in trans j = record j { frames = leg_lost trans.leg j.frames }

-- a clean leg with so many legs left
abbrev pub legs_in : ℕ → ℕ → Transaction → AccountsState → AccountsState
legs_in t legs trans j = record j { transactions = set_at t (record trans { legs = legs; leg = clean_leg }) j.transactions }

-- the commit list becomes the flight, with these pieces, and the next number opens
abbrev pub flown_in : List (List ℕ) → AccountsState → AccountsState
flown_in ps j = record j { items = record j.items { open_number = j.items.open_number + 1; cil = []; flight = Some (record { number = j.items.open_number; items = j.items.cil; pieces = ps }) } }

-- the flight has landed
abbrev pub landed_in : Flight → AccountsState → AccountsState
landed_in f j = record j { items = landed_items j.form.ends f j.items }

-- the lists without what landed checkpoints cost, and without log vectors
abbrev pub lists_in : AccountsState → Lists
lists_in j = record { open_number = j.items.open_number; cil = j.items.cil; vectors = []; flight = j.items.flight; ail = j.items.ail }

-- these blocks were written home
abbrev pub cleaned_in : List ℕ → AccountsState → AccountsState
cleaned_in blocks j = record j { items = cleaned blocks j.items }

-- ---- who changed a block
-- no open transaction has changed the block
abbrev pub IsUnchanged : ℕ → List (ℕ × Transaction) → Type 0
IsUnchanged b ts = Each (λ e. is_in b e.1.leg.changes ≡ false) ts

-- no open transaction but this one has changed the block
abbrev pub IsAlone : ℕ → ℕ → List (ℕ × Transaction) → Type 0
IsAlone t b ts = Each (λ e. (e.0 ≡ t) ⊎ (is_in b e.1.leg.changes ≡ false)) ts

-- no open transaction but this one has changed any of these blocks
abbrev pub AreAlone : ℕ → List (ℕ × Change) → List (ℕ × Transaction) → Type 0
AreAlone t cs ts = (b : ℕ) → is_in b cs ≡ true → IsAlone t b ts
