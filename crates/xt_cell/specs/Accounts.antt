-- A closed book, and the receipts that it is compared with.
use Rattle.std.specs.Prelude.{IsSomeAnd, List, slice_get, ℕ, ◌-◌, ◌≡◌, ◌≤◌}
use Rattle.xt_cell.specs.Books.{BaseView, IsTrueBook}
use Rattle.xt_cell.specs.declared.records.Entry.{Entry}
use Rattle.xt_cell.specs.declared.records.Receipt.{Receipt}
use Rattle.xt_mount.specs.Slots.{SlotState}

-- a closed book: where it begins, its entries in order, and how many events it counts
pub record AccountView : Type 0 where
  pub base : BaseView
  pub entries : List Entry
  pub count : ℕ

-- its entries lead from its base to some state of the slot, with those replies, and it counts those that are no posts, folded ones too
abbrev pub IsTrueAccount : AccountView → Type 0
IsTrueAccount a = (state : SlotState) × IsTrueBook a.base.state.slot a.base a.entries state a.count

-- an entry is that of a receipt which a caller kept
abbrev pub IsEntryOf : ℕ → Receipt → Entry → Type 0
IsEntryOf caller r e = (e.caller ≡ caller) × (r.step ≡ e.step) × (r.reply ≡ e.reply)

-- a receipt that is not older than the base has its entry at its number
abbrev pub HasEntry : AccountView → ℕ → Receipt → Type 0
HasEntry a caller r = a.base.folded ≤ r.number → IsSomeAnd (slice_get a.entries (r.number - a.base.folded)) (λ e. IsEntryOf caller r e)
