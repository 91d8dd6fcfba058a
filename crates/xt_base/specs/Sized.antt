-- What holds of the contents of a mount whose device answers contents of its size: they have that size, and no mark lies behind them.
use Rattle.std.specs.Prelude.{List, None, Option, Some, length, ℕ, ◌*◌, ◌+◌, ◌≡◌, ◌≤◌}
use Rattle.xt_base.specs.Sound.{Each}
use Rattle.xt_base.specs.State.{Change, State, Transaction}
use Rattle.xt_base.specs.declared.sizes.TheConstants.{CHUNK_BYTES}

-- a block of a size has each of these chunks
abbrev pub IsWithin : ℕ → List ℕ → Type 0
IsWithin size set = Each (λ k. CHUNK_BYTES * k + CHUNK_BYTES ≤ size) set

-- an edit, where a block was not invalidated, has a size
abbrev pub HasSize : ℕ → Option (List ℕ) → Type 0
HasSize size None = Unit {0}
HasSize size (Some content) = length content ≡ size

-- each content has a size
abbrev pub HaveSize : ℕ → List (ℕ × List ℕ) → Type 0
HaveSize size contents = Each (λ e. length e.1 ≡ size) contents

-- what a leg did to a block of a size
pub record IsSizedChange (size : ℕ) (c : Change) : Type 0 where
  pub edit : HasSize size c.edit
  pub marks : IsWithin size c.marks

-- what it did to each block that it changed
abbrev pub AreSizedChanges : ℕ → List (ℕ × Change) → Type 0
AreSizedChanges size changes = Each (λ c. IsSizedChange size c.1) changes

-- committed and idle contents, the changes of open transactions and the items of the commit list are those of blocks of a size
pub record AreSized (size : ℕ) (contents kept : List (ℕ × List ℕ)) (opened : List (ℕ × Transaction)) (items : List (ℕ × List ℕ)) : Type 0 where
  pub committed : HaveSize size contents
  pub idle : HaveSize size kept
  pub changes : Each (λ e. AreSizedChanges size e.1.leg.changes) opened
  pub within : Each (λ e. IsWithin size e.1) items

-- a mount's are those of blocks of its size
abbrev pub IsSized : State → Type 0
IsSized s = AreSized s.form.size s.frames.committed s.frames.idle s.transactions s.items.cil
