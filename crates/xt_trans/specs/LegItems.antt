-- The entries that keep a leg: what stands of a block, and the leg that they make.
use Rattle.std.specs.Prelude.{Bool, List, None, Option, Some, [], false, if◌then◌else◌, is_none, length, unwrap_or, ℕ, ◌&&◌, ◌*◌, ◌+◌, ◌||◌, ◌≡◌, true}
use Rattle.xt_base.specs.Legs.{joined_marks}
use Rattle.xt_base.specs.Maps.{at}
use Rattle.xt_base.specs.Marks.{Marks, marks_of}
use Rattle.xt_base.specs.Sound.{Each, IsRising}
use Rattle.xt_base.specs.State.{Change, Leg}
use Rattle.xt_base.specs.Views.{keys_where, view}
use Rattle.xt_base.specs.declared.sizes.TheConstants.{CHUNK_COST, ITEM_COST}
use Rattle.xt_trans.specs.declared.item.BufItem.{BufItem}

-- whether an entry's block has the hold mark
abbrev pub is_item_held : BufItem → Bool
is_item_held i = (marks_of i.marks).hold

-- whether an entry's block was changed or invalidated
abbrev pub is_item_dirty : BufItem → Bool
is_item_dirty i = (marks_of i.marks).dirty

-- the change that an entry has
abbrev pub change_in : BufItem → Change
change_in i = record { edit = i.edit; marks = i.chunks; charged = i.charged }

-- a change, if the marks say that it is one
abbrev pub change_seen : Marks → Change → Option Change
change_seen m c = if m.dirty then Some c else None

-- the change of a block, if its entry is dirty
abbrev pub change_if : BufItem → Option Change
change_if i = change_seen (marks_of i.marks) (change_in i)

-- the leg of some entries: the changes of the dirty ones, and the blocks of the held ones
abbrev pub leg_of : List (ℕ × BufItem) → Leg
leg_of es = record { changes = view change_if es; holds = keys_where is_item_held es }

-- no change
abbrev pub no_change : Change
no_change = record { edit = None; marks = []; charged = [] }

-- marks and a change that fit: stale exactly where it is dirty without an edit, and no change where it is clean
pub record IsFit (m : Marks) (c : Change) : Type 0 where
  pub stale : m.stale ≡ (m.dirty && is_none c.edit)
  pub clean : m.dirty ≡ false → c ≡ no_change

-- what holds of an entry
abbrev pub IsItem : BufItem → Type 0
IsItem i = IsFit (marks_of i.marks) (change_in i)

-- an entry that is dirty or held
abbrev pub IsKept : BufItem → Type 0
IsKept i = (is_item_dirty i || is_item_held i) ≡ true

-- what holds of the entries
pub record AreItems (es : List (ℕ × BufItem)) : Type 0 where
  pub rising : IsRising es
  pub fit : Each (λ e. IsItem e.1) es
  pub kept : Each (λ e. IsKept e.1) es

-- an entry that is neither dirty nor held
abbrev pub blank : BufItem
blank = record { marks = record { 0 = 0 }; edit = None; chunks = []; charged = [] }

-- the entry of a block, or a blank one
abbrev pub item_at : ℕ → List (ℕ × BufItem) → BufItem
item_at b es = unwrap_or (at b es) blank

-- ---- a commit list
-- what an item of a commit list costs, if it stands there
abbrev pub standing_cost : Option (List ℕ) → ℕ
standing_cost None = 0
standing_cost (Some chunks) = ITEM_COST + CHUNK_COST * length chunks

-- what the item of an entry's block costs with the entry's marks, if the entry changes it
abbrev pub item_gain : BufItem → Option (List ℕ) → ℕ
item_gain i old = if is_item_dirty i then ITEM_COST + CHUNK_COST * length (joined_marks old (change_in i)) else 0

-- what it costs without them
abbrev pub item_loss : BufItem → Option (List ℕ) → ℕ
item_loss i old = if is_item_dirty i then standing_cost old else 0

-- the same, by the commit list
abbrev pub gain_in : List (ℕ × List ℕ) → ℕ × BufItem → ℕ
gain_in list e = item_gain e.1 (at e.0 list)

abbrev pub loss_in : List (ℕ × List ℕ) → ℕ × BufItem → ℕ
loss_in list e = item_loss e.1 (at e.0 list)
