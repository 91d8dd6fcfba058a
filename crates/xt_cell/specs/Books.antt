-- The book of a slot: its events, each with who called, the step and the reply.
use Rattle.std.specs.Prelude.{Bool, List, [], count_by, false, length, not, true, ℕ, ◌+◌, ◌^◌, ◌++◌, ◌≡◌, ◌≤◌, ◌∷◌, ◌⊎◌}
use Rattle.xt_base.specs.declared.steps.Reply.{Reply}
use Rattle.xt_base.specs.declared.steps.Step.{Step}
use Rattle.xt_base.specs.Carried.{may_leave_held}
use Rattle.xt_base.specs.declared.steps.Step.TheVariants.{Call, Post}
use Rattle.xt_cell.specs.declared.records.Entry.{Entry}
use Rattle.xt_mount.specs.Slots.{IsServed, SlotState, unused}

-- where a book begins: the state of the slot then, how many entries were folded into it, and how many of these were no posts
pub record BaseView : Type 0 where
  pub state : SlotState
  pub folded : ℕ
  pub events : ℕ

-- a book: where it begins, its entries in order, the state of the slot now, and for how many entries more there is room
pub record BookView : Type 0 where
  pub base : BaseView
  pub entries : List Entry
  pub state : SlotState
  pub room : ℕ

-- an entry
abbrev pub entry : ℕ → Step → Reply → Entry
entry caller step reply = record { caller = caller; step = step; reply = reply }

-- from one state the entries lead to another: each is a step that was served there, with the reply of the slot alone
abbrev pub Replays : SlotState → List Entry → SlotState → Type 0
Replays s [] t = s ≡ t
Replays s (e ∷ es) t = (between : SlotState) × IsServed e.step e.reply between s × Replays between es t

-- whether a step is a post
abbrev pub is_post : Step → Bool
is_post (Post name) = true
is_post other = false

-- how many entries are no posts
abbrev pub count_of : List Entry → ℕ
count_of entries = count_by (λ e. not (is_post e.step)) entries

-- how many entries of the slot are no posts, folded ones counted
abbrev pub events_of : BookView → ℕ
events_of book = book.base.events + count_of book.entries

-- the number of the next entry, folded ones counted
abbrev pub next_number : BookView → ℕ
next_number book = book.base.folded + length book.entries

-- the same book, but for its room
pub record IsSameBook (old new : BookView) : Type 0 where
  pub base : new.base ≡ old.base
  pub entries : new.entries ≡ old.entries
  pub state : new.state ≡ old.state

-- the place where a book begins: a state of the slot, how many entries were folded into it, and how many of these were no posts
abbrev pub base_of : SlotState → ℕ → ℕ → BaseView
base_of state folded events = record { state = state; folded = folded; events = events }

-- one entry more, whose step was served
pub record Adds (old : BookView) (caller : ℕ) (step : Step) (reply : Reply) (new : BookView) : Type 0 where
  pub base : new.base ≡ old.base
  pub entries : new.entries ≡ old.entries ++ entry caller step reply ∷ []
  pub served : IsServed step reply new.state old.state

-- all entries are folded into the base: it is the state of the slot now, to which they led from the old base; the one number rises by the entries, the other
-- by those that are no posts; the entries go, and the state stays
pub record Folds (old new : BookView) : Type 0 where
  pub base : new.base ≡ base_of old.state (old.base.folded + length old.entries) (old.base.events + count_of old.entries)
  pub replays : Replays old.base.state old.entries new.base.state
  pub entries : new.entries ≡ []
  pub state : new.state ≡ old.state

-- the book of an event: the one that was found, or that one folded, where it had at least as many entries as the limit
abbrev pub Readies : ℕ → BookView → BookView → Type 0
Readies limit old new = IsSameBook old new ⊎ ((limit ≤ length old.entries) × Folds old new)

-- a book in which nothing is written, of a slot that was never mounted
abbrev pub unwritten : ℕ → BookView
unwritten slot = record { base = base_of (unused slot) 0 0; entries = []; state = unused slot; room = 0 }

-- whether a step may leave blocks held
abbrev pub may_hold : Step → Bool
may_hold (Call slot life request answer) = may_leave_held request
may_hold other = false

-- what holds of every book: its entries lead from its base to the state of the slot, and both keep the slot's number; the ledger counts those that are no
-- posts, folded ones too; and it has no more entries than its numbers can count
pub record IsTrueBook (slot : ℕ) (base : BaseView) (entries : List Entry) (state : SlotState) (total : ℕ) : Type 0 where
  pub replays : Replays base.state entries state
  pub base_number : base.state.slot ≡ slot
  pub number : state.slot ≡ slot
  pub counts : base.events + count_of entries ≡ total
  pub some_folded : base.events ≤ base.folded
  pub few_folded : base.folded ≤ 2 ^ 62
  pub few : length entries ≤ 2 ^ 62
