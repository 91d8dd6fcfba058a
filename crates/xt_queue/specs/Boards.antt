-- The rule of the board, over its words and what each seat has shown and seen, and its kinds of step.
use Rattle.std.specs.Prelude.{List, length, max, replicate, slice_index, slice_set, ℕ, ◌+◌, ◌≡◌, ◌≤◌, ◌⊎◌}
use Rattle.xt_base.specs.declared.sizes.TheConstants.{SLOTS}
use Rattle.xt_queue.specs.Words.{IsWord}
use Rattle.xt_queue.specs.declared.views.BoardView.{BoardView}
use lib.ListN.{get_elem?}
use mathlib.Core.Option.{some}

-- a word for each slot, none of which was shown
abbrev pub blank_words : List ℕ
blank_words = replicate SLOTS 0

-- the view of a seat that showed and saw these words, off which so many were split, so many splits from the first
abbrev pub board_view : List ℕ → List ℕ → ℕ → ℕ → BoardView
board_view shown seen splits rank = record { shown = shown; seen = seen; splits = splits; rank = rank }

-- the view of the first seat
abbrev pub blank : BoardView
blank = board_view blank_words blank_words 0 0

-- no number of a list went down
abbrev pub Rises : List ℕ → List ℕ → Type 0
Rises old new = (slot : ℕ) → slice_index old slot ≤ slice_index new slot

-- what a seat showed is at most what it saw, and that at most what stands
pub record Fits (words : List ℕ) (v : BoardView) : Type 0 where
  pub shown_count : length v.shown ≡ SLOTS
  pub seen_count : length v.seen ≡ SLOTS
  pub shown_seen : Rises v.shown v.seen
  pub seen_word : Rises v.seen words

-- the word of a slot is what some seat showed, unless nothing was shown there
abbrev pub WasShown : List ℕ → List BoardView → ℕ → Type 0
WasShown words views slot =
    (slice_index words slot ≡ 0) ⊎ ((place : ℕ) × (v : BoardView) × (get_elem? views place ≡ some v) × (slice_index v.shown slot ≡ slice_index words slot))

-- the rule, of the words and of the views of all seats
pub record BoardRule (words : List ℕ) (views : List BoardView) : Type 0 where
  -- there is a word for each of the sixteen slots
  pub count : length words ≡ SLOTS
  -- of each seat, what it showed is at most what it saw, and that at most what stands
  pub fits : (place : ℕ) (v : BoardView) → get_elem? views place ≡ some v → Fits words v
  -- each word is of a life and a state
  pub formed : (slot : ℕ) → IsWord (slice_index words slot)
  -- each word but 0 is one that a seat showed
  pub was_shown : (slot : ℕ) → WasShown words views slot

-- one step of the board: the word found at a slot becomes a new one, one seat's view becomes another, and the rule holds before and after
pub record BoardStep (slot found new : ℕ) (v w : BoardView) : Type 0 where
  pub words : List ℕ
  pub views : List BoardView
  pub place : ℕ
  pub own : get_elem? views place ≡ some v
  pub here : slice_index words slot ≡ found
  pub rule : BoardRule words views
  pub kept : BoardRule (slice_set words slot new) (slice_set views place w)

-- the view after a word was found at a slot
abbrev pub with_seen : BoardView → ℕ → ℕ → BoardView
with_seen v slot word = board_view v.shown (slice_set v.seen slot word) v.splits v.rank

-- the view after a word was shown at a slot where another, or the same, was found
abbrev pub with_shown : BoardView → ℕ → ℕ → ℕ → BoardView
with_shown v slot word found = board_view (slice_set v.shown slot (max (slice_index v.shown slot) word)) (slice_set v.seen slot (max found word)) v.splits v.rank

-- the view after one more seat was split off
abbrev pub with_split : BoardView → BoardView
with_split v = board_view v.shown v.seen (v.splits + 1) v.rank

-- a look: the word found is at least what the seat had seen, becomes what it has seen, and stays
abbrev pub Peeks : BoardView → ℕ → ℕ → BoardView → Type 0
Peeks v slot found w = IsWord found × (slice_index v.seen slot ≤ found) × (w ≡ with_seen v slot found) × BoardStep slot found found v w

-- a show: the word becomes the greater of the one found and the one shown
abbrev pub Shows : BoardView → ℕ → ℕ → ℕ → BoardView → Type 0
Shows v slot word found w = IsWord found × (slice_index v.seen slot ≤ found) × (w ≡ with_shown v slot word found) × BoardStep slot found (max found word) v w
