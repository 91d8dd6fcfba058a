-- Slots at their places, and what a step of one of them makes of the host.
use Rattle.std.proofs.Common.{◌≡◌, ◌≢◌, ◌∙◌, ◌+◌, ◌<◌, ◌++◌, ◌∷◌, List, [], ap, arith, get_or, length, refl, suc, sym, true, zero, ℕ}
use Rattle.std.proofs.lemmas.Bool.{and_parts}
use Rattle.std.proofs.lemmas.List.{get_or-set_other, get_or-set_same, get_or_default, length-append, length-set}
use Rattle.std.specs.Prelude.{slice_index_or, slice_set}
use Rattle.xt_base.specs.Order.{suits}
use Rattle.xt_base.specs.State.{empty}
use Rattle.xt_base.specs.Steps.{slot_of}
use Rattle.xt_base.specs.declared.steps.Step.{Step}
use Rattle.xt_core.proofs.RunLemmas.{by_slot}
use Rattle.xt_core.specs.Cells.{Cell}
use Rattle.xt_core.specs.Host.{Host, may_come}
use Rattle.xt_core.specs.InPlace.{AreInPlace, AreUnused, cell_at, states_of, unused}
use Rattle.xt_core.specs.Turns.{InTurn, hand_of, keeps_turn}

-- ---- slots that were never mounted
module _ {A : Type 0} (P : A → Type 0) where
  -- what holds of each place of a list, and of one more at its end
  more_at : (xs : List A) (y : A) (m : ℕ) (d : A) → P (slice_index_or xs m d) → (m ≡ length xs → P y) → P (slice_index_or (xs ++ y ∷ []) m d)
  more_at [] y zero d old new = new refl
  more_at [] y (suc m) d old new = old
  more_at (x ∷ xs) y zero d old new = old
  more_at (x ∷ xs) y (suc m) d old new = more_at xs y m d old (λ e. new (ap suc e))

-- one slot more
pub unused_more : (n : ℕ) (cells : List Cell) (c : Cell) → AreUnused n cells → c ≡ unused n → AreUnused (n + 1) (cells ++ c ∷ [])
unused_more n cells c a is = record {
  count = length-append cells (c ∷ []) ∙ ap (λ k. k + 1) a.count;
  each = λ m. more_at (λ c. c ≡ unused m) cells c m (unused m) (a.each m) (λ e. is ∙ ap unused (sym (e ∙ a.count)));
}

-- they are in place
pub unused_in_place : (cells : List Cell) → AreUnused 16 cells → AreInPlace cells
unused_in_place cells a = record { count = a.count; place = λ m. ap (λ (c : Cell). c.slot) (a.each m) }

-- and the host of them is new
pub unused_states : (cells : List Cell) (m : ℕ) → AreUnused 16 cells → states_of cells m ≡ empty
unused_states cells m a = ap (λ (c : Cell). c.lone) (a.each m)

-- ---- one slot of sixteen
module _ (cells : List Cell) (a : AreInPlace cells) (i : ℕ) (small : i < 16) (c : Cell) (is : c ≡ get_or cells i c) where
  within : i < length cells
  within = omega (arith, a.count, small)

  pub found : c ≡ cell_at i cells
  found = is ∙ get_or_default cells i c (unused i) within

  pub found_slot : c.slot ≡ i
  found_slot = ap (λ (d : Cell). d.slot) found ∙ a.place i

  pub found_state : c.lone ≡ states_of cells i
  found_state = ap (λ (d : Cell). d.lone) found

  pub set_here : (d : Cell) → cell_at i (slice_set cells i d) ≡ d
  set_here d = get_or-set_same cells i d (unused i) within

  pub set_other : (d : Cell) (m : ℕ) → i ≢ m → cell_at m (slice_set cells i d) ≡ cell_at m cells
  set_other d m other = get_or-set_other cells i m d (unused m) (λ same. other (sym same))

  -- with another state the slot is still in place
  pub set_in_place : (d : Cell) → d.slot ≡ c.slot → AreInPlace (slice_set cells i d)
  set_in_place d same = record {
    count = length-set cells i d ∙ a.count;
    place = by_slot i (λ m. (cell_at m (slice_set cells i d)).slot ≡ m)
        (ap (λ (e : Cell). e.slot) (set_here d) ∙ same ∙ found_slot)
        (λ m other. ap (λ (e : Cell). e.slot) (set_other d m other) ∙ a.place m);
  }

  -- a slot that is as it was
  pub set_same : (d : Cell) → d ≡ c → (m : ℕ) → states_of (slice_set cells i d) m ≡ states_of cells m
  set_same d same =
      by_slot i (λ m. states_of (slice_set cells i d) m ≡ states_of cells m)
      (ap (λ (e : Cell). e.lone) (set_here d ∙ same) ∙ found_state)
      (λ m other. ap (λ (e : Cell). e.lone) (set_other d m other))

-- ---- a step of one slot
-- the host of slots, a queue and hands
abbrev pub host_of : List Cell → InTurn → Host
host_of cells turns = record { cells = cells; queue = turns.queue; hands = turns.hands }

-- the slot at the place of a step lets it come
pub suits_at : (x : Step) (cells : List Cell) → AreInPlace cells → (i : ℕ) → i ≡ slot_of x → i < 16 → (c : Cell) → c ≡ get_or cells i c → (turns : InTurn) → may_come (host_of cells turns) x ≡ true → suits x c.lone ≡ true
suits_at x cells a i here small c is turns may =
    ap (suits x) (found_state cells a i small c is ∙ ap (states_of cells) here)
    ∙ (and_parts (keeps_turn turns.queue (hand_of turns) x) (suits x (states_of cells (slot_of x))) may).1
