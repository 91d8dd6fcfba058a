-- A step of one slot, with what the board shows of it.
use Rattle.std.proofs.Common.{◌≡◌, ◌∙◌, Bool, Option, ap, false, inl, inr, subst, sym, true, ℕ}
use Rattle.std.proofs.lemmas.Bool.{false≢true}
use Rattle.std.specs.Prelude.{MatchBool}
use Rattle.xt_base.specs.Alone.{alone}
use Rattle.xt_base.specs.Isolation.{is_no_memory}
use Rattle.xt_base.specs.Steps.{slot_of}
use Rattle.xt_base.specs.declared.steps.Reason.{Reason}
use Rattle.xt_base.specs.declared.steps.Reply.{Reply}
use Rattle.xt_base.specs.declared.steps.Step.{Step}
use Rattle.xt_base.proofs.MemoryLemmas.{alone_no_want}
use Rattle.xt_core.specs.Cells.{Cell, IsTurned, IsUnturned, with_lone}
use Rattle.xt_mount.specs.Slots.{IsServed, IsServedUnlessMemory, SlotState, lone_with}

-- what follows by the reply
pub by_true : (b : Bool) (P Q : Type 0) → b ≡ true → MatchBool b P Q → P
by_true true P Q e h = h
by_true false P Q e h = absurd (false≢true e)

pub by_false : (b : Bool) (P Q : Type 0) → b ≡ false → MatchBool b P Q → Q
by_false true P Q e h = absurd (false≢true (sym e))
by_false false P Q e h = h

pub to_true : (b : Bool) (P Q : Type 0) → b ≡ true → P → MatchBool b P Q
to_true true P Q e h = h
to_true false P Q e h = absurd (false≢true e)

pub to_false : (b : Bool) (P Q : Type 0) → b ≡ false → Q → MatchBool b P Q
to_false true P Q e h = absurd (false≢true (sym e))
to_false false P Q e h = h

-- ---- a step
-- a slot with what the board shows of it
abbrev pub cell_with : ℕ → Option Reason → SlotState → Cell
cell_with life reason s = record { slot = s.slot; lone = lone_with life reason s }

module _ (x : Step) (r : Reply) (life : ℕ) (reason : Option Reason) (new old : SlotState) where
  -- a step that was served
  pub turned_served : IsServed x r new old → IsTurned x r (cell_with life reason new) (cell_with life reason old)
  turned_served s =
      let t = alone x (lone_with life reason old) in
      to_false (is_no_memory r) (IsUnturned x (cell_with life reason new) (cell_with life reason old)) ((r ≡ t.reply) × (cell_with life reason new ≡ with_lone t.slot (cell_with life reason old)))
      (ap is_no_memory (s.reply life reason) ∙ alone_no_want x (lone_with life reason old))
      (s.reply life reason, ap (λ n. record { slot = n; lone = lone_with life reason new }) s.slot ∙ ap (λ l. record { slot = old.slot; lone = l }) (s.state life reason))

  -- or was refused memory
  pub turned : IsServedUnlessMemory x r new old → IsTurned x r (cell_with life reason new) (cell_with life reason old)
  turned (inl s) = turned_served s
  turned (inr refused) =
      let t = alone x (lone_with life reason old) in
      to_true (is_no_memory r) (IsUnturned x (cell_with life reason new) (cell_with life reason old)) ((r ≡ t.reply) × (cell_with life reason new ≡ with_lone t.slot (cell_with life reason old)))
      (ap is_no_memory refused.reply) (ap (cell_with life reason) refused.kept, refused.want life reason)

-- the same of a step and a slot by what they are equal to
pub turned_as : (step x : Step) (r : Reply) (new cell old : Cell) → step ≡ x → cell ≡ old → IsTurned x r new cell → IsTurned step r new old
turned_as step x r new cell old is same turned_x = subst (λ y. IsTurned y r new old) (sym is) (subst (IsTurned x r new) same turned_x)

-- a step of this slot names its number
pub number_is : (step x : Step) (cell old : Cell) → step ≡ x → slot_of step ≡ old.slot → cell ≡ old → slot_of x ≡ cell.slot
number_is step x cell old is here same = sym (ap slot_of is) ∙ here ∙ sym (ap (λ (c : Cell). c.slot) same)
