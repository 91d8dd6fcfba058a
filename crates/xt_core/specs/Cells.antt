-- One slot of the pure host, and what a step makes of it.
use Rattle.std.specs.Prelude.{MatchBool, true, ℕ, ◌≡◌}
use Rattle.xt_base.specs.Alone.{alone, step_may_want}
use Rattle.xt_base.specs.Isolation.{is_no_memory}
use Rattle.xt_base.specs.State.{Lone}
use Rattle.xt_base.specs.declared.steps.Reply.{Reply}
use Rattle.xt_base.specs.declared.steps.Step.{Step}

-- a slot by its number, and what it is
pub record Cell : Type 0 where
  pub slot : ℕ
  pub lone : Lone

-- the slot with another state
abbrev pub with_lone : Lone → Cell → Cell
with_lone l c = record c { lone = l }

-- the step was refused memory, which it may want for the slot's own reply, and nothing changed
abbrev pub IsUnturned : Step → Cell → Cell → Type 0
IsUnturned x new old = (new ≡ old) × (step_may_want x (alone x old.lone).reply ≡ true)

-- the step came about, or it was refused memory
abbrev pub IsTurned : Step → Reply → Cell → Cell → Type 0
IsTurned x r new old = MatchBool (is_no_memory r) (IsUnturned x new old) ((r ≡ (alone x old.lone).reply) × (new ≡ with_lone (alone x old.lone).slot old))
