-- Steps, and the steps of one slot.
use Rattle.std.specs.Prelude.{Bool, List, false, filter, true, ℕ, ◌==◌}
use Rattle.xt_base.specs.declared.steps.Step.{Step}
use Rattle.xt_base.specs.declared.steps.Step.TheVariants.{Begin, Call, End, Flush, Mount, Peek, Post, Show, Take}

-- the slot that a step names
abbrev pub slot_of : Step → ℕ
slot_of (Mount slot log_bytes blocks size) = slot
slot_of (Call slot life request answer) = slot
slot_of (Post name) = name.slot
slot_of (Take worker name) = name.slot
slot_of (Begin worker name) = name.slot
slot_of (End worker name answers) = name.slot
slot_of (Flush worker name answers) = name.slot
slot_of (Show slot) = slot
slot_of (Peek slot) = slot

-- the steps that name a slot, in order
abbrev pub strike : List Step → ℕ → List Step
strike steps m = filter (λ x. slot_of x == m) steps

-- a request to a mount
abbrev pub is_call : Step → Bool
is_call (Call slot life request answer) = true
is_call (Mount slot log_bytes blocks size) = false
is_call (Post name) = false
is_call (Take worker name) = false
is_call (Begin worker name) = false
is_call (End worker name answers) = false
is_call (Flush worker name answers) = false
is_call (Show slot) = false
is_call (Peek slot) = false
