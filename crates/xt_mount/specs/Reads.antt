-- What refuses a get and a read, and what a read makes of its device's answer.
use Rattle.std.specs.Prelude.{Bool, List, [], false, nat_le, not, true, ℕ, ◌&&◌, ◌∷◌, ◌≡◌}
use Rattle.xt_base.specs.Calls.{answered, gives, is_elsewhere}
use Rattle.xt_base.specs.Legs.{is_dirty}
use Rattle.xt_base.specs.Space.{busy_count, is_busy}
use Rattle.xt_base.specs.State.{Leg, State}
use Rattle.xt_base.specs.declared.sizes.TheConstants.{BUSY_BLOCKS}
use Rattle.xt_base.specs.declared.steps.Answer.{Answer}
use Rattle.xt_base.specs.declared.steps.Errno.{Errno}
use Rattle.xt_base.specs.declared.steps.Errno.TheVariants.{Again, NoBufs}
use Rattle.xt_base.specs.declared.steps.Reply.{Reply}

-- the answer was taken, for any leg that is dirty or not
abbrev pub IsAnswered : ℕ → ℕ → Bool → Answer → Reply → State → State → Type 0
IsAnswered t b dirty answer reply new old = (leg : Leg) → is_dirty leg ≡ dirty → gives reply new ≡ answered t b leg old answer

-- whether the device gave a content
abbrev pub is_given : Answer → Bool
is_given (Answer.Content content) = true
is_given other = false

-- what refuses a block that may be locked otherwise: the end of what refuses a get, and of what refuses a read
abbrev pub place_refusals : ℕ → ℕ → State → List (Bool × Errno)
place_refusals t b s = (is_elsewhere s t b, Again) ∷ (not (is_busy s b) && nat_le BUSY_BLOCKS (busy_count s), NoBufs) ∷ []
