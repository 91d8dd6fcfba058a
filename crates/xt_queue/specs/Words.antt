-- The words of the board: a life and whether it was shut, as one number.
use Rattle.std.specs.Prelude.{IsSome, None, Option, Some, ℕ, ◌%◌, ◌*◌, ◌+◌, ◌<◌, ◌^◌, ◌≡◌, ◌≤◌, ◌⊎◌}
use Rattle.xt_base.specs.declared.steps.Reason.{Reason}
use Rattle.xt_base.specs.declared.steps.Reason.TheVariants.{CorruptIncore, ForceUmount, LogIoError, MetaIoError}

-- 0 for a live mount, 1 to 4 for the reasons in order
abbrev pub code_of : Option Reason → ℕ
code_of None = 0
code_of (Some MetaIoError) = 1
code_of (Some LogIoError) = 2
code_of (Some ForceUmount) = 3
code_of (Some CorruptIncore) = 4

-- the word of a life, live or shut for a reason
abbrev pub word_of : ℕ → Option Reason → ℕ
word_of life state = 8 * life + code_of state

-- a word of some life and state; 0 where nothing was shown
abbrev pub IsWord : ℕ → Type 0
IsWord n = (n < 2 ^ 35) × (n % 8 ≤ 4)

-- the life is shut, or a later one came
abbrev pub IsOver : ℕ → ℕ → Option Reason → Type 0
IsOver life later state = (life < later) ⊎ ((later ≡ life) × IsSome state)
