-- What a device is seen to do.
use Rattle.std.specs.Prelude.{Bool, List, [], if◌then◌else◌, length, true, ℕ, ◌++◌, ◌+◌, ◌==◌, ◌∷◌, ◌≡◌, ◌⊎◌}
use Rattle.xt_base.specs.Text.{content_at, zeros}
use Rattle.xt_base.specs.declared.steps.LogOffer.{LogOffer}
use Rattle.xt_dev.specs.declared.cut.LogCut.{LogCut}

-- a count of failures after a call
abbrev pub failures_after : Bool → ℕ → ℕ
failures_after ok count = if ok then count else count + 1

module _ {C : Type 0} where
  -- what a device tells: where it still tells, it told before, and its calls grew by these
  abbrev pub Tells : Bool → List C → List C → Bool → List C → Type 0
  Tells told before calls tells after = tells ≡ true → (told ≡ true) × (after ≡ before ++ calls)

-- a cut of a log of this size, behind the calls that it took
abbrev pub log_cut : ℕ → List LogOffer → LogCut
log_cut size taken = record { size = size; behind = length taken }

-- the cuts of a log that may be cut now: it has one more, or left that undone
abbrev pub IsCut : ℕ → List LogOffer → List LogCut → List LogCut → Type 0
IsCut size taken before after = (after ≡ before) ⊎ (after ≡ before ++ log_cut size taken ∷ [])

-- a content, where it has the length that is asked; else zeros
abbrev pub as_asked : ℕ → List ℕ → List ℕ
as_asked size content = if length content == size then content else zeros size

-- what a device that keeps contents by block reads of a block of a size
abbrev pub kept_at : ℕ → ℕ → List (ℕ × List ℕ) → List ℕ
kept_at size block kept = as_asked size (content_at size block kept)
