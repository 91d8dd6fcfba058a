-- What stands behind a checkpoint in a sealed log.
use Rattle.std.specs.List.{concat}
use Rattle.std.specs.Prelude.{List, MatchBool, None, Option, Some, drop, length, not, pos, take, ℕ, ℤ, ◌&&◌, ◌++◌, ◌==◌, ◌≡◌}
use Rattle.xt_base.specs.Jobs.{flight_pieces}
use Rattle.xt_base.specs.State.{State}
use Rattle.xt_base.specs.declared.steps.Errno.TheVariants.{Invalid, NoDevice}
use Rattle.xt_c.specs.Status.{refusal}
use Rattle.xt_seal.specs.Seal.{text_seal}

-- the head of a file of the log, and the last seal of that file
abbrev pub with_seal : List ℕ → List ℕ → List ℕ
with_seal text log = take 56 log ++ text_seal (take 56 log) (drop 56 log) text

-- of a text that has pieces, its seal, behind the head and the seal before, is put in the place of that; else nothing is written
abbrev pub IsSealed : List (List ℕ) → ℤ → List ℕ → List ℕ → Type 0
IsSealed pieces status new old =
    MatchBool ((length old == 64) && not (length pieces == 0)) ((status ≡ pos 0) × (new ≡ with_seal (concat pieces) old)) ((status ≡ refusal Invalid) × (new ≡ old))

-- the same of the checkpoint in flight
abbrev pub IsSealedOf : Option State → ℤ → List ℕ → List ℕ → Type 0
IsSealedOf None status new old = (status ≡ refusal NoDevice) × (new ≡ old)
IsSealedOf (Some m) status new old = IsSealed (flight_pieces m.items.flight) status new old
