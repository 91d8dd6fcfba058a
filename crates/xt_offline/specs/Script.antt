-- What a script says, and what is printed of its run.
use Rattle.std.specs.Prelude.{Bool, List, Option, None, Some, [], false, flat_map, length, not, take, true, ℕ, ◌+◌, ◌++◌, ◌≡◌, ◌≢◌, ◌∷◌, ◌==◌, ◌<◌, ◌≤◌, ◌⊎◌}
use Rattle.std.specs.List.{list_all}
use Rattle.std.specs.Io.KnownBytes.{Appends, Keeps}
use Rattle.xt_base.specs.Alone.{Said}
use Rattle.xt_base.specs.Isolation.{BreaksAt, Tells, Told}
use Rattle.xt_base.specs.Sound.{Each}
use Rattle.xt_base.specs.Steps.{strike}
use Rattle.xt_base.specs.declared.steps.Step.{Step}
use Rattle.xt_core.specs.Host.{Host}
use Rattle.xt_base.specs.declared.outcomes.RunFault.TheVariants.{Disorder}
use Rattle.xt_core.specs.Runs.{AreTurnsOf, IsBarred, IsToldBy}
use Rattle.xt_offline.specs.declared.fault.ScriptFault.{ScriptFault}
use Rattle.xt_offline.specs.declared.fault.ScriptFault.TheVariants.{BadLine, TooLong}
use Rattle.xt_offline.specs.Printing.{Begins, bad_line_text, disorder_text, ended, too_long_text, turn_text, turns_text}
use Rattle.xt_text.specs.Lines.{IsStep, line_of}

-- the lines of steps
abbrev pub script_text : List Step → List ℕ
script_text steps = flat_map (λ x. ended (line_of x)) steps

-- a script is the lines of these steps, where the newline of the last may be wanting
pub record IsScript (script : List ℕ) (steps : List Step) : Type 0 where
  pub valid : Each IsStep steps
  pub text : (script ≡ script_text steps) ⊎ (script ++ 10 ∷ [] ≡ script_text steps)

-- the first line of a text and what comes after its newline, or the whole text, where it has no newline
abbrev pub IsCut : List ℕ → List ℕ → List ℕ → Type 0
IsCut text line after = (text ≡ line ++ 10 ∷ after) ⊎ ((text ≡ line) × (after ≡ []))

-- the lines of these steps were read of a script, and the rest of it was not; or all was, and the last newline was wanting
pub record IsParsed (script : List ℕ) (steps : List Step) (rest : List ℕ) : Type 0 where
  pub valid : Each IsStep steps
  pub text : (script ≡ script_text steps ++ rest) ⊎ ((rest ≡ []) × (script ++ 10 ∷ [] ≡ script_text steps))

-- a line has no newline
abbrev pub is_one_line : List ℕ → Bool
is_one_line line = list_all (λ b. not (b == 10)) line

-- no step's line
abbrev pub IsBadLine : List ℕ → Type 0
IsBadLine line = (x : Step) → IsStep x → line ≢ line_of x

-- the first line of a script that is no step's, counted from 1, comes after the lines of these steps
pub record IsBadAt (script : List ℕ) (number : ℕ) (steps : List Step) (line rest : List ℕ) : Type 0 where
  pub valid : Each IsStep steps
  pub text : (script ≡ script_text steps ++ line) ⊎ (script ≡ script_text steps ++ (ended line ++ rest))
  pub one : is_one_line line ≡ true
  pub bad : IsBadLine line
  pub place : number ≡ length steps + 1

-- the steps that are run: all, or those of one slot
abbrev pub picked : Option ℕ → List Step → List Step
picked None steps = steps
picked (Some slot) steps = strike steps slot

-- a step led from a host to another and told this turn: what led to the one and was told there leads, with it, to the other
abbrev pub IsTold : Step → Said → Host → Host → Type 0
IsTold x t new old = (xs : List Step) (turns : List Said) → IsToldBy xs turns old → IsToldBy (xs ++ x ∷ []) (turns ++ t ∷ []) new

-- what a run of these steps prints, whole, and its status: 0 where all were run, and each turn is its step's in the host that those before it led to; 3
-- where one breaks order, which may not come in the host that those before it led to
abbrev pub IsOutput : List Step → List ℕ → ℕ → Type 0
IsOutput steps text status = ((status ≡ 0) × ((told : Told) × (Tells steps told × (AreTurnsOf steps told × (text ≡ turns_text told.turns)))))
    ⊎ ((status ≡ 3) × ((at : ℕ) × ((told : Told) × (BreaksAt at steps told × (IsBarred steps (Disorder at told) × (text ≡ turns_text told.turns ++ disorder_text at))))))

-- the lines of what the first of these steps told, up to some place
abbrev pub AreLinesOf : List Step → List ℕ → Type 0
AreLinesOf steps text = (at : ℕ) × ((host : Host) × ((turns : List Said) × (IsToldBy (take at steps) turns host × (text ≡ turns_text turns))))

-- a step led from a host to another, and what it said was put behind these lines
abbrev pub IsPutBehind : Step → Host → Host → List ℕ → List ℕ → Type 0
IsPutBehind x new old lines_new lines_old = (t : Said) × (IsTold x t new old × (lines_new ≡ lines_old ++ turn_text t))

-- a run of these steps was printed
abbrev pub IsPrinted : List Step → Option (List ℕ) → Option (List ℕ) → ℕ → Type 0
IsPrinted steps old new status = (text : List ℕ) × (IsOutput steps text status × Appends old new text)

-- a beginning of what a run of these steps prints was written, or of what the first of them told
abbrev pub IsBegun : List Step → Option (List ℕ) → Option (List ℕ) → Type 0
IsBegun steps old new = (text : List ℕ) × ((AreLinesOf steps text ⊎ ((status : ℕ) × IsOutput steps text status)) × Begins old new text)

-- a run of these steps was cut short: nothing was written, or a beginning of what it prints
abbrev pub IsCutShort : List Step → Option (List ℕ) → Option (List ℕ) → Type 0
IsCutShort steps old new = Keeps old new ⊎ IsBegun steps old new

-- a script of at most 16,777,216 bytes: its steps were run, and what they said was written
abbrev pub IsPlayed : Option ℕ → List ℕ → Option (List ℕ) → Option (List ℕ) → ℕ → Type 0
IsPlayed only script old new status = (length script ≤ 16777216) × ((steps : List Step) × (IsScript script steps × IsPrinted (picked only steps) old new status))

-- a script was given up: nothing was written, or a beginning of what a run of its steps prints
abbrev pub IsGivenUp : Option ℕ → List ℕ → Option (List ℕ) → Option (List ℕ) → Type 0
IsGivenUp only script old new = Keeps old new ⊎ ((steps : List Step) × (IsScript script steps × IsBegun (picked only steps) old new))

-- a line of a script is no step's
abbrev pub IsBadScript : List ℕ → ℕ → Type 0
IsBadScript script number = (steps : List Step) × ((line : List ℕ) × ((rest : List ℕ) × IsBadAt script number steps line rest))

-- a script has more than 16,777,216 bytes
abbrev pub IsTooLong : List ℕ → Type 0
IsTooLong script = 16777216 < length script

-- a fault of a script that is read or parsed: a line is no step's, or it is too long; of another nothing is said
abbrev pub IsFaultIn : List ℕ → ScriptFault → Type 0
IsFaultIn script (BadLine number) = IsBadScript script number
IsFaultIn script TooLong = IsTooLong script
IsFaultIn script other = Unit {0}

-- a fault, and what was written by then: nothing where a line is no step's or the script is too long, else at most a beginning
abbrev pub IsFault : Option ℕ → List ℕ → Option (List ℕ) → Option (List ℕ) → ScriptFault → Type 0
IsFault only script old new (BadLine number) = Keeps old new × IsBadScript script number
IsFault only script old new TooLong = Keeps old new × IsTooLong script
IsFault only script old new other = IsGivenUp only script old new

-- what is told of a fault, up to a failure of what it is told to: which line, or that the script is too long; of another nothing is said
abbrev pub IsReported : ScriptFault → Option (List ℕ) → Option (List ℕ) → Type 0
IsReported (BadLine number) old new = Begins old new (bad_line_text number)
IsReported TooLong old new = Begins old new too_long_text
IsReported other old new = Unit {0}

-- the exit status after a fault: 2 for a line that is no step's, else 1
abbrev pub status_of : ScriptFault → ℕ
status_of (BadLine number) = 2
status_of other = 1

-- what a run of a script wrote, what it told of a fault, and its status
pub record IsStopped (only : Option ℕ) (script : List ℕ) (old new err_old err_new : Option (List ℕ)) (status : ℕ) (fault : ScriptFault) : Type 0 where
  pub written : IsFault only script old new fault
  pub told : IsReported fault err_old err_new
  pub ended : status ≡ status_of fault

-- what a run of a script wrote, by its status: 0 and 3 after it was played, and then nothing is told of a fault; 1 and 2 after a fault
abbrev pub IsRun : Option ℕ → List ℕ → Option (List ℕ) → Option (List ℕ) → Option (List ℕ) → Option (List ℕ) → ℕ → Type 0
IsRun only script old new err_old err_new status =
    (IsPlayed only script old new status × Keeps err_old err_new) ⊎ ((fault : ScriptFault) × IsStopped only script old new err_old err_new status fault)

-- whether a fault is that of a script itself: a line that is no step's, or too many bytes
abbrev pub is_of_script : ScriptFault → Bool
is_of_script (BadLine number) = true
is_of_script TooLong = true
is_of_script other = false
