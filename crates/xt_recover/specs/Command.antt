-- What recovery prints as a command, and how it ends.
use Rattle.std.specs.Io.KnownBytes.{Appends, Keeps}
use Rattle.std.specs.Prelude.{Err, List, Ok, Option, Result, [], codes, decimal, if◌then◌else◌, ℕ, ◌++◌, ◌==◌, ◌∷◌, ◌≡◌, ◌⊎◌}
use Rattle.xt_recover.specs.declared.gather.LogFault.{LogFault}
use Rattle.xt_recover.specs.declared.recovering.RecoverFault.{RecoverFault}
use Rattle.xt_recover.specs.declared.recovering.Recovered.{Recovered}
use Rattle.xt_recover.specs.declared.command.CommandFault.{CommandFault}

-- words, a number and a newline
abbrev pub numbered : List ℕ → ℕ → List ℕ
numbered words number = (words ++ decimal number) ++ 10 ∷ []

-- how many bytes stand behind the last whole text; nothing where there is none
abbrev pub rest_lines : ℕ → List ℕ
rest_lines count = if count == 0 then [] else numbered (codes "rest ") count

-- where a field breaks its rule, or a text begins that says something else of the size of a block than those before it, counted in the log from 0
abbrev pub fault_line : ℕ → List ℕ
fault_line offset = numbered (codes "fault ") offset

-- how many texts and blocks were recovered
abbrev pub recovered_line : Recovered → List ℕ
recovered_line found = codes "recovered " ++ decimal found.texts ++ codes " texts " ++ decimal found.blocks ++ codes " blocks" ++ 10 ∷ []

-- what is printed of what was recovered: that, and how many bytes stand behind the last whole text, if there are any
abbrev pub recovered_lines : Recovered → List ℕ
recovered_lines found = recovered_line found ++ rest_lines found.rest

-- where recovery stopped, before the log was to be emptied, so it is of that fault
abbrev pub IfStopped : CommandFault → (RecoverFault → Type 0) → Type 0
IfStopped (CommandFault.Recover fault) P = P fault
IfStopped (CommandFault.Empty error) P = Unit {0}

-- where the log was not emptied, what was to be done before holds
abbrev pub IfNotEmptied : CommandFault → Type 0 → Type 0
IfNotEmptied (CommandFault.Recover fault) P = Unit {0}
IfNotEmptied (CommandFault.Empty error) P = P

-- all of a text was printed, and then this is the status; else it is 1
abbrev pub IsPrintedOr1 : ℕ → List ℕ → Option (List ℕ) → Option (List ℕ) → ℕ → Type 0
IsPrintedOr1 wanted text old new status = ((status ≡ wanted) × Appends old new text) ⊎ (status ≡ 1)

-- what is printed of each outcome, and its status
abbrev pub IsOutcomePrinted : Result Recovered CommandFault → Option (List ℕ) → Option (List ℕ) → ℕ → Type 0
IsOutcomePrinted (Ok found) old new status = IsPrintedOr1 0 (recovered_lines found) old new status
IsOutcomePrinted (Err (CommandFault.Recover (RecoverFault.Log (LogFault.Broken offset)))) old new status = IsPrintedOr1 3 (fault_line offset) old new status
IsOutcomePrinted (Err (CommandFault.Recover (RecoverFault.Log (LogFault.Mixed offset)))) old new status = IsPrintedOr1 3 (fault_line offset) old new status
IsOutcomePrinted (Err (CommandFault.Recover (RecoverFault.Log (LogFault.Rotten which offset)))) old new status = IsPrintedOr1 3 (fault_line offset) old new status
IsOutcomePrinted (Err (CommandFault.Recover (RecoverFault.Log LogFault.Strange))) old new status = IsPrintedOr1 3 (fault_line 0) old new status
IsOutcomePrinted (Err other) old new status = (status ≡ 1) × Keeps old new

-- the exit statuses
abbrev pub IsCommandStatus : ℕ → Type 0
IsCommandStatus status = (status ≡ 0) ⊎ ((status ≡ 1) ⊎ (status ≡ 3))
