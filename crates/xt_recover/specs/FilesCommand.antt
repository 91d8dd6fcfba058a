-- How recovery from a log in two files ends as a command.
use Rattle.std.specs.Prelude.{Bool, List, true, ℕ, ◌≡◌, ◌⊎◌}
use Rattle.xt_recover.specs.FilesGathering.{IsRottenAt}
use Rattle.xt_recover.specs.Reading.{IsStoppedAt}
use Rattle.xt_recover.specs.declared.files.Files.{Files}
use Rattle.xt_window.specs.Ways.{IsBare, IsNoLog}
use Rattle.xt_window.specs.declared.way.Which.{Which}

-- both files were emptied
abbrev pub AreEmptied : {C : Type 0} → (C → Bool) → Files C → Type 0
AreEmptied is_emptied logs = (is_emptied logs.one ≡ true) × (is_emptied logs.other ≡ true)

-- one of them was, or the other is as it was
abbrev pub IsOlderFirst : {C : Type 0} → (C → Bool) → Which → Files C → Files C → Type 0
IsOlderFirst is_emptied Which.One old new = (new.other ≡ old.other) ⊎ (is_emptied new.one ≡ true)
IsOlderFirst is_emptied Which.Other old new = (new.one ≡ old.one) ⊎ (is_emptied new.other ≡ true)

-- the place at which two files are no log that is recovered, counted in one of them
abbrev pub IsStoppedFilesAt : ℕ → List ℕ → List ℕ → Type 0
IsStoppedFilesAt offset one other = (IsBare one other × IsStoppedAt offset one) ⊎ (((which : Which) × IsRottenAt which offset one other) ⊎ ((offset ≡ 0) × IsNoLog one other))
