-- A log of sealed texts in two real files: what is kept of it in memory. What the files have no clause can say.
use Rattle.std.specs.Prelude.{None, false, true, ℕ, ◌+◌, ◌≡◌, ◌⊎◌}
use Rattle.xt_dev.specs.TwoFiles.{Holds, TwoFiles, is_due, turned}
use Rattle.xt_dev.specs.declared.sealed_log.SealedLog.{SealedLog}

-- two files were written as this log
abbrev pub IsLog : SealedLog → TwoFiles → Type 0
IsLog d log = Holds (λ _. None) d.files log

-- how many calls of the older file failed
abbrev pub older_faults : SealedLog → ℕ
older_faults d = d.files.older.faults.count

-- a device was told how long the next text is: a turn was taken where one was due, unless the older file could not be emptied
pub record HasRoom (bytes : ℕ) (old new : SealedLog) (log : TwoFiles) : Type 0 where
  pub idle : is_due bytes log ≡ false → IsLog new log
  pub due : is_due bytes log ≡ true → IsLog new (turned log) ⊎ (IsLog new log × (older_faults new ≡ older_faults old + 1))
