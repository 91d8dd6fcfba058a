-- What a device over a file keeps of calls that failed.
use Rattle.std.specs.Prelude.{IfSome, List, Option, Result, Some, false, is_ok, ℕ, ◌≡◌}
use Rattle.std.specs.declared.io.Error.{Error}
use Rattle.xt_dev.specs.declared.file_home.FileHome.{FileHome}
use Rattle.xt_dev.specs.declared.file_log.FileLog.{FileLog}
use Rattle.xt_dev.specs.declared.sealed_log.SealedLog.{SealedLog}

-- why the last call of a home device that failed did
abbrev pub home_fault : FileHome → Option Error
home_fault home = home.fault

-- the sectors of a home device that are in doubt, each once
abbrev pub in_doubt : FileHome → List ℕ
in_doubt home = home.doubts.doubtful.items

-- why the last call of a log failed, if it did
abbrev pub log_fault : FileLog → Option Error
log_fault log = log.fault

-- why each call of a sealed log fails, since one did
abbrev pub sealed_fault : SealedLog → Option Error
sealed_fault log = log.fault

-- a device that was broken before a call is so after it, for the same reason, and the call fails
abbrev pub IsBrokenStill : {T E : Type 0} → Option Error → Option Error → Result T E → Type 0
IsBrokenStill before after result = IfSome before (λ error. (after ≡ Some error) × (is_ok result ≡ false))
