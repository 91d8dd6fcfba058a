-- What a handle holds.
use Rattle.std.specs.Prelude.{None, Option, Some, if◌then◌else◌, ◌==◌}
use Rattle.xt_c_log.specs.Logs.{Log}
use Rattle.xt_c_log.specs.declared.handle.Handle.{Handle}

-- what it holds of a log, if it holds something
abbrev pub held : Handle → Option Log
held h = if h.holds == 0 then None else Some h.value
