-- What a handle holds.
use Rattle.std.specs.Prelude.{None, Option, Some, if◌then◌else◌, ◌==◌}
use Rattle.xt_c_host.specs.Told.{Told}
use Rattle.xt_c_host.specs.declared.handle.Handle.{Handle}

-- a host with what its last step said, if it holds that
abbrev pub held : Handle → Option Told
held h = if h.holds == 0 then None else Some h.value
