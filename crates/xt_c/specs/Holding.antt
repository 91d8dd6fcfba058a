-- What a handle holds.
use Rattle.std.specs.Prelude.{None, Option, Some, if◌then◌else◌, ◌==◌}
use Rattle.xt_base.specs.State.{State}
use Rattle.xt_c.specs.declared.handle.Handle.{Handle}

-- its mount, if it holds one
abbrev pub held : Handle → Option State
held h = if h.holds == 0 then None else Some h.value
