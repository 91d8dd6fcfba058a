-- How far a job has come.
use Rattle.std.specs.Prelude.{Option, None, Some, if◌then◌else◌, not, ◌==◌}
use Rattle.xt_base.specs.Jobs.{is_begun, is_waiting}
use Rattle.xt_base.specs.State.{State}
use Rattle.xt_base.specs.declared.names.JobName.{JobName}
use Rattle.xt_mount.specs.declared.mount.Stage.{Stage}
use Rattle.xt_mount.specs.declared.mount.Stage.TheVariants.{Begun, Waiting}

-- waiting from its post to its begin, begun until its end; none where it is of another slot, or not outstanding
abbrev pub stage_of : JobName → State → Option Stage
stage_of name s =
    if not (name.slot == s.slot) then None
    else (if is_begun name s then Some Begun else (if is_waiting name s then Some Waiting else None))
