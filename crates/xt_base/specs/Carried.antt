-- Which requests may be answered a content, and which a list of held blocks.
use Rattle.std.specs.Prelude.{Bool, false, true}
use Rattle.xt_base.specs.declared.steps.Request.{Request}

-- whether a request asks what a transaction sees
abbrev pub is_view : Request → Bool
is_view (Request.View t b) = true
is_view other = false

-- whether a request ends a leg, which may leave blocks held
abbrev pub may_leave_held : Request → Bool
may_leave_held (Request.Commit t) = true
may_leave_held (Request.Roll t) = true
may_leave_held (Request.Cancel t) = true
may_leave_held other = false
