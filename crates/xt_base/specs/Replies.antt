-- Which replies a request may get, and which requests may ask the home device.
use Rattle.std.specs.Prelude.{Bool, false, true, ◌||◌}
use Rattle.xt_base.specs.Alone.{carries_content, is_okay, is_refusal}
use Rattle.xt_base.specs.declared.steps.Reply.{Reply}
use Rattle.xt_base.specs.declared.steps.Reply.TheVariants.{Aborted, Committed, CommittedHeld, Done, Free, Kept, Okay, OkayHeld, Wait}
use Rattle.xt_base.specs.declared.steps.Request.{Request}

-- whether a reply is the number of a new transaction
abbrev pub is_trans : Reply → Bool
is_trans (Reply.Trans number) = true
is_trans other = false

-- whether a reply says what became of a lock that was given back
abbrev pub is_release : Reply → Bool
is_release Kept = true
is_release Free = true
is_release other = false

-- whether a reply is of a leg that was committed, or that a shut mount gave up
abbrev pub is_commit : Reply → Bool
is_commit (Committed number) = true
is_commit (CommittedHeld number held) = true
is_commit (Aborted held) = true
is_commit other = false

-- whether a reply is ok, with the blocks that stay held or without any
abbrev pub is_cancel : Reply → Bool
is_cancel Okay = true
is_cancel (OkayHeld held) = true
is_cancel other = false

-- whether a reply says that a force is done, or what it waits for
abbrev pub is_force : Reply → Bool
is_force Done = true
is_force (Wait number) = true
is_force other = false

-- whether a reply is what a mount tells of itself
abbrev pub is_told : Reply → Bool
is_told (Reply.Stat told) = true
is_told other = false

-- whether a request may get a reply where it is not refused
abbrev pub may_be_told : Request → Reply → Bool
may_be_told (Request.Alloc unit count perm) reply = is_trans reply
may_be_told (Request.View t b) reply = carries_content reply
may_be_told (Request.Relse t b) reply = is_release reply
may_be_told (Request.Commit t) reply = is_commit reply
may_be_told (Request.Roll t) reply = is_commit reply
may_be_told (Request.Cancel t) reply = is_cancel reply
may_be_told Request.Force reply = is_force reply
may_be_told (Request.ForceTo number) reply = is_force reply
may_be_told Request.Stat reply = is_told reply
may_be_told other reply = is_okay reply

-- whether a request may get a reply
abbrev pub may_get : Request → Reply → Bool
may_get request reply = is_refusal reply || may_be_told request reply

-- whether a request may ask the home device
abbrev pub is_read : Request → Bool
is_read (Request.Read t b) = true
is_read other = false
