-- What a mount owes, and what is asked of its requests.
use Rattle.std.specs.Prelude.{ℕ, ◌+◌, ◌==◌, ◌||◌, ◌&&◌, List, [], ◌∷◌, Option, None, Some, Bool, true, false, is_none, length, nat_lt, not, if◌then◌else◌}
use Rattle.xt_base.specs.Form.{is_size}
use Rattle.xt_base.specs.Owed.{is_owed}
use Rattle.xt_base.specs.State.{State}
use Rattle.xt_base.specs.declared.names.JobKind.{JobKind}
use Rattle.xt_base.specs.declared.names.JobName.{JobName}
use Rattle.xt_base.specs.declared.sizes.TheConstants.{LEAST_LOG, MOST_BLOCKS, MOST_LOG}
use Rattle.xt_base.specs.declared.steps.Errno.{Errno}
use Rattle.xt_base.specs.declared.steps.Errno.TheVariants.{Invalid, NoSpace}
use Rattle.xt_base.specs.declared.steps.Request.{Request}

-- whether a request names the mount as a whole
abbrev pub is_of_mount : Request → Bool
is_of_mount Request.Force = true
is_of_mount (Request.ForceTo number) = true
is_of_mount Request.Push = true
is_of_mount Request.Shutdown = true
is_of_mount Request.Freeze = true
is_of_mount Request.Thaw = true
is_of_mount Request.Stat = true
is_of_mount Request.Unmount = true
is_of_mount other = false

-- what refuses a new mount, with blocks of a size where one is said, after a last life
abbrev pub new_refusals : ℕ → ℕ → ℕ → Option ℕ → List (Bool × Errno)
new_refusals last log_bytes blocks size =
    (nat_lt log_bytes LEAST_LOG || nat_lt MOST_LOG log_bytes || (blocks == 0) || nat_lt MOST_BLOCKS blocks || not (is_size size), Invalid)
    ∷ (last == 4294967295, NoSpace)
    ∷ []

-- the name of a job that is owed
abbrev pub owed_name : JobKind → State → Option JobName
owed_name kind s = if is_owed kind s then Some (record { slot = s.slot; life = s.life; kind = kind; serial = s.jobs.last_serial + 1 }) else None

-- the block that a read names
abbrev pub read_block : Request → Option ℕ
read_block (Request.Read trans block) = Some block
read_block other = None

-- the size of a log whose texts are of no use any more: that of a live mount with no checkpoint in flight, and with no block that waits to be written home
abbrev pub spent_log : State → Option ℕ
spent_log s = if is_none s.shut && is_none s.items.flight && (length s.items.ail == 0) then Some s.log_bytes else None
