-- When a job of a mount is owed.
use Rattle.std.specs.Prelude.{Bool, Option, if◌then◌else◌, is_none, length, nat_le, not, ℕ, ◌&&◌, ◌/◌, ◌==◌}
use Rattle.xt_base.specs.Space.{cost, greatest}
use Rattle.xt_base.specs.State.{Items, Jobs, State}
use Rattle.xt_base.specs.declared.names.JobKind.{JobKind}

-- the outstanding job of a kind
abbrev pub job : JobKind → Jobs → Option ℕ
job JobKind.Ckpt j = j.ckpt
job JobKind.Flush j = j.flush

-- something to write, whose text has at least so many bytes, nothing in flight, and a number for the list after it
abbrev pub is_worth : ℕ → ℕ → Items → Bool
is_worth ends n l = is_none l.flight && not (l.open_number == greatest) && not (length l.cil == 0) && nat_le n (cost ends l.cil)

-- a checkpoint is wanted if it was asked, or the committed items cost an eighth of the log; a flush if it was asked
abbrev pub is_wanted : JobKind → State → Bool
is_wanted JobKind.Ckpt s = is_worth s.form.ends (if s.jobs.asked_ckpt then 0 else s.log_bytes / 8) s.items
is_wanted JobKind.Flush s = s.jobs.asked_flush

-- whether a live mount owes a job of a kind
abbrev pub is_owed : JobKind → State → Bool
is_owed kind s = is_none s.shut && is_wanted kind s && is_none (job kind s.jobs) && not (s.jobs.last_serial == greatest)
