-- The jobs of one life of a slot.
use Rattle.std.specs.Prelude.{Bool, None, Option, Some, false, if◌then◌else◌, is_none, not, true, ℕ, ◌&&◌, ◌+◌, ◌==◌}
use Rattle.xt_base.specs.Jobs.{is_serial}
use Rattle.xt_base.specs.Owed.{job}
use Rattle.xt_base.specs.Space.{greatest}
use Rattle.xt_base.specs.State.{Jobs}
use Rattle.xt_base.specs.declared.names.JobKind.{JobKind}
use Rattle.xt_base.specs.declared.names.JobName.{JobName}

-- a life of a slot, with what it asked, what is outstanding and the last serial
pub record Table : Type 0 where
  pub slot : ℕ
  pub life : ℕ
  pub jobs : Jobs

-- nothing asked, nothing outstanding, no serial given
abbrev pub new_table : ℕ → ℕ → Table
new_table slot life = record { slot = slot; life = life; jobs = record { asked_ckpt = false; asked_flush = false; ckpt = None; flush = None; last_serial = 0 } }

-- whether a job of a kind is asked
abbrev pub is_asked : JobKind → Jobs → Bool
is_asked JobKind.Ckpt j = j.asked_ckpt
is_asked JobKind.Flush j = j.asked_flush

-- the mark of a kind, set or cleared
abbrev pub with_asked : JobKind → Bool → Jobs → Jobs
with_asked JobKind.Ckpt asked j = record j { asked_ckpt = asked }
with_asked JobKind.Flush asked j = record j { asked_flush = asked }

-- whether a job of a kind may be posted: none is outstanding, and a serial is left
abbrev pub is_free : JobKind → Jobs → Bool
is_free kind j = is_none (job kind j) && not (j.last_serial == greatest)

-- the name of the next job of a kind
abbrev pub next_name : JobKind → Table → Option JobName
next_name kind t = if is_free kind t.jobs then Some (record { slot = t.slot; life = t.life; kind = kind; serial = t.jobs.last_serial + 1 }) else None

-- whether a name is that of an outstanding job of this life
abbrev pub is_outstanding : JobName → Table → Bool
is_outstanding name t = (name.life == t.life) && is_serial name.serial (job name.kind t.jobs)
