-- What a locked slot keeps beside its book, of its devices and of its posts.
use Rattle.std.specs.Prelude.{Bool, None, Option, Some, false, if◌then◌else◌, is_none, is_some, nat_le, nat_lt, true, ℕ, ◌&&◌, ◌==◌, ◌||◌}
use Rattle.xt_base.specs.State.{State}
use Rattle.xt_mount.specs.Slots.{SlotState}

-- a life and a serial are those of the last post of a mount, which is of the last life; before its first post they are of an earlier life
abbrev pub is_last_of : ℕ × ℕ → ℕ → Option State → Bool
is_last_of last last_life None = nat_le last.0 last_life
is_last_of last last_life (Some m) = (m.life == last_life) && (if m.jobs.last_serial == 0 then nat_lt last.0 m.life else (last.0 == m.life) && (last.1 == m.jobs.last_serial))

-- the same of a slot
abbrev pub is_last_post : ℕ × ℕ → SlotState → Bool
is_last_post last s = is_last_of last s.last_life s.mounted

-- whether a mount has its log device at hand: it has none while a checkpoint is in flight
abbrev pub has_log : Option State → Bool
has_log None = false
has_log (Some m) = is_none m.items.flight

-- whether a checkpoint that is in flight is an outstanding job
abbrev pub is_flown_by_job : Option State → Bool
is_flown_by_job None = true
is_flown_by_job (Some m) = is_none m.items.flight || is_some m.jobs.ckpt
