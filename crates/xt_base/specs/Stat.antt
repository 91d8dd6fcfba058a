-- What a mount tells of itself.
use Rattle.std.specs.Prelude.{Bool, None, Option, Some, false, is_some, length, true, unwrap_or, ℕ, ◌+◌, ◌-◌}
use Rattle.xt_base.specs.Owed.{is_owed}
use Rattle.xt_base.specs.Space.{busy_count, cost, granted, least_number, used}
use Rattle.xt_base.specs.State.{Flight, Jobs, State}
use Rattle.xt_base.specs.declared.names.JobKind.{JobKind}
use Rattle.xt_base.specs.declared.stat.Stat.{Stat}

-- the number of what is in flight; 0 for none
abbrev pub number_in_flight : Option Flight → ℕ
number_in_flight None = 0
number_in_flight (Some f) = f.number

-- 1 for what holds
abbrev pub one_if : Bool → ℕ
one_if true = 1
one_if false = 0

-- how many jobs are owed
abbrev pub owed_count : State → ℕ
owed_count s = one_if (is_owed JobKind.Ckpt s) + one_if (is_owed JobKind.Flush s)

-- how many jobs were posted and not finished
abbrev pub outstanding_count : Jobs → ℕ
outstanding_count j = one_if (is_some j.ckpt) + one_if (is_some j.flush)

-- what a mount tells
abbrev pub stat_of : State → Stat
stat_of s = record {
  transactions = length s.transactions;
  busy = busy_count s;
  idle = length s.frames.idle;
  committed = length s.items.cil;
  active = length s.items.ail;
  owed = owed_count s;
  outstanding = outstanding_count s.jobs;
  frozen = s.frozen;
  cost = cost s.form.ends s.items.cil;
  granted = granted s.transactions;
  used = used s;
  free = s.log_bytes - used s;
  flight = number_in_flight s.items.flight;
  least = unwrap_or (least_number s.items.ail) 0;
}
