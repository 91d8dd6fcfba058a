-- What a mount tells of itself, as a caller's words.
use Rattle.std.specs.Int.{from_bool}
use Rattle.std.specs.Prelude.{None, Option, Some, pos, ℤ, ◌≡◌}
use Rattle.xt_base.specs.Stat.{stat_of}
use Rattle.xt_base.specs.State.{State}
use Rattle.xt_base.specs.declared.stat.Stat.{Stat}
use Rattle.xt_base.specs.declared.steps.Errno.TheVariants.{NoDevice}
use Rattle.xt_c.specs.Status.{refusal}
use Rattle.xt_c.specs.declared.words.StatWords.{StatWords}

-- its words: each number in its place, and 1 for frozen
abbrev pub stat_words : Stat → StatWords
stat_words told = record {
  transactions = told.transactions;
  busy = told.busy;
  idle = told.idle;
  committed = told.committed;
  active = told.active;
  owed = told.owed;
  outstanding = told.outstanding;
  frozen = from_bool told.frozen;
  cost = told.cost;
  granted = told.granted;
  used = told.used;
  free = told.free;
  flight = told.flight;
  least = told.least;
}

-- what a mount tells is written, and 0 returned; of a handle that holds none nothing is written
abbrev pub IsStatOf : Option State → ℤ → StatWords → StatWords → Type 0
IsStatOf None status new old = (status ≡ refusal NoDevice) × (new ≡ old)
IsStatOf (Some m) status new old = (status ≡ pos 0) × (new ≡ stat_words (stat_of m))
