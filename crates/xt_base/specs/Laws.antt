-- Words of the laws: what looks alike to a transaction, and which requests name it.
use Rattle.std.specs.Prelude.{Bool, List, None, Option, Some, [], false, filter, nat_le, true, ℕ, ◌&&◌, ◌==◌, ◌∷◌, ◌≡◌}
use Rattle.xt_base.specs.Calls.{alone_with, is_fresh, is_own}
use Rattle.xt_base.specs.Legs.{own_count}
use Rattle.xt_base.specs.Maps.{at}
use Rattle.xt_base.specs.State.{State}
use Rattle.xt_base.specs.Text.{content_at}
use Rattle.xt_base.specs.declared.steps.Answer.{Answer}
use Rattle.xt_base.specs.declared.steps.Request.{Request}

-- two states look alike to a transaction at a block: their form and its record are the same; it has the block in both, with the same recursion count, or in neither; and where it has it, the fresh mark and the committed content are the same
pub record LooksAlike (t b : ℕ) (s u : State) : Type 0 where
  pub form : s.form ≡ u.form
  pub trans : at t s.transactions ≡ at t u.transactions
  pub count : own_count t (at b s.owners) ≡ own_count t (at b u.owners)
  pub fresh : is_own s t b ≡ true → is_fresh s b ≡ is_fresh u b
  pub content : is_own s t b ≡ true → content_at s.form.size b s.frames.committed ≡ content_at u.form.size b u.frames.committed

-- the requests by which a transaction uses a block that it has: view, log, hold, unhold, relse, inval
abbrev pub uses : ℕ → ℕ → Request → Bool
uses t b (Request.View u c) = (u == t) && (c == b)
uses t b (Request.Log first u c bytes) = (u == t) && (c == b)
uses t b (Request.Hold u c) = (u == t) && (c == b)
uses t b (Request.Unhold u c) = (u == t) && (c == b)
uses t b (Request.Relse u c) = (u == t) && (c == b)
uses t b (Request.Inval u c) = (u == t) && (c == b)
uses t b other = false

-- whether a request names a transaction
abbrev pub names : ℕ → Request → Bool
names t (Request.Get u b) = u == t
names t (Request.Read u b) = u == t
names t (Request.View u b) = u == t
names t (Request.Log first u b bytes) = u == t
names t (Request.Hold u b) = u == t
names t (Request.Unhold u b) = u == t
names t (Request.Relse u b) = u == t
names t (Request.Join u b) = u == t
names t (Request.Inval u b) = u == t
names t (Request.Commit u) = u == t
names t (Request.Roll u) = u == t
names t (Request.Cancel u) = u == t
names t other = false

-- the calls by which a transaction only looks: get, read, view, relse
abbrev pub is_look : ℕ → Request → Bool
is_look t (Request.Get u b) = u == t
is_look t (Request.Read u b) = u == t
is_look t (Request.View u b) = u == t
is_look t (Request.Relse u b) = u == t
is_look t other = false

-- the mount after some calls, each with the home device's answer
abbrev pub after_calls : List (Request × Answer) → State → State
after_calls [] s = s
after_calls (c ∷ cs) s = after_calls cs (alone_with [] c.0 c.1 s).state

-- whether a checkpoint has at least this number; none has where there is no number
abbrev pub is_since : Option ℕ → ℕ → Bool
is_since None number = false
is_since (Some least) number = nat_le least number

-- the landed checkpoints from a number on
abbrev pub landed_since : Option ℕ → List (ℕ × ℕ) → List (ℕ × ℕ)
landed_since least landed = filter (λ e. is_since least e.0) landed
