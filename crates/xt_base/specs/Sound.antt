-- What holds of every mount: its log space is within the log, few blocks are busy, its maps rise, what is granted covers what is changed,
-- and what is listed has a committed content.
use Rattle.std.specs.Prelude.{Bool, List, None, Option, Some, [], false, is_none, is_some, length, suc, sum_by, true, ℕ, ◌+◌, ◌<◌, ◌||◌, ◌∷◌, ◌≡◌, ◌≤◌, ◌⊎◌}
use Rattle.xt_base.specs.Form.{IsForm}
use Rattle.xt_base.specs.Legs.{own_count, owned_by}
use Rattle.xt_base.specs.Maps.{at, has, is_in}
use Rattle.xt_base.specs.Space.{charge, cost, count_beside, flight_items, granted, greatest, is_busy, is_listed, is_needed}
use Rattle.xt_base.specs.State.{Change, Flight, Frames, Items, Jobs, State, Transaction}
use Rattle.xt_base.specs.declared.sizes.TheConstants.{BUSY_BLOCKS, MOST_LOG}
use Rattle.xt_base.specs.declared.steps.Owner.{Owner}
use Rattle.xt_base.specs.declared.steps.Owner.TheVariants.{Stale}

module _ {V : Type 0} where
  -- the keys rise, the first from n on
  abbrev pub RisesFrom : ℕ → List (ℕ × V) → Type 0
  RisesFrom n [] = Unit {0}
  RisesFrom n (e ∷ es) = (n ≤ e.0) × RisesFrom (suc e.0) es

  -- the keys rise
  abbrev pub IsRising : List (ℕ × V) → Type 0
  IsRising m = RisesFrom 0 m

  -- a fact of each element
  abbrev pub Each : (V → Type 0) → List V → Type 0
  Each P [] = Unit {0}
  Each P (e ∷ es) = P e × Each P es

-- the numbers rise, the first from n on
abbrev pub RisesFromKeys : ℕ → List ℕ → Type 0
RisesFromKeys n [] = Unit {0}
RisesFromKeys n (k ∷ ks) = (n ≤ k) × RisesFromKeys (suc k) ks

-- each chunk marked in a block was charged
abbrev pub IsCovered : ℕ × Change → Type 0
IsCovered e = (k : ℕ) → has e.1.marks k ≡ true → has e.1.charged k ≡ true

-- the transaction has a block
abbrev pub Owns : List (ℕ × Owner) → ℕ → ℕ → Type 0
Owns owners t b = is_some (own_count t (at b owners)) ≡ true

-- a leg of an open transaction is charged within its unit, what it marked was charged, and it owns what it changed and what has its hold mark
pub record IsFair (ends : ℕ) (owners : List (ℕ × Owner)) (e : ℕ × Transaction) : Type 0 where
  pub unit : charge ends e.1.leg.changes ≤ e.1.unit
  pub rising : IsRising e.1.leg.changes
  pub covered : Each IsCovered e.1.leg.changes
  pub owned : Each (λ c. Owns owners e.0 c.0) e.1.leg.changes
  pub holds_rise : RisesFromKeys 0 e.1.leg.holds
  pub holds_owned : Each (λ b. Owns owners e.0 b) e.1.leg.holds

-- each landed checkpoint has a number below n
abbrev pub AllBelow : ℕ → List (ℕ × ℕ) → Type 0
AllBelow n landed = Each (λ e. e.0 < n) landed

-- the checkpoint in flight comes after the landed ones and before the open one
abbrev pub IsBetween : Option Flight → Items → Type 0
IsBetween None l = Unit {0}
IsBetween (Some f) l = (f.number < l.open_number) × AllBelow f.number l.landed

-- what holds of a log of so many bytes, the owners, the open transactions and the item lists
pub record AreSound (ends log_bytes : ℕ) (owners : List (ℕ × Owner)) (transactions : List (ℕ × Transaction)) (l : Items) : Type 0 where
  pub space : granted transactions + cost ends l.cil + cost ends (flight_items l.flight) + sum_by (λ e. e.1) l.landed ≤ log_bytes
  pub busy : length owners + count_beside owners l ≤ BUSY_BLOCKS
  pub owners_rise : IsRising owners
  pub transactions_rise : IsRising transactions
  pub cil_rises : IsRising l.cil
  pub flight_rises : IsRising (flight_items l.flight)
  pub ail_rises : IsRising l.ail
  pub landed_rises : IsRising l.landed
  pub landed_below : AllBelow l.open_number l.landed
  pub landed_needed : Each (λ e. is_needed l.ail e.0 ≡ true) l.landed
  pub flying : IsBetween l.flight l
  pub fair : Each (IsFair ends owners) transactions

-- what holds of the frames: contents and fresh marks are of busy blocks
pub record AreKept (busy : ℕ → Bool) (frames : Frames) : Type 0 where
  pub committed_rises : IsRising frames.committed
  pub committed_busy : Each (λ e. busy e.0 ≡ true) frames.committed
  pub fresh_rises : RisesFromKeys 0 frames.fresh
  pub fresh_busy : Each (λ b. busy b ≡ true) frames.fresh

-- a checkpoint that is outstanding and not begun has something to write, and a number is left for the list after it
pub record IsReady (l : Items) (j : Jobs) : Type 0 where
  pub numbered : 1 ≤ l.open_number
  pub bounded : l.open_number ≤ greatest
  pub worth : is_some j.ckpt ≡ true → is_none l.flight ≡ true → 0 < length l.cil
  pub room : is_some j.ckpt ≡ true → is_none l.flight ≡ true → l.open_number < greatest

-- a block that somebody has, on no list, which no open transaction changed
pub record IsUnwritten (owners : List (ℕ × Owner)) (transactions : List (ℕ × Transaction)) (l : Items) (b : ℕ) : Type 0 where
  pub owned : is_in b owners ≡ true
  pub unlisted : is_listed l b ≡ false
  pub unchanged : Each (λ e. is_in b e.1.leg.changes ≡ false) transactions

-- each open transaction has a number up to the last one given
abbrev pub AreNumbered : ℕ → List (ℕ × Transaction) → Type 0
AreNumbered last transactions = Each (λ e. e.0 ≤ last) transactions

-- each transaction that has a block has a number up to the last one given
abbrev pub AreGiven : ℕ → List (ℕ × Owner) → Type 0
AreGiven last owners = Each (λ e. (t : ℕ) → owned_by t e.1 ≡ true → t ≤ last) owners

-- whether a block was invalidated, and waits for a checkpoint
abbrev pub is_cancelled : Option Owner → Bool
is_cancelled (Some (Stale n)) = true
is_cancelled other = false

-- the checkpoint in flight has this number and cancels the block, which is not committed anew
abbrev pub IsCancelledIn : Option Flight → List (ℕ × List ℕ) → ℕ → ℕ → Type 0
IsCancelledIn None cil b n = ⊥
IsCancelledIn (Some f) cil b n = (n ≡ f.number) × (at b f.items ≡ Some []) × (is_in b cil ≡ false)

-- the checkpoint of this number, open or in flight, cancels the block
abbrev pub IsCancelled : Items → ℕ → ℕ → Type 0
IsCancelled l b n = ((n ≡ l.open_number) × (at b l.cil ≡ Some [])) ⊎ IsCancelledIn l.flight l.cil b n

-- each block on a list has a committed content, or was invalidated and waits for a checkpoint; and that checkpoint cancels it
pub record AreWritten (owners : List (ℕ × Owner)) (committed : List (ℕ × List ℕ)) (l : Items) : Type 0 where
  pub listed : (b : ℕ) → is_listed l b ≡ true → (is_in b committed || is_cancelled (at b owners)) ≡ true
  pub cancelled : (b n : ℕ) → at b owners ≡ Some (Stale n) → IsCancelled l b n

-- what holds of every mount
pub record IsSound (s : State) : Type 0 where
  pub form : IsForm s.form
  pub log_small : s.log_bytes ≤ MOST_LOG
  pub numbers : AreNumbered s.last_trans s.transactions
  pub parts : AreSound s.form.ends s.log_bytes s.owners s.transactions s.items
  pub kept : AreKept (is_busy s) s.frames
  pub ready : IsReady s.items s.jobs
  -- on a live mount each open transaction has a leg left, so that its grant covers its charge; where one is shut, nothing that was changed is committed
  pub legs_left : is_none s.shut ≡ true → Each (λ e. 1 ≤ e.1.legs) s.transactions
  -- on a live mount; where one is shut, a leg that was given up may leave a listed block fresh
  pub fresh_owned : is_none s.shut ≡ true → Each (IsUnwritten s.owners s.transactions s.items) s.frames.fresh
  pub given : AreGiven s.last_trans s.owners
  -- on a live mount, so that no text and no flush has bytes that nobody wrote; where one is shut, contents of listed blocks may be lost
  pub written : is_none s.shut ≡ true → AreWritten s.owners s.frames.committed s.items
