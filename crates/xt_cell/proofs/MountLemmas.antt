-- A mount and an unmount as events of a locked slot.
use Rattle.std.proofs.Common.{nat_le, [], Bool, IsSomeAnd, List, None, Option, Some, ap, arith, drop, false, inl, inr, refl, subst, sym, true, ℕ, ◌+◌, ◌∙◌, ◌≡◌, ◌∷◌}
use Rattle.std.proofs.lemmas.Bool.{and_parts, eq-eqb, eqb-true, false≢true, le-leb, leb-true, lt-ltb, ltb-true}
use Rattle.std.proofs.lemmas.Option.{none-some}
use Rattle.std.specs.Prelude.{if◌then◌else◌, is_none, is_some, nat_lt, ◌&&◌, ◌==◌, ◌||◌, ◌⊎◌}
use Rattle.xt_base.proofs.CarryLemmas.{IsIdle, unmount_empties, unmount_idle}
use Rattle.xt_base.specs.Alone.{alone, call, called, is_okay, is_refusal, mount_refusals, mounted_new, turn, unless_refused}
use Rattle.xt_base.specs.Calls.{alone_with, first_of, gives, is_in_use, is_unmount}
use Rattle.xt_base.specs.State.{Lone, State}
use Rattle.xt_base.specs.declared.steps.Answer.{Answer}
use Rattle.xt_base.specs.declared.steps.Errno.{Errno}
use Rattle.xt_base.specs.declared.steps.Errno.TheVariants.{Busy, NoDevice, Stale}
use Rattle.xt_base.specs.declared.steps.Reply.{Reply}
use Rattle.xt_base.specs.declared.steps.Reply.TheVariants.{Life, Okay, Refused}
use Rattle.xt_base.specs.declared.steps.Request.TheVariants.{Unmount}
use Rattle.xt_base.specs.declared.steps.Step.{Step}
use Rattle.xt_base.specs.declared.steps.Step.TheVariants.{Call, Mount}
use Rattle.xt_cell.proofs.CallLemmas.{booked_from}
use Rattle.xt_cell.proofs.FactLemmas.{call_home, call_idle, call_last, call_log, same_last_life}
use Rattle.xt_cell.specs.Books.{BookView, IsSameBook}
use Rattle.xt_cell.specs.Cells.{IsEvent, is_done, is_life}
use Rattle.xt_cell.specs.Events.{IsBooked}
use Rattle.xt_cell.specs.Facts.{has_log, is_flown_by_job, is_last_of, is_last_post}
use Rattle.xt_cell.specs.HostSeats.{HostSeatView, IsSameSeat}
use Rattle.xt_cell.specs.Posts.{PostsBoth}
use Rattle.xt_mount.specs.Slots.{IsServed, SlotState, lone_with}
use Rattle.xt_queue.specs.Passes.{PostView}

-- ---- an event
-- what holds, holds under a condition
pub always : {P Q : Type 0} → Q → P → Q
always q p = q

-- two facts, and three
pub pair : {P Q : Type 0} → P → Q → P × Q
pair p q = (p, q)

pub trio : {P Q R : Type 0} → P → Q → R → P × Q × R
trio p q r = (p, q, r)

-- what was booked in the same book and at the same seat, with its posts, is an event
pub event_from : (slot caller : ℕ) (x y : Step) (r q : Reply) (a b n z : BookView) (s t u : HostSeatView) (pass passed : PostView) → IsSameBook a b → IsSameSeat s t → IsBooked slot x r b n t u
    → x ≡ y → r ≡ q → caller ≡ u.caller → PostsBoth caller pass n passed z → IsEvent slot y q a z s u pass passed
event_from slot caller x y r q a b n z s t u pass passed book seat booked step reply who posts =
    subst (λ w. IsEvent slot w q a z s u pass passed) step
    (subst (λ w. IsEvent slot x w a z s u pass passed) reply (record {
      between = n;
      noted = u;
      booked = booked_from slot x r a b n s t u book seat booked;
      receipts = refl;
      caller = refl;
      posts = subst (λ c. PostsBoth c pass n passed z) (who ∙ booked.receipt.caller ∙ seat.caller) posts;
    }))

both : (a b : Bool) → a ≡ true → b ≡ true → (a && b) ≡ true
both true b p q = q
both false b p q = absurd (false≢true p)

-- ---- a mount
-- what a mount leaves, by its reply
pub record Mounts (r : Reply) (new old : Lone) : Type 0 where
  pub life : is_life r ≡ true
  pub last : (p : ℕ × ℕ) → is_last_of p old.last_life old.mounted ≡ true → is_last_of p new.last_life new.mounted ≡ true
  pub idle : is_flown_by_job old.mounted ≡ true → is_flown_by_job new.mounted ≡ true
  pub there : (n : ℕ) → r ≡ Life n → (is_some new.mounted ≡ true) × (has_log new.mounted ≡ true)
  pub kept : (e : Errno) → r ≡ Refused e → new.mounted ≡ old.mounted

-- only an empty slot is not refused
empty_if : (o : Option State) (rest : List (Bool × Errno)) → first_of ((is_some o, Busy) ∷ rest) ≡ None → o ≡ None
empty_if None rest e = refl
empty_if (Some m) rest e = absurd (none-some Busy (sym e))

-- of the first post of a new life the last one was of an earlier life
next_last : (p : ℕ × ℕ) (last_life serial : ℕ) → serial ≡ 0 → nat_le p.0 last_life ≡ true
    → ((last_life + 1 == last_life + 1) && (if serial == 0 then nat_lt p.0 (last_life + 1) else (p.0 == last_life + 1) && (p.1 == serial))) ≡ true
next_last p last_life serial zero before =
    both _ _ (eq-eqb (last_life + 1) (last_life + 1) refl)
    (subst (λ b. (if b then nat_lt p.0 (last_life + 1) else (p.0 == last_life + 1) && (p.1 == serial)) ≡ true) (sym (eq-eqb serial 0 zero))
    (let le = leb-true p.0 last_life before in lt-ltb p.0 (last_life + 1) (omega (arith, le))))

module _ (slot log_bytes blocks : ℕ) (size : Option ℕ) (s : Lone) where
  mounts_by : (e : Option Errno) → first_of (mount_refusals log_bytes blocks size s) ≡ e
      → Mounts (unless_refused e s (mounted_new slot log_bytes blocks size s)).reply (unless_refused e s (mounted_new slot log_bytes blocks size s)).slot s
  mounts_by None is = record {
    life = refl;
    last = λ p kept. next_last p s.last_life 0 refl (sym (ap (is_last_of p s.last_life) (empty_if s.mounted (drop 1 (mount_refusals log_bytes blocks size s)) is)) ∙ kept);
    idle = λ kept. refl;
    there = λ n e. (refl, refl);
    kept = λ e bad. absurd (false≢true (ap is_refusal bad));
  }
  mounts_by (Some errno) is = record {
    life = refl;
    last = λ p kept. kept;
    idle = λ kept. kept;
    there = λ n e. absurd (false≢true (sym (ap is_refusal e)));
    kept = λ e bad. refl;
  }

-- a mount that was served
pub mounts : (slot log_bytes blocks : ℕ) (size : Option ℕ) (r : Reply) (new old : SlotState) → IsServed (Mount slot log_bytes blocks size) r new old → Mounts r (lone_with 0 None new) (lone_with 0 None old)
mounts slot log_bytes blocks size r new old served =
    let s : Lone = lone_with 0 None old in
    subst (λ q. Mounts q (lone_with 0 None new) s) (sym (served.reply 0 None))
    (subst (λ l. Mounts (alone (Mount slot log_bytes blocks size) s).reply l s) (sym (served.state 0 None)) (mounts_by slot log_bytes blocks size s (first_of (mount_refusals log_bytes blocks size s)) refl))

-- ---- an unmount
-- it is answered ok, or refused
abbrev IsAnswered : Reply → Type 0
IsAnswered r = (r ≡ Okay) ⊎ ((e : Errno) × (r ≡ Refused e))

unmount_says : (b : Bool) (m : State) → IsAnswered (if b then gives (Refused Busy) m else gives Okay m).reply
unmount_says true m = inr (Busy, refl)
unmount_says false m = inl refl

module _ (slot life : ℕ) (answer : Answer) (s : Lone) where
  says_if : (b : Bool) (m : State) → IsAnswered (if b then called Unmount s (alone_with [] Unmount answer m) else turn (Refused Stale) s).reply
  says_if true m = unmount_says (is_in_use m) m
  says_if false m = inr (Stale, refl)

  says : (o : Option State) → IsAnswered (call [] life Unmount answer s o).reply
  says None = inr (NoDevice, refl)
  says (Some m) = says_if (m.life == life) m

-- without an outstanding job there is no flight
no_flight : (a : Bool) (o : Option ℕ) → o ≡ None → (a || is_some o) ≡ true → a ≡ true
no_flight true o none flown = refl
no_flight false o none flown = absurd (false≢true (sym (ap (λ p. is_some p) none) ∙ flown))

log_there : (o : Option State) → IsSomeAnd o IsIdle → is_flown_by_job o ≡ true → (is_some o ≡ true) × (has_log o ≡ true)
log_there None idle flown = absurd idle
log_there (Some m) idle flown = (refl, no_flight (is_none m.items.flight) m.jobs.ckpt idle.0 flown)

-- the last post was not of a later life
earlier : (p : ℕ × ℕ) (last_life life serial : ℕ) (b : Bool) → life ≡ last_life → (if b then nat_lt p.0 life else (p.0 == life) && (p.1 == serial)) ≡ true → nat_le p.0 last_life ≡ true
earlier p last_life life serial true same kept = let lt = ltb-true p.0 life kept in le-leb p.0 last_life (omega (arith, lt, same))
earlier p last_life life serial false same kept = let eq = eqb-true p.0 life (and_parts _ _ kept).0 in le-leb p.0 last_life (omega (arith, eq, same))

last_when_gone : (p : ℕ × ℕ) (last_life : ℕ) (o : Option State) → is_last_of p last_life o ≡ true → nat_le p.0 last_life ≡ true
last_when_gone p last_life None kept = kept
last_when_gone p last_life (Some m) kept =
    let parts = and_parts _ _ kept in
    earlier p last_life m.life m.jobs.last_serial (m.jobs.last_serial == 0) (eqb-true _ _ parts.0) parts.1

-- what an unmount leaves, by its reply
pub record Unmounts (r : Reply) (new old : SlotState) : Type 0 where
  pub done : is_done r ≡ true
  pub last : (p : ℕ × ℕ) → is_last_post p old ≡ true → is_last_post p new ≡ true
  pub idle : is_flown_by_job old.mounted ≡ true → is_flown_by_job new.mounted ≡ true
  pub gone : r ≡ Okay → is_flown_by_job old.mounted ≡ true → (is_some old.mounted ≡ true) × (has_log old.mounted ≡ true) × (new.mounted ≡ None)
  pub kept : (e : Errno) → r ≡ Refused e → (is_some new.mounted ≡ is_some old.mounted) × (has_log new.mounted ≡ has_log old.mounted)

module _ (slot life : ℕ) (answer : Answer) (r : Reply) (new old : SlotState) (served : IsServed (Call slot life Unmount answer) r new old) where
  same_last : new.last_life ≡ old.last_life
  same_last = ap (λ (l : Lone). l.last_life) (served.state 0 None) ∙ same_last_life slot life Unmount answer (lone_with 0 None old) old.mounted

  emptied : r ≡ Okay → new.mounted ≡ None
  emptied ok = ap (λ (l : Lone). l.mounted) (served.state 0 None) ∙ unmount_empties slot life answer (lone_with 0 None old) (sym (served.reply 0 None) ∙ ok)

  unmounts_by : IsAnswered r → Unmounts r new old
  unmounts_by (inl ok) =
      let none = emptied ok in
      record {
        done = ap is_done ok;
        last = λ p kept. ap (is_last_of p new.last_life) none ∙ ap (nat_le p.0) same_last ∙ last_when_gone p old.last_life old.mounted kept;
        idle = λ kept. ap is_flown_by_job none;
        gone = λ e flown. let was = log_there old.mounted (unmount_idle slot life answer (lone_with 0 None old) (sym (served.reply 0 None) ∙ ok)) flown in (was.0, was.1, none);
        kept = λ e bad. absurd (false≢true (sym (ap is_okay bad) ∙ ap is_okay ok));
      }
  unmounts_by (inr bad) =
      let stays : (is_unmount Unmount && is_okay r) ≡ false = ap is_okay bad.1 in
      record {
        done = ap is_done bad.1;
        last = call_last slot life Unmount answer r new old served stays;
        idle = call_idle slot life Unmount answer r new old served stays;
        gone = λ ok flown. absurd (false≢true (sym (ap is_okay bad.1) ∙ ap is_okay ok));
        kept = λ e is. (call_home slot life Unmount answer r new old served stays, call_log slot life Unmount answer r new old served stays);
      }

  unmounts : Unmounts r new old
  unmounts = unmounts_by (subst IsAnswered (sym (served.reply 0 None)) (says slot life answer (lone_with 0 None old) old.mounted))

-- an unmount that was served
pub unmounts_of : (slot life : ℕ) (answer : Answer) (x : Step) (r : Reply) (new old : SlotState) → x ≡ Call slot life Unmount answer → IsServed x r new old → Unmounts r new old
unmounts_of slot life answer x r new old is served = unmounts slot life answer r new old (subst (λ y. IsServed y r new old) is served)

pub none_left : (o : Option State) → is_some o ≡ false → o ≡ None
none_left None e = refl
none_left (Some m) e = absurd (false≢true (sym e))
