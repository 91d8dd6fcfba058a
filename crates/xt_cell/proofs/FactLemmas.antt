-- What a locked slot keeps beside its book stays so over each event.
use Rattle.std.proofs.Common.{[], nat_le, Bool, None, Option, Some, ap, arith, false, inl, inr, refl, subst, sym, true, ℕ, ◌+◌, ◌<◌, ◌∙◌, ◌≡◌}
use Rattle.std.proofs.lemmas.Bool.{and_parts, eq-eqb, eqb-true, false≢true, ltb-true, ne_eqb}
use Rattle.std.specs.Prelude.{if◌then◌else◌, is_none, is_some, nat_lt, ◌&&◌, ◌==◌, ◌||◌}
use Rattle.xt_base.proofs.CarryLemmas.{Numbers, numbers_of, step_keeps_numbers}
use Rattle.xt_base.specs.Alone.{call, called, is_okay, on_mount, turn, with_mount}
use Rattle.xt_base.specs.Calls.{alone_with, is_unmount}
use Rattle.xt_base.specs.Jobs.{flight_pieces, is_owed_as, posted}
use Rattle.xt_base.specs.Order.{mount_is}
use Rattle.xt_base.specs.State.{Lone, State}
use Rattle.xt_base.specs.declared.names.JobKind.{JobKind}
use Rattle.xt_base.specs.declared.names.JobKind.TheVariants.{Ckpt, Flush}
use Rattle.xt_base.specs.declared.names.JobName.{JobName}
use Rattle.xt_base.specs.declared.steps.Answer.{Answer}
use Rattle.xt_base.specs.declared.steps.Errno.TheVariants.{Stale}
use Rattle.xt_base.specs.declared.steps.Reply.{Reply}
use Rattle.xt_base.specs.declared.steps.Reply.TheVariants.{Okay, Refused}
use Rattle.xt_base.specs.declared.steps.Request.{Request}
use Rattle.xt_base.specs.declared.steps.Step.TheVariants.{Call, Post}
use Rattle.xt_cell.specs.Facts.{has_log, is_flown_by_job, is_last_of, is_last_post}
use Rattle.xt_mount.specs.Slots.{IsServed, SlotState, lone_with, pieces_in}
use Rattle.xt_queue.specs.Names.{MayFollow}

-- a job that is owed may follow the last post
follows_if : (last : ℕ × ℕ) (last_life : ℕ) (name : JobName) (o : Option State) → is_last_of last last_life o ≡ true → mount_is (is_owed_as name) o ≡ true → MayFollow last name
follows_if last last_life name None kept owed = absurd (false≢true owed)
follows_if last last_life name (Some m) kept owed =
    let is = and_parts _ _ (and_parts _ _ owed).0 in
    by (m.jobs.last_serial == 0) refl (and_parts _ _ kept).1 (eqb-true _ _ is.0) (eqb-true _ _ is.1)
  where
    by : (b : Bool) → (m.jobs.last_serial == 0) ≡ b → (if b then nat_lt last.0 m.life else (last.0 == m.life) && (last.1 == m.jobs.last_serial)) ≡ true
        → name.life ≡ m.life → name.serial ≡ m.jobs.last_serial + 1 → MayFollow last name
    by true zero before life serial = inr (let lt = ltb-true _ _ before in omega (arith, lt, life), let z = eqb-true _ _ zero in omega (arith, z, serial))
    by false zero before life serial = let p = and_parts _ _ before in inl (life ∙ sym (eqb-true _ _ p.0), let q = eqb-true _ _ p.1 in omega (arith, serial, q))

pub follows : (last : ℕ × ℕ) (s : SlotState) (name : JobName) → is_last_post last s ≡ true → mount_is (is_owed_as name) s.mounted ≡ true → MayFollow last name
follows last s name kept owed = follows_if last s.last_life name s.mounted kept owed

-- the slot after a post
abbrev posted_to : JobName → Lone → Option State → Lone
posted_to name l o = (on_mount o l (λ m. turn Okay (with_mount (posted name.kind m) l))).slot

and_true : (a b : Bool) → a ≡ true → b ≡ true → (a && b) ≡ true
and_true true b p q = q
and_true false b p q = absurd (false≢true p)

-- of each kind of post: the same flight and life, the next serial
same_flight : (k : JobKind) (m : State) → (posted k m).items.flight ≡ m.items.flight
same_flight Ckpt m = refl
same_flight Flush m = refl

same_life : (k : JobKind) (m : State) → (posted k m).life ≡ m.life
same_life Ckpt m = refl
same_life Flush m = refl

next_serial : (k : JobKind) (m : State) → (posted k m).jobs.last_serial ≡ m.jobs.last_serial + 1
next_serial Ckpt m = refl
next_serial Flush m = refl

idle_after : (k : JobKind) (m : State) → is_flown_by_job (Some m) ≡ true → is_flown_by_job (Some (posted k m)) ≡ true
idle_after Ckpt m kept = or_true (is_none m.items.flight)
  where
    or_true : (a : Bool) → (a || true) ≡ true
    or_true true = refl
    or_true false = refl
idle_after Flush m kept = kept

last_if : (name : JobName) (last : ℕ × ℕ) (last_life : ℕ) (o : Option State) (l : Lone) → l.last_life ≡ last_life → is_last_of last last_life o ≡ true → mount_is (is_owed_as name) o ≡ true
    → is_last_of (name.life, name.serial) (posted_to name l o).last_life (posted_to name l o).mounted ≡ true
last_if name last last_life None l same kept owed = absurd (false≢true owed)
last_if name last last_life (Some m) l same kept owed =
    let is = and_parts _ _ (and_parts _ _ owed).0 in
    let life = eqb-true _ _ is.0 in
    let serial = eqb-true _ _ is.1 in
    let own = eqb-true _ _ (and_parts _ _ kept).0 in
    after name.life name.serial (posted name.kind m).life (posted name.kind m).jobs.last_serial l.last_life
    (same_life name.kind m ∙ own ∙ sym same) (life ∙ sym (same_life name.kind m)) (serial ∙ sym (next_serial name.kind m)) (let n = next_serial name.kind m in omega (arith, n))
  where
    after : (a b life serial own : ℕ) → life ≡ own → a ≡ life → b ≡ serial → 0 < serial → ((life == own) && (if serial == 0 then nat_lt a life else (a == life) && (b == serial))) ≡ true
    after a b life serial own e f g some =
        and_true _ _ (eq-eqb life own e)
        (subst (λ z. (if z then nat_lt a life else (a == life) && (b == serial)) ≡ true) (sym (ne_eqb serial 0 (λ zero. absurd (omega (arith, zero, some))))) (and_true _ _ (eq-eqb a life f) (eq-eqb b serial g)))

home_if : (name : JobName) (l : Lone) (o : Option State) → l.mounted ≡ o → is_some (posted_to name l o).mounted ≡ is_some o
home_if name l None e = ap (λ (p : Option State). is_some p) e
home_if name l (Some m) e = refl

log_if : (name : JobName) (l : Lone) (o : Option State) → l.mounted ≡ o → has_log (posted_to name l o).mounted ≡ has_log o
log_if name l None e = ap has_log e
log_if name l (Some m) e = ap (λ f. is_none f) (same_flight name.kind m)

idle_if : (name : JobName) (l : Lone) (o : Option State) → l.mounted ≡ o → is_flown_by_job o ≡ true → is_flown_by_job (posted_to name l o).mounted ≡ true
idle_if name l None e kept = ap is_flown_by_job e ∙ kept
idle_if name l (Some m) e kept = idle_after name.kind m kept

pieces_if : (name : JobName) (l : Lone) (o : Option State) → l.mounted ≡ o → pieces_in (posted_to name l o).mounted ≡ pieces_in o
pieces_if name l None e = ap pieces_in e
pieces_if name l (Some m) e = ap flight_pieces (same_flight name.kind m)

module _ (name : JobName) (new old : SlotState) (served : IsServed (Post name) Okay new old) where
  is : lone_with 0 None new ≡ posted_to name (lone_with 0 None old) old.mounted
  is = served.state 0 None

  pub posted_last : (last : ℕ × ℕ) → is_last_post last old ≡ true → mount_is (is_owed_as name) old.mounted ≡ true → is_last_post (name.life, name.serial) new ≡ true
  posted_last last kept owed =
      ap (λ (l : Lone). is_last_of (name.life, name.serial) l.last_life l.mounted) is ∙ last_if name last old.last_life old.mounted (lone_with 0 None old) refl kept owed

  pub posted_home : is_some new.mounted ≡ is_some old.mounted
  posted_home = ap (λ (l : Lone). is_some l.mounted) is ∙ home_if name (lone_with 0 None old) old.mounted refl

  pub posted_log : has_log new.mounted ≡ has_log old.mounted
  posted_log = ap (λ (l : Lone). has_log l.mounted) is ∙ log_if name (lone_with 0 None old) old.mounted refl

  pub posted_idle : is_flown_by_job old.mounted ≡ true → is_flown_by_job new.mounted ≡ true
  posted_idle kept = ap (λ (l : Lone). is_flown_by_job l.mounted) is ∙ idle_if name (lone_with 0 None old) old.mounted refl kept

  pub posted_pieces : pieces_in new.mounted ≡ pieces_in old.mounted
  posted_pieces = ap (λ (l : Lone). pieces_in l.mounted) is ∙ pieces_if name (lone_with 0 None old) old.mounted refl

-- ---- a call
-- what is kept, by the numbers of the mount
abbrev last_by : ℕ × ℕ → ℕ → Option Numbers → Bool
last_by last last_life None = nat_le last.0 last_life
last_by last last_life (Some n) = (n.life == last_life) && (if n.last_serial == 0 then nat_lt last.0 n.life else (last.0 == n.life) && (last.1 == n.last_serial))

abbrev log_by : Option Numbers → Bool
log_by None = false
log_by (Some n) = is_none n.flight

abbrev idle_by : Option Numbers → Bool
idle_by None = true
idle_by (Some n) = is_none n.flight || is_some n.ckpt

last_is : (last : ℕ × ℕ) (last_life : ℕ) (o : Option State) → is_last_of last last_life o ≡ last_by last last_life (numbers_of o)
last_is last last_life None = refl
last_is last last_life (Some m) = refl

log_is : (o : Option State) → has_log o ≡ log_by (numbers_of o)
log_is None = refl
log_is (Some m) = refl

idle_is : (o : Option State) → is_flown_by_job o ≡ idle_by (numbers_of o)
idle_is None = refl
idle_is (Some m) = refl

home_is : (o : Option State) → is_some o ≡ is_some (numbers_of o)
home_is None = refl
home_is (Some m) = refl

pub same_last_life : (slot life : ℕ) (request : Request) (answer : Answer) (s : Lone) (o : Option State) → (call [] life request answer s o).slot.last_life ≡ s.last_life
same_last_life slot life request answer s None = refl
same_last_life slot life request answer s (Some m) = by (m.life == life)
  where
    by : (b : Bool) → (if b then called request s (alone_with [] request answer m) else turn (Refused Stale) s).slot.last_life ≡ s.last_life
    by true = refl
    by false = refl

module _ (slot life : ℕ) (request : Request) (answer : Answer) (r : Reply) (new old : SlotState) (served : IsServed (Call slot life request answer) r new old) (stays : (is_unmount request && is_okay r) ≡ false) where
  same_numbers : numbers_of new.mounted ≡ numbers_of old.mounted
  same_numbers =
      ap (λ (l : Lone). numbers_of l.mounted) (served.state 0 None)
      ∙ step_keeps_numbers slot life request answer (lone_with 0 None old) (ap (λ q. is_unmount request && is_okay q) (sym (served.reply 0 None)) ∙ stays)

  same_life_after : new.last_life ≡ old.last_life
  same_life_after = ap (λ (l : Lone). l.last_life) (served.state 0 None) ∙ same_last_life slot life request answer (lone_with 0 None old) old.mounted

  pub call_last : (last : ℕ × ℕ) → is_last_post last old ≡ true → is_last_post last new ≡ true
  call_last last kept =
      last_is last new.last_life new.mounted ∙ ap (λ l. last_by last l (numbers_of new.mounted)) same_life_after ∙ ap (last_by last old.last_life) same_numbers
      ∙ sym (last_is last old.last_life old.mounted) ∙ kept

  pub call_home : is_some new.mounted ≡ is_some old.mounted
  call_home = home_is new.mounted ∙ ap (λ n. is_some n) same_numbers ∙ sym (home_is old.mounted)

  pub call_log : has_log new.mounted ≡ has_log old.mounted
  call_log = log_is new.mounted ∙ ap log_by same_numbers ∙ sym (log_is old.mounted)

  pub call_idle : is_flown_by_job old.mounted ≡ true → is_flown_by_job new.mounted ≡ true
  call_idle kept = idle_is new.mounted ∙ ap idle_by same_numbers ∙ sym (idle_is old.mounted) ∙ kept
