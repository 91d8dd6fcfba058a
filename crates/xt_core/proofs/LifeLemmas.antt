-- Over any step of a slot its life does not fall, and within a life the last serial does not: so a name that was given stays given.
use Rattle.std.proofs.Common.{◌≡◌, ◌∙◌, ◌⊎◌, ◌+◌, ◌<◌, ◌≤◌, ◌∷◌, Bool, List, None, Option, Some, [], ap, arith, false, inl, inr, refl, sym, true, ℕ}
use Rattle.std.proofs.lemmas.Bool.{and_parts, cases_Bool, eqb-true, false_from_ne_true, false≢true}
use Rattle.std.specs.Prelude.{if◌then◌else◌, ◌&&◌, ◌==◌, ◌||◌}
use Rattle.xt_core.proofs.NameLemmas.{AreAlike, alike}
use Rattle.xt_base.specs.Alone.{Turn, alone, call, called, goes_on, is_okay, mount, mount_refusals, mounted_new, on_mount, shown, step_with, turn, unless_refused, with_mount}
use Rattle.xt_base.specs.Calls.{Outcome, alone_with, first_of, is_unmount, log}
use Rattle.xt_base.specs.Jobs.{begin, end, end_offers, flush, flush_offers, is_owed_as, posted}
use Rattle.xt_base.specs.Order.{is_among, mount_is, same_name}
use Rattle.xt_base.specs.Owed.{is_owed}
use Rattle.xt_base.specs.Own.{IsOwnIn, IsOwnOf}
use Rattle.xt_base.specs.Settle.{Dropped}
use Rattle.xt_base.specs.Sound.{Each}
use Rattle.xt_base.specs.State.{Lone, State}
use Rattle.xt_base.specs.Steps.{slot_of}
use Rattle.xt_base.specs.declared.names.JobKind.{JobKind}
use Rattle.xt_base.specs.declared.names.JobName.{JobName}
use Rattle.xt_base.specs.declared.steps.Answer.{Answer}
use Rattle.xt_base.specs.declared.steps.Errno.{Errno}
use Rattle.xt_base.specs.declared.steps.Errno.TheVariants.{Stale}
use Rattle.xt_base.specs.declared.steps.HomeOffer.{HomeOffer}
use Rattle.xt_base.specs.declared.steps.LogOffer.{LogOffer}
use Rattle.xt_base.specs.declared.steps.Reason.{Reason}
use Rattle.xt_base.specs.declared.steps.Reply.TheVariants.{Okay, Refused}
use Rattle.xt_base.specs.declared.steps.Request.{Request}
use Rattle.xt_base.specs.declared.steps.Step.{Step}
use Rattle.xt_base.specs.declared.steps.Step.TheVariants.{Begin, Call, End, Flush, Mount, Peek, Post, Show, Take}
use Rattle.xt_base.proofs.SameLemmas.{IsSameLife, same_begin, same_call, same_end, same_flush, same_life}

-- ---- any step of a slot
-- a name of an earlier life, or of a serial that was given
abbrev pub IsGivenIn : ℕ → Option State → JobName → Type 0
IsGivenIn last None n = n.life ≤ last
IsGivenIn last (Some m) n = (n.life < m.life) ⊎ ((n.life ≡ m.life) × (n.serial ≤ m.jobs.last_serial))

-- the same of a slot's state
abbrev pub IsGiven : Lone → JobName → Type 0
IsGiven s n = IsGivenIn s.last_life s.mounted n

-- what each step of a slot keeps: the mount is its own, and given names stay given
pub record IsLater (slot : ℕ) (s t : Lone) : Type 0 where
  pub own : IsOwnOf slot t
  pub given : (n : JobName) → IsGiven s n → IsGiven t n

-- nothing changed
later_same : (slot : ℕ) (s : Lone) → IsOwnOf slot s → IsLater slot s s
later_same slot s own = record { own = own; given = λ n h. h }

-- a slot by its parts
abbrev lone_of : ℕ → ℕ → Option Reason → Option State → Lone
lone_of last life reason o = record { last_life = last; seen_life = life; seen_reason = reason; mounted = o }

later_unless : (slot : ℕ) (s : Lone) (r : Option Errno) (t : Turn) → IsOwnOf slot s → IsLater slot s t.slot → IsLater slot s (unless_refused r s t).slot
later_unless slot s None t own h = h
later_unless slot s (Some e) t own h = later_same slot s own

later_either : (slot : ℕ) (s : Lone) (b : Bool) (x y : Turn) → IsLater slot s x.slot → IsLater slot s y.slot → IsLater slot s (if b then x else y).slot
later_either slot s true x y hx hy = hx
later_either slot s false x y hx hy = hy

module _ (slot last life : ℕ) (reason : Option Reason) where
  later_mount : (log_bytes blocks : ℕ) (size : Option ℕ) (o : Option State) → IsOwnIn slot last o → IsLater slot (lone_of last life reason o) (mount slot log_bytes blocks size (lone_of last life reason o)).slot
  later_mount log_bytes blocks size (Some m) own = later_same slot (lone_of last life reason (Some m)) own
  later_mount log_bytes blocks size None own =
      later_unless slot (lone_of last life reason None) (first_of (mount_refusals log_bytes blocks size (lone_of last life reason None))) (mounted_new slot log_bytes blocks size (lone_of last life reason None)) own
      (record { own = (refl, refl); given = λ n h. inl (let old : n.life ≤ last = h in omega arith) })

  later_gone : (m : State) → m.life ≡ last → IsLater slot (lone_of last life reason (Some m)) (lone_of last life reason None)
  later_gone m e = record { own = tt; given = λ n h. elim h [ inl old ↦ omega (arith, e, old) | inr now ↦ omega (arith, e, now.0) ] }

  later_still : (m u : State) → IsOwnIn slot last (Some m) → IsSameLife m u → IsLater slot (lone_of last life reason (Some m)) (lone_of last life reason (Some u))
  later_still m u own e = record {
    own = (e.slot ∙ own.0, e.life ∙ own.1);
    given = λ n h. elim h [ inl old ↦ inl (omega (arith, e.life, old)) | inr now ↦ inr (now.0 ∙ sym e.life, omega (arith, e.serial, now.1)) ];
  }

  later_after : (m u : State) (b : Bool) → IsOwnIn slot last (Some m) → IsSameLife m u → IsLater slot (lone_of last life reason (Some m)) (lone_of last life reason (if b then None else Some u))
  later_after m u true own e = later_gone m own.1
  later_after m u false own e = later_still m u own e

  later_call : (dropped : Dropped) (of_life : ℕ) (request : Request) (answer : Answer) (o : Option State) → IsOwnIn slot last o
      → IsLater slot (lone_of last life reason o) (call dropped of_life request answer (lone_of last life reason o) o).slot
  later_call dropped of_life request answer None own = later_same slot (lone_of last life reason None) own
  later_call dropped of_life request answer (Some m) own =
      let s = lone_of last life reason (Some m) in
      let answered = alone_with dropped request answer m in
      later_either slot s (m.life == of_life) (called request s answered) (turn (Refused Stale) s)
      (later_after m answered.state (is_unmount request && is_okay answered.reply) own (same_life m answered.state (same_call m dropped request answer))) (later_same slot s own)

  later_post : (kind : JobKind) (o : Option State) → IsOwnIn slot last o
      → IsLater slot (lone_of last life reason o) (on_mount o (lone_of last life reason o) (λ m. turn Okay (with_mount (posted kind m) (lone_of last life reason o)))).slot
  later_post kind None own = later_same slot (lone_of last life reason None) own
  later_post JobKind.Ckpt (Some m) own = record { own = own; given = λ n h. elim h [ inl old ↦ inl old | inr now ↦ inr (now.0, omega (arith, now.1)) ] }
  later_post JobKind.Flush (Some m) own = record { own = own; given = λ n h. elim h [ inl old ↦ inl old | inr now ↦ inr (now.0, omega (arith, now.1)) ] }

  later_job : (f : State → Outcome) (log : State → List LogOffer) (home : State → List HomeOffer) (o : Option State) → IsOwnIn slot last o → ((m : State) → IsSameLife m (f m).state)
      → IsLater slot (lone_of last life reason o) (on_mount o (lone_of last life reason o) (λ m. goes_on (f m) (log m) (home m) (lone_of last life reason o))).slot
  later_job f log home None own h = later_same slot (lone_of last life reason None) own
  later_job f log home (Some m) own h = later_still m (f m).state own (h m)

  later_show : (o : Option State) → IsOwnIn slot last o → IsLater slot (lone_of last life reason o) (shown o (lone_of last life reason o))
  later_show None own = later_same slot (lone_of last life reason None) own
  later_show (Some m) own = record { own = own; given = λ n h. h }

-- over any step of a slot its life does not fall, and within a life not the last serial
pub later_step : (dropped : Dropped) (x : Step) (s : Lone) → IsOwnOf (slot_of x) s → IsLater (slot_of x) s (step_with dropped x s).slot
later_step dropped (Mount slot log_bytes blocks size) s own = later_mount slot s.last_life s.seen_life s.seen_reason log_bytes blocks size s.mounted own
later_step dropped (Call slot life request answer) s own = later_call slot s.last_life s.seen_life s.seen_reason dropped life request answer s.mounted own
later_step dropped (Post name) s own = later_post name.slot s.last_life s.seen_life s.seen_reason name.kind s.mounted own
later_step dropped (Take worker name) s own = later_same name.slot s own
later_step dropped (Begin worker name) s own = later_job name.slot s.last_life s.seen_life s.seen_reason begin (λ m. []) (λ m. []) s.mounted own same_begin
later_step dropped (End worker name answers) s own =
    later_job name.slot s.last_life s.seen_life s.seen_reason (end dropped answers) (end_offers answers) (λ m. []) s.mounted own (λ m. same_end m dropped answers)
later_step dropped (Flush worker name answers) s own =
    later_job name.slot s.last_life s.seen_life s.seen_reason (flush dropped answers) (λ m. []) (flush_offers answers) s.mounted own (λ m. same_life m (flush dropped answers m).state (same_flush m dropped answers))
later_step dropped (Show slot) s own = later_show slot s.last_life s.seen_life s.seen_reason s.mounted own
later_step dropped (Peek slot) s own = later_same slot s own

-- ---- an owed name is new
not_given : (last : ℕ) (o : Option State) (n p : JobName) → IsGivenIn last o p → mount_is (is_owed_as n) o ≡ true → same_name n p ≡ false
not_given last None n p given owed = absurd (false≢true owed)
not_given last (Some m) n p given owed =
    let parts = and_parts ((n.life == m.life) && (n.serial == m.jobs.last_serial + 1)) (is_owed n.kind m) owed in
    let number = and_parts (n.life == m.life) (n.serial == m.jobs.last_serial + 1) parts.0 in
    let life : n.life ≡ m.life = eqb-true n.life m.life number.0 in
    let serial : n.serial ≡ m.jobs.last_serial + 1 = eqb-true n.serial (m.jobs.last_serial + 1) number.1 in
    false_from_ne_true (same_name n p) (λ one.
    let e : AreAlike n p = alike n p one in
    elim given [ inl old ↦ omega (arith, old, life, e.life) | inr now ↦ omega (arith, now.1, serial, e.serial) ])

-- a name that is owed is not among names of its slot that were given
pub fresh : (s : Lone) (n : JobName) (names : List JobName) → Each (λ p. p.slot ≡ n.slot → IsGiven s p) names → mount_is (is_owed_as n) s.mounted ≡ true → is_among names n ≡ false
fresh s n [] all owed = refl
fresh s n (p ∷ ps) all owed =
    elim (cases_Bool (same_name n p)) [
      | inl one ↦
          let e : AreAlike n p = alike n p one in
          absurd (false≢true (sym (not_given s.last_life s.mounted n p (all.0 (sym e.slot)) owed) ∙ one))
      | inr other ↦ ap (λ b. b || is_among ps n) other ∙ fresh s n ps all.1 owed
    ]

given_last : (last : ℕ) (n : JobName) (m : State) (kind : JobKind) → n.life ≡ m.life → n.serial ≡ m.jobs.last_serial + 1 → IsGivenIn last (Some (posted kind m)) n
given_last last n m JobKind.Ckpt life serial = inr (life, omega (arith, serial))
given_last last n m JobKind.Flush life serial = inr (life, omega (arith, serial))

given_in : (last life : ℕ) (reason : Option Reason) (n : JobName) (o : Option State) → mount_is (is_owed_as n) o ≡ true
    → IsGiven (on_mount o (lone_of last life reason o) (λ m. turn Okay (with_mount (posted n.kind m) (lone_of last life reason o)))).slot n
given_in last life reason n None owed = absurd (false≢true owed)
given_in last life reason n (Some m) owed =
    let parts = and_parts ((n.life == m.life) && (n.serial == m.jobs.last_serial + 1)) (is_owed n.kind m) owed in
    let number = and_parts (n.life == m.life) (n.serial == m.jobs.last_serial + 1) parts.0 in
    given_last last n m n.kind (eqb-true n.life m.life number.0) (eqb-true n.serial (m.jobs.last_serial + 1) number.1)

-- once it is posted it was given
pub given_once_posted : (s : Lone) (n : JobName) → mount_is (is_owed_as n) s.mounted ≡ true → IsGiven (alone (Post n) s).slot n
given_once_posted s n owed = given_in s.last_life s.seen_life s.seen_reason n s.mounted owed
