-- A run of the host: what it told is what each slot would have been told alone, and the steps of each slot are orderly by themselves.
use Rattle.std.proofs.Common.{◌≡◌, ◌≢◌, ◌∙◌, ◌+◌, ◌<◌, ◌≤◌, ◌++◌, ◌∷◌, List, None, Option, [], ap, false, get_or, inl, inr, length, refl, subst, sym, take, true, ℕ}
use Rattle.std.proofs.lemmas.Bool.{cases_Bool, false≢true}
use Rattle.std.proofs.lemmas.List.{append-nil, take_all, take_more}
use Rattle.std.proofs.lemmas.Option.{get_or_from_slice_get}
use Rattle.std.specs.Prelude.{if◌then◌else◌, ◌&&◌}
use Rattle.xt_base.specs.Alone.{Said, after, alone, alone_run, reason_of, said_of, shut_after}
use Rattle.xt_base.specs.Isolation.{BreaksAt, IsAlone, Tells, Told, events, is_no_memory, is_refused, told_refused, told_taken, untold}
use Rattle.xt_base.specs.Order.{Event, fits, of_slot, orderly, state_of, steps_of, told, told_from}
use Rattle.xt_base.specs.State.{Lone, empty}
use Rattle.xt_base.specs.Steps.{slot_of, strike}
use Rattle.xt_base.specs.declared.steps.HomeOffer.{HomeOffer}
use Rattle.xt_base.specs.declared.steps.LogOffer.{LogOffer}
use Rattle.xt_base.specs.declared.steps.Reason.{Reason}
use Rattle.xt_base.specs.declared.steps.Reply.{Reply}
use Rattle.xt_base.specs.declared.steps.Step.{Step}
use Rattle.xt_core.proofs.FitsLemmas.{fits_is}
use Rattle.xt_core.proofs.CellLemmas.{by_false, by_true}
use Rattle.xt_core.proofs.OrderLemmas.{events_more, of_slot_other, of_slot_own, orderly_more, strike_other, strike_own, told_more}
use Rattle.xt_core.proofs.RunLemmas.{IsAfter, after_none, after_refused, after_taken, after_tells, breaks_fits, breaks_whole, by_slot, happened_now, run_alike, run_hands, still}
use Rattle.xt_core.proofs.StruckLemmas.{fits_of_slot, of_slot_twice, orderly_take, strike_twice}
use Rattle.xt_core.specs.Host.{Host, IsKept, IsNew, IsTaken, hand_at, lone_of, may_come}
use Rattle.xt_core.specs.Runs.{AreStruckOrderly, GivesSame, IsMore, IsSaid, IsSameFor}
use Rattle.xt_core.specs.Turns.{queue_after}

-- ---- two runs
-- a slot whose steps are the same in two lists is told the same
pub two_runs : (m : ℕ) (xs ys : List Step) (o p : Told) → Tells xs o → Tells ys p → strike xs m ≡ strike ys m → is_refused m o ≡ false → is_refused m p ≡ false → IsSameFor m o p
two_runs m xs ys o p told_o told_p same n k =
    let a : IsAlone m xs o = told_o.alone m n in
    let b : IsAlone m ys p = told_p.alone m k in
    record { turns = a.turns ∙ ap alone_run same ∙ sym b.turns; shut = a.shut ∙ ap shut_after same ∙ sym b.shut }

-- so a run of its steps alone tells it the same
pub gives_same : (xs : List Step) (o : Told) → Tells xs o → GivesSame xs o
gives_same xs o told_o m p told_p n k = two_runs m xs (strike xs m) o p told_o told_p (sym (strike_twice xs m)) n k

-- ---- what holds after some steps
pub record IsHostRun (done : List Step) (o : Told) (host : Host) : Type 0 where
  pub run : IsAfter done (events done o.turns) o host.queue (hand_at host) (lone_of host)
  pub struck : AreStruckOrderly done o
  pub retold : (m : ℕ) → is_refused m o ≡ false → told_from [] (strike done m) ≡ of_slot m (events done o.turns)

-- before any step
pub host_none : (host : Host) → IsNew host → IsHostRun [] untold host
host_none host isnew = record {
  run =
      subst (λ q. IsAfter [] [] untold q (hand_at host) (lone_of host)) (sym isnew.queue)
      (run_hands [] [] untold [] (λ w. None) (hand_at host) (lone_of host) isnew.hands (run_alike [] [] untold [] (λ w. None) (λ m. empty) (lone_of host) (λ m. sym (isnew.slots m)) after_none));
  struck = λ m n. refl;
  retold = λ m n. refl;
}

module _ (done : List Step) (o : Told) (old : Host) (a : IsHostRun done o old) (x : Step) where
  -- ---- a step that was refused memory
  event_none : (t : Said) → is_no_memory t.reply ≡ true → events (done ++ x ∷ []) (o.turns ++ t ∷ []) ≡ events done o.turns
  event_none t refused =
      events_more done o.turns x t a.run.slots ∙ ap (λ b. events done o.turns ++ (if b then [] else record { step = x; reply = t.reply } ∷ [])) refused
      ∙ append-nil (events done o.turns)

  host_refused : (t : Said) (new : Host) → IsKept x new old → slot_of x < 16 → t.slot ≡ slot_of x → is_no_memory t.reply ≡ true
      → IsHostRun (done ++ x ∷ []) (told_refused o t (reason_of (lone_of new (slot_of x)).mounted)) new
  host_refused t new kept small here refused =
      let why : Option Reason = reason_of (lone_of new (slot_of x)).mounted in
      let h : List Event = events done o.turns in
      let run : IsAfter (done ++ x ∷ []) h (told_refused o t why) old.queue (hand_at new) (lone_of old) =
      after_refused done h o old.queue (hand_at old) (lone_of old) x a.run t why small here (hand_at new) refused kept.hands (ap (λ (s : Lone). reason_of s.mounted) (kept.slots (slot_of x))) in
      let other : (m : ℕ) → is_refused m (told_refused o t why) ≡ false → (slot_of x ≢ m) × (is_refused m o ≡ false) =
      still done h o old.queue (hand_at old) (lone_of old) x a.run t why small here in
      record {
        run =
            happened_now (done ++ x ∷ []) h (told_refused o t why) new.queue (hand_at new) (lone_of new)
            (subst (λ q. IsAfter (done ++ x ∷ []) h (told_refused o t why) q (hand_at new) (lone_of new)) (sym kept.queue)
            (run_alike (done ++ x ∷ []) h (told_refused o t why) old.queue (hand_at new) (lone_of old) (lone_of new) (λ m. sym (kept.slots m)) run));
        struck = λ m n. ap orderly (strike_other done x m (other m n).0) ∙ a.struck m (other m n).1;
        retold = λ m n. ap (told_from []) (strike_other done x m (other m n).0) ∙ a.retold m (other m n).1 ∙ ap (of_slot m) (sym (event_none t refused));
      }

  -- ---- a step that was taken
  event_one : (t : Said) → is_no_memory t.reply ≡ false → events (done ++ x ∷ []) (o.turns ++ t ∷ []) ≡ events done o.turns ++ record { step = x; reply = t.reply } ∷ []
  event_one t went =
      events_more done o.turns x t a.run.slots ∙ ap (λ b. events done o.turns ++ (if b then [] else record { step = x; reply = t.reply } ∷ [])) went

  -- the step fits the events of its slot alone
  fits_struck : may_come old x ≡ true → is_refused (slot_of x) o ≡ false → fits (of_slot (slot_of x) (events done o.turns)) x ≡ true
  fits_struck may n =
      let h : List Event = events done o.turns in
      fits_of_slot h old.queue (hand_at old) x a.run.turn (fits_is h old.queue (hand_at old) (lone_of old (slot_of x)) x a.run.turn (a.run.below (slot_of x)) (a.run.state (slot_of x) n) ∙ may)

  struck_more : may_come old x ≡ true → is_refused (slot_of x) o ≡ false → orderly (strike (done ++ x ∷ []) (slot_of x)) ≡ true
  struck_more may n =
      let m : ℕ = slot_of x in
      ap orderly (strike_own done x) ∙ orderly_more [] (strike done m) x ∙ ap (λ b. b && fits (told_from [] (strike done m)) x) (a.struck m n)
      ∙ ap (λ g. fits g x) (a.retold m n) ∙ fits_struck may n

  retold_more : (t : Said) → t.reply ≡ (alone x (lone_of old (slot_of x))).reply → is_no_memory t.reply ≡ false → is_refused (slot_of x) o ≡ false
      → told_from [] (strike (done ++ x ∷ []) (slot_of x)) ≡ of_slot (slot_of x) (events (done ++ x ∷ []) (o.turns ++ t ∷ []))
  retold_more t says went n =
      let m : ℕ = slot_of x in
      let h : List Event = events done o.turns in
      let state : lone_of old m ≡ state_of m (of_slot m h) = a.run.state m n ∙ ap (λ g. after (steps_of g) empty) (sym (of_slot_twice m h)) in
      ap (told_from []) (strike_own done x) ∙ told_more [] (strike done m) x ∙ ap (λ g. g ++ told g x ∷ []) (a.retold m n)
      ∙ ap (λ r. of_slot m h ++ record { step = x; reply = r } ∷ []) (sym (says ∙ ap (λ s. (alone x s).reply) state))
      ∙ sym (of_slot_own h (record { step = x; reply = t.reply })) ∙ ap (of_slot m) (sym (event_one t went))

  host_taken : (t : Said) (new : Host) → may_come old x ≡ true → IsTaken x t.reply new old → t ≡ said_of x (alone x (lone_of old (slot_of x))) → slot_of x < 16 → is_no_memory t.reply ≡ false
      → IsHostRun (done ++ x ∷ []) (told_taken o t (reason_of (lone_of new (slot_of x)).mounted)) new
  host_taken t new may taken said small went =
      let why : Option Reason = reason_of (lone_of new (slot_of x)).mounted in
      let h : List Event = events done o.turns in
      let run : IsAfter (done ++ x ∷ []) (h ++ record { step = x; reply = t.reply } ∷ []) (told_taken o t why) (queue_after x old.queue) (hand_at new) (lone_of new) =
      after_taken done h o old.queue (hand_at old) (lone_of old) x a.run t (lone_of new) said may taken.slot taken.others (hand_at new) why small went taken.hands refl in
      record {
        run =
            happened_now (done ++ x ∷ []) (h ++ record { step = x; reply = t.reply } ∷ []) (told_taken o t why) new.queue (hand_at new) (lone_of new)
            (subst (λ q. IsAfter (done ++ x ∷ []) (h ++ record { step = x; reply = t.reply } ∷ []) (told_taken o t why) q (hand_at new) (lone_of new)) (sym taken.queue) run);
        struck = by_slot (slot_of x) (λ m. is_refused m o ≡ false → orderly (strike (done ++ x ∷ []) m) ≡ true)
            (struck_more may) (λ m other n. ap orderly (strike_other done x m other) ∙ a.struck m n);
        retold = by_slot (slot_of x) (λ m. is_refused m o ≡ false → told_from [] (strike (done ++ x ∷ []) m) ≡ of_slot m (events (done ++ x ∷ []) (o.turns ++ t ∷ [])))
            (retold_more t taken.reply went)
            (λ m other n.
            ap (told_from []) (strike_other done x m other) ∙ a.retold m n
            ∙ sym (of_slot_other h (record { step = x; reply = t.reply }) m other) ∙ ap (of_slot m) (sym (event_one t went)));
      }

-- ---- one more step
said : ℕ → Reply → List LogOffer → List HomeOffer → Said
said slot reply log home = record { slot = slot; reply = reply; log = log; home = home }

said_is : (x : Step) (t : Said) (new old : Host) → IsSaid x t new old → is_no_memory t.reply ≡ false → IsTaken x t.reply new old → t ≡ said_of x (alone x (lone_of old (slot_of x)))
unfolding said
said_is x t new old s went taken =
    let s0 : Lone = lone_of old (slot_of x) in
    let one : said t.slot t.reply t.log t.home ≡ said (slot_of x) (alone x s0).reply (alone x s0).log (alone x s0).home =
    ap (λ n. said n t.reply t.log t.home) s.place ∙ ap (λ r. said (slot_of x) r t.log t.home) taken.reply
    ∙ ap (λ l. said (slot_of x) (alone x s0).reply l t.home) (s.log ∙ ap (λ b. if b then [] else (alone x s0).log) went)
    ∙ ap (said (slot_of x) (alone x s0).reply (alone x s0).log) (s.home ∙ ap (λ b. if b then [] else (alone x s0).home) went) in
    one

-- a run with one more step, whose turn was told
pub host_more : (done : List Step) (o o' : Told) (new old : Host) (x : Step) → IsHostRun done o old → IsMore x new old o' o → IsHostRun (done ++ x ∷ []) o' new
host_more done o o' new old x a more =
    let t : Said = more.0 in
    let s : IsSaid x t new old = more.1.0 in
    let why : Option Reason = reason_of (lone_of new (slot_of x)).mounted in
    elim (cases_Bool (is_no_memory t.reply)) [
      | inl refused ↦
          subst (λ p. IsHostRun (done ++ x ∷ []) p new) (sym (more.1.1 ∙ ap (λ b. if b then told_refused o t why else told_taken o t why) refused))
          (host_refused done o old a x t new (by_true (is_no_memory t.reply) (IsKept x new old) (IsTaken x t.reply new old) refused s.stepped.went) more.1.2 s.place refused)
      | inr went ↦
          let taken : IsTaken x t.reply new old = by_false (is_no_memory t.reply) (IsKept x new old) (IsTaken x t.reply new old) went s.stepped.went in
          subst (λ p. IsHostRun (done ++ x ∷ []) p new) (sym (more.1.1 ∙ ap (λ b. if b then told_refused o t why else told_taken o t why) went))
          (host_taken done o old a x t new s.stepped.may taken (said_is x t new old s went taken) more.1.2 went)
    ]

-- ---- the run over a list
module _ (steps : List Step) (at : ℕ) (o : Told) (host : Host) (a : IsHostRun (take at steps) o host) where
  tells_so_far : Tells (take at steps) o
  tells_so_far = after_tells (take at steps) (events (take at steps) o.turns) o host.queue (hand_at host) (lone_of host) a.run

  -- at the end
  pub end_tells : length steps ≤ at → Tells steps o
  end_tells over = subst (λ done. Tells done o) (take_all at steps over) tells_so_far

  pub end_struck : length steps ≤ at → AreStruckOrderly steps o
  end_struck over = subst (λ done. AreStruckOrderly done o) (take_all at steps over) a.struck

  pub end_same : length steps ≤ at → GivesSame steps o
  end_same over = gives_same steps o (end_tells over)

  -- before a step that may not come
  pub stop_struck : AreStruckOrderly (take at steps) o × GivesSame (take at steps) o
  stop_struck = (a.struck, gives_same (take at steps) o tells_so_far)

  module _ (x : Step) (within : at < length steps) (is : x ≡ get_or steps at x) where
    done_more : take at steps ++ x ∷ [] ≡ take (at + 1) steps
    done_more = ap (λ y. take at steps ++ y ∷ []) is ∙ sym (take_more steps at x within)

    -- the step there was taken or refused memory
    pub go_on : (o' : Told) (new : Host) → IsMore x new host o' o → IsHostRun (take (at + 1) steps) o' new
    go_on o' new more = subst (λ done. IsHostRun done o' new) done_more (host_more (take at steps) o o' new host x a more)

    disorder_first : may_come host x ≡ false → ((m : ℕ) → is_refused m o ≡ false) → orderly (take (at + 1) steps) ≡ false
    disorder_first cannot none =
        ap orderly (sym done_more)
        ∙ breaks_whole (take at steps) (events (take at steps) o.turns) o host.queue (hand_at host) (lone_of host) x a.run none cannot

    -- the step there may not come
    pub stop : may_come host x ≡ false → BreaksAt at steps o
    stop cannot = record {
      place = within;
      tells = tells_so_far;
      breaks = λ y there n.
          let same : x ≡ y = is ∙ get_or_from_slice_get steps at y x there in
          subst (λ y. is_refused (slot_of y) o ≡ false → fits (events (take at steps) o.turns) y ≡ false) same
          (λ n. breaks_fits (take at steps) (events (take at steps) o.turns) o host.queue (hand_at host) (lone_of host) x a.run n cannot) n;
      first = disorder_first cannot;
    }

    -- so the list is not orderly, where no slot was refused memory
    pub stop_unordered : may_come host x ≡ false → ((m : ℕ) → is_refused m o ≡ false) → orderly steps ≡ false
    stop_unordered cannot none =
        elim (cases_Bool (orderly steps)) [
          | inl whole ↦ absurd (false≢true (sym (disorder_first cannot none) ∙ orderly_take (at + 1) steps whole))
          | inr other ↦ other
        ]
