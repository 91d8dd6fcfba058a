-- What the rules of the queue and of the board imply.
use Rattle.std.proofs.Common.{arith, ap, cond, filter, length, length-append, refl, subst, sym, Bool, None, Option, Some, [], true, false, List, inl, inr, ⊎_elim, ℕ, ◌+◌, ◌++◌, ◌<◌, ◌==◌, ◌∙◌, ◌≡◌, ◌≢◌, ◌≤◌, ◌⊎◌, ◌∷◌}
use Rattle.std.proofs.lemmas.Bool.{eq-eqb, ne_eqb}
use Rattle.std.proofs.lemmas.List.Elements.{filter-append}
use Rattle.std.specs.Prelude.{IsSome}
use Rattle.xt_base.specs.declared.names.JobName.{JobName}
use Rattle.xt_base.specs.declared.steps.Reason.{Reason}
use Rattle.xt_base.specs.declared.steps.Reason.TheVariants.{CorruptIncore, ForceUmount, LogIoError, MetaIoError}
use Rattle.xt_queue.specs.Laws.{CountsUp, GoesOnceInOrder, IsPartOf, ShutForGood, is_same, serials_of, times}
use Rattle.xt_queue.specs.Names.{IsRun, MayFollow, of_slot, unposted}
use Rattle.xt_queue.specs.Queues.{Handed, names_of, of_worker, posted}
use Rattle.xt_queue.specs.Words.{code_of}
use mathlib.Core.Logic.{dite}
use native.Mathlib.Decide.{dec_le, ℕ_discrete}

-- two names are the same in slot, life and serial, or the test says that they are not
same_or_not : (x y : JobName) → ((is_same x y ≡ true) × (y.slot ≡ x.slot) × (y.life ≡ x.life) × (y.serial ≡ x.serial)) ⊎ (is_same x y ≡ false)
same_or_not x y = dite (ℕ_discrete y.slot x.slot)
    (λ s. dite (ℕ_discrete y.life x.life)
    (λ l. dite (ℕ_discrete y.serial x.serial)
    (λ n. inl (rw (eq-eqb y.slot x.slot s, eq-eqb y.life x.life l, eq-eqb y.serial x.serial n) refl, s, l, n))
    (λ n. inr (rw (eq-eqb y.slot x.slot s, eq-eqb y.life x.life l, ne_eqb y.serial x.serial n) refl)))
    (λ l. inr (rw (eq-eqb y.slot x.slot s, ne_eqb y.life x.life l) refl)))
    (λ s. inr (rw (ne_eqb y.slot x.slot s) refl))

-- names of two slots are not the same
other_slot : (x y : JobName) → y.slot ≢ x.slot → is_same x y ≡ false
other_slot x y apart = rw (ne_eqb y.slot x.slot apart) refl

-- 1 for a name that counts
abbrev weight : Bool → ℕ
weight true = 1
weight false = 0

-- one name more counts where the test holds
counted : (b : Bool) (y : JobName) (ys : List JobName) → length (cond b (y ∷ ys) ys) ≡ weight b + length ys
counted true y ys = omega arith
counted false y ys = omega arith

-- how often a name stands in a list with one name more
times_next : (x y : JobName) (ys : List JobName) → times x (y ∷ ys) ≡ weight (is_same x y) + times x ys
times_next x y ys = counted (is_same x y) y (filter (is_same x) ys)

-- how often a name stands in two lists joined
times_joined : (x : JobName) (xs ys : List JobName) → times x (xs ++ ys) ≡ times x xs + times x ys
times_joined x xs ys = ap length (filter-append (is_same x) xs ys) ∙ length-append (filter (is_same x) xs) (filter (is_same x) ys)

-- a name comes after this life and serial
abbrev After : ℕ × ℕ → JobName → Type 0
After last x = (last.0 < x.life) ⊎ ((last.0 ≡ x.life) × (last.1 < x.serial))

-- a name that may follow comes after
after_next : (last : ℕ × ℕ) (y x : JobName) → MayFollow last y → y.life ≡ x.life → y.serial ≡ x.serial → After last x
after_next last y x next life serial = ⊎_elim
    (λ (n : (y.life ≡ last.0) × (y.serial ≡ last.1 + 1)). let a = n.0 in let b = n.1 in inr (omega arith, omega arith))
    (λ (n : (last.0 < y.life) × (y.serial ≡ 1)). let a = n.0 in inl (omega arith))
    next

-- and what comes after that one comes after too
after_later : (last : ℕ × ℕ) (y x : JobName) → MayFollow last y → After (y.life, y.serial) x → After last x
after_later last y x next later = ⊎_elim
    (λ (n : (y.life ≡ last.0) × (y.serial ≡ last.1 + 1)). let a = n.0 in let b = n.1 in ⊎_elim
    (λ (l : y.life < x.life). inl (omega arith))
    (λ (l : (y.life ≡ x.life) × (y.serial < x.serial)). let c = l.0 in let d = l.1 in inr (omega arith, omega arith))
    later)
    (λ (n : (last.0 < y.life) × (y.serial ≡ 1)). let a = n.0 in ⊎_elim
    (λ (l : y.life < x.life). inl (omega arith))
    (λ (l : (y.life ≡ x.life) × (y.serial < x.serial)). let c = l.0 in inl (omega arith))
    later)
    next

-- a run has no name that does not come after its beginning
none_before : (last : ℕ × ℕ) (names : List JobName) (x : JobName) → IsRun last names → (After last x → ⊥) → times x names ≡ 0
none_before last [] x run early = refl
none_before last (y ∷ ys) x run early =
    let rest = none_before (y.life, y.serial) ys x run.1 (λ a. early (after_later last y x run.0 a)) in
    let other : is_same x y ≡ false = ⊎_elim
    (λ (s : (is_same x y ≡ true) × (y.slot ≡ x.slot) × (y.life ≡ x.life) × (y.serial ≡ x.serial)). absurd (early (after_next last y x run.0 s.2 s.3)))
    (λ n. n)
    (same_or_not x y) in
    let light : weight (is_same x y) ≡ 0 = ap weight other in
    omega (arith, times_next x y ys)

-- a run has no name twice
once : (last : ℕ × ℕ) (names : List JobName) (x : JobName) → IsRun last names → times x names ≤ 1
once last [] x run = omega arith
once last (y ∷ ys) x run = ⊎_elim
    (λ (s : (is_same x y ≡ true) × (y.slot ≡ x.slot) × (y.life ≡ x.life) × (y.serial ≡ x.serial)).
    let life = s.2 in let serial = s.3 in
    let light : weight (is_same x y) ≡ 1 = ap weight s.0 in
    let rest = none_before (y.life, y.serial) ys x run.1
    (⊎_elim (λ (l : y.life < x.life). absurd (omega arith)) (λ (l : (y.life ≡ x.life) × (y.serial < x.serial)). let d = l.1 in absurd (omega arith))) in
    omega (arith, times_next x y ys))
    (λ (n : is_same x y ≡ false).
    let light : weight (is_same x y) ≡ 0 = ap weight n in
    let rest = once (y.life, y.serial) ys x run.1 in
    omega (arith, times_next x y ys))
    (same_or_not x y)

-- the names of a slot with one of its own in front
of_slot_yes : (slot : ℕ) (y : JobName) (ys : List JobName) → y.slot ≡ slot → of_slot slot (y ∷ ys) ≡ y ∷ of_slot slot ys
of_slot_yes slot y ys same = rw (eq-eqb y.slot slot same) refl

-- and with one of another slot in front
of_slot_no : (slot : ℕ) (y : JobName) (ys : List JobName) → y.slot ≢ slot → of_slot slot (y ∷ ys) ≡ of_slot slot ys
of_slot_no slot y ys apart = rw (ne_eqb y.slot slot apart) refl

-- a name of the slot stands as often among the slot's names as among all
times_of_slot : (slot : ℕ) (x : JobName) (names : List JobName) → x.slot ≡ slot → times x (of_slot slot names) ≡ times x names
times_of_slot slot x [] own = refl
times_of_slot slot x (y ∷ ys) own =
    let rest = times_of_slot slot x ys own in
    dite (ℕ_discrete y.slot slot)
    (λ same.
    let e = ap (times x) (of_slot_yes slot y ys same) ∙ times_next x y (of_slot slot ys) in
    omega (arith, times_next x y ys))
    (λ apart.
    let e = ap (times x) (of_slot_no slot y ys apart) in
    let light : weight (is_same x y) ≡ 0 = ap weight (other_slot x y (λ s. apart (s ∙ own))) in
    omega (arith, times_next x y ys))

-- a name of another slot does not stand among them
times_elsewhere : (slot : ℕ) (x : JobName) (names : List JobName) → x.slot ≢ slot → times x (of_slot slot names) ≡ 0
times_elsewhere slot x [] apart = refl
times_elsewhere slot x (y ∷ ys) apart =
    let rest = times_elsewhere slot x ys apart in
    dite (ℕ_discrete y.slot slot)
    (λ same.
    let e = ap (times x) (of_slot_yes slot y ys same) ∙ times_next x y (of_slot slot ys) in
    let light : weight (is_same x y) ≡ 0 = ap weight (other_slot x y (λ s. apart (sym s ∙ same))) in
    omega arith)
    (λ no. ap (times x) (of_slot_no slot y ys no) ∙ rest)

-- the names of a worker with one of its own in front
of_worker_yes : (worker : ℕ) (h : Handed) (hs : List Handed) → h.worker ≡ worker → of_worker worker (h ∷ hs) ≡ h.name ∷ of_worker worker hs
of_worker_yes worker h hs same = rw (eq-eqb h.worker worker same) refl

-- and with one of another worker in front
of_worker_no : (worker : ℕ) (h : Handed) (hs : List Handed) → h.worker ≢ worker → of_worker worker (h ∷ hs) ≡ of_worker worker hs
of_worker_no worker h hs apart = rw (ne_eqb h.worker worker apart) refl

-- what stands in a worker's list still does when more is handed over
worker_grows : (x : JobName) (worker : ℕ) (h : Handed) (hs : List Handed) → times x (of_worker worker hs) ≤ times x (of_worker worker (h ∷ hs))
worker_grows x worker h hs = dite (ℕ_discrete h.worker worker)
    (λ same. let e = ap (times x) (of_worker_yes worker h hs same) ∙ times_next x h.name (of_worker worker hs) in omega arith)
    (λ apart. let e = ap (times x) (of_worker_no worker h hs apart) in omega arith)

-- a name that was handed over stands in some worker's list
some_worker : (x : JobName) (handed : List Handed) → 0 < times x (names_of handed) → (worker : ℕ) × (0 < times x (of_worker worker handed))
some_worker x [] there = absurd (omega arith)
some_worker x (h ∷ hs) there = ⊎_elim
    (λ (s : (is_same x h.name ≡ true) × (h.name.slot ≡ x.slot) × (h.name.life ≡ x.life) × (h.name.serial ≡ x.serial)).
    let light : weight (is_same x h.name) ≡ 1 = ap weight s.0 in
    let e = ap (times x) (of_worker_yes h.worker h hs refl) ∙ times_next x h.name (of_worker h.worker hs) in
    (h.worker, omega arith))
    (λ (n : is_same x h.name ≡ false).
    let light : weight (is_same x h.name) ≡ 0 = ap weight n in
    let e = times_next x h.name (names_of hs) in
    let rest = some_worker x hs (omega arith) in
    let found = rest.1 in
    let grows = worker_grows x rest.0 h hs in
    (rest.0, omega arith))
    (same_or_not x h.name)

-- two workers have a name no oftener together than it was handed over
two_workers : (x : JobName) (worker other : ℕ) (handed : List Handed) → other ≢ worker → times x (of_worker worker handed) + times x (of_worker other handed) ≤ times x (names_of handed)
two_workers x worker other [] apart = omega arith
two_workers x worker other (h ∷ hs) apart =
    let rest = two_workers x worker other hs apart in
    let all = times_next x h.name (names_of hs) in
    dite (ℕ_discrete h.worker worker)
    (λ same.
    let mine = ap (times x) (of_worker_yes worker h hs same) ∙ times_next x h.name (of_worker worker hs) in
    let theirs = ap (times x) (of_worker_no other h hs (λ e. apart (sym e ∙ same))) in
    omega arith)
    (λ no.
    let mine = ap (times x) (of_worker_no worker h hs no) in
    dite (ℕ_discrete h.worker other)
    (λ same.
    let theirs = ap (times x) (of_worker_yes other h hs same) ∙ times_next x h.name (of_worker other hs) in
    omega arith)
    (λ neither.
    let theirs = ap (times x) (of_worker_no other h hs neither) in
    omega arith))

-- a part of a list is a part of a longer one
part_longer : (y : JobName) (xs ys : List JobName) → IsPartOf xs ys → IsPartOf xs (y ∷ ys)
part_longer y [] ys part = tt
part_longer y (x ∷ xs) ys part = inr part

-- a worker's names of a slot are a part of the slot's names
worker_part : (slot worker : ℕ) (handed : List Handed) → IsPartOf (of_slot slot (of_worker worker handed)) (of_slot slot (names_of handed))
worker_part slot worker [] = tt
worker_part slot worker (h ∷ hs) =
    let rest = worker_part slot worker hs in
    let mine : List JobName = of_worker worker hs in
    let all : List JobName = names_of hs in
    let P : List JobName → List JobName → Type 0 = λ xs ys. IsPartOf xs ys in
    dite (ℕ_discrete h.worker worker)
    (λ same. dite (ℕ_discrete h.name.slot slot)
    (λ own. rw (of_worker_yes worker h hs same, of_slot_yes slot h.name mine own, of_slot_yes slot h.name all own) (inl (refl, rest)))
    (λ no. rw (of_worker_yes worker h hs same, of_slot_no slot h.name mine no, of_slot_no slot h.name all no) rest))
    (λ apart. dite (ℕ_discrete h.name.slot slot)
    (λ own. rw (of_worker_no worker h hs apart, of_slot_yes slot h.name all own) (part_longer h.name (of_slot slot mine) (of_slot slot all) rest))
    (λ no. rw (of_worker_no worker h hs apart, of_slot_no slot h.name all no) rest))

-- a name that was handed over at most once stands with one worker, once
one_worker : (x : JobName) (handed : List Handed) → 0 < times x (names_of handed) → times x (names_of handed) ≤ 1 → (worker : ℕ) × (times x (of_worker worker handed) ≡ 1) × ((other : ℕ) → other ≢ worker → times x (of_worker other handed) ≡ 0)
one_worker x handed some most =
    let found = some_worker x handed some in
    let there = found.1 in
    let beside = two_workers x found.0 (found.0 + 1) handed (λ e. omega arith) in
    (found.0, omega arith, λ other apart. (let two = two_workers x found.0 other handed apart in omega arith))

-- a name among the slot's is of the slot
slot_of_one : (slot : ℕ) (x : JobName) (names : List JobName) → 0 < times x (of_slot slot names) → x.slot ≡ slot
slot_of_one slot x names some = dite (ℕ_discrete x.slot slot) (λ same. same) (λ apart. let none = times_elsewhere slot x names apart in absurd (omega arith))

-- the serials of a life with one of its own in front
serials_yes : (life : ℕ) (y : JobName) (ys : List JobName) → y.life ≡ life → serials_of life (y ∷ ys) ≡ y.serial ∷ serials_of life ys
serials_yes life y ys same = rw (eq-eqb y.life life same) refl

-- and with one of another life in front
serials_no : (life : ℕ) (y : JobName) (ys : List JobName) → y.life ≢ life → serials_of life (y ∷ ys) ≡ serials_of life ys
serials_no life y ys apart = rw (ne_eqb y.life life apart) refl

-- a run has no name of an earlier life
serials_earlier : (last : ℕ × ℕ) (names : List JobName) (life : ℕ) → IsRun last names → life < last.0 → serials_of life names ≡ []
serials_earlier last [] life run earlier = refl
serials_earlier last (y ∷ ys) life run earlier =
    let later : last.0 ≤ y.life = ⊎_elim (λ (n : (y.life ≡ last.0) × (y.serial ≡ last.1 + 1)). let a = n.0 in omega arith) (λ (n : (last.0 < y.life) × (y.serial ≡ 1)). let a = n.0 in omega arith) run.0 in
    serials_no life y ys (λ e. absurd (omega arith)) ∙ serials_earlier (y.life, y.serial) ys life run.1 (omega arith)

-- in a run the serials of the last life go on, and those of a later life count from 1
serials_count : (last : ℕ × ℕ) (names : List JobName) (life : ℕ) → IsRun last names → (life ≡ last.0 → CountsUp (last.1 + 1) (serials_of life names)) × (last.0 < life → CountsUp 1 (serials_of life names))
serials_count last [] life run = ((λ e. tt), λ l. tt)
serials_count last (y ∷ ys) life run =
    let rest = serials_count (y.life, y.serial) ys life run.1 in
    let front : (n : ℕ) → y.life ≡ life → y.serial ≡ n → CountsUp n (serials_of life (y ∷ ys)) =
    λ n same serial. subst (CountsUp n) (sym (serials_yes life y ys same)) (serial, subst (λ k. CountsUp (k + 1) (serials_of life ys)) serial (rest.0 (sym same))) in
    let none : (n : ℕ) → life < y.life → CountsUp n (serials_of life (y ∷ ys)) =
    λ n earlier. subst (CountsUp n) (sym (serials_no life y ys (λ e. absurd (omega arith)) ∙ serials_earlier (y.life, y.serial) ys life run.1 earlier)) tt in
    let on : y.life < life → CountsUp 1 (serials_of life (y ∷ ys)) =
    λ later. subst (CountsUp 1) (sym (serials_no life y ys (λ e. absurd (omega arith)))) (rest.1 later) in
    ⊎_elim
    (λ (n : (y.life ≡ last.0) × (y.serial ≡ last.1 + 1)). ((λ e. front (last.1 + 1) (n.0 ∙ sym e) n.1), λ l. on (let a = n.0 in omega arith)))
    (λ (n : (last.0 < y.life) × (y.serial ≡ 1)). (
      (λ e. none (last.1 + 1) (let a = n.0 in omega arith)),
      λ l. dite (ℕ_discrete y.life life)
          (λ same. front 1 same n.1)
          (λ apart. dite (dec_le life y.life) (λ low. none 1 (omega arith)) (λ high. on (omega arith))),
    ))
    run.0

-- in a slot's names the serials of each life count from 1
serials_posted : (names : List JobName) (life : ℕ) → IsRun unposted names → CountsUp 1 (serials_of life names)
serials_posted names life run = dite (ℕ_discrete life 0)
    (λ first. (serials_count unposted names life run).0 first)
    (λ later. (serials_count unposted names life run).1 (omega arith))

-- the rule of the queue hands each slot's names over once and in order
pub goes_once_in_order : GoesOnceInOrder
goes_once_in_order waiting views slot rule below =
    let all : List JobName = names_of rule.handed in
    let split : posted views slot ≡ of_slot slot all ++ of_slot slot waiting = rule.in_order slot below ∙ filter-append (λ (y : JobName). y.slot == slot) all waiting in
    let most : (x : JobName) → times x (posted views slot) ≤ 1 = λ x. once unposted (posted views slot) x (rule.serials slot below) in
    record {
      gone = of_slot slot all;
      waiting_last = split;
      posted_once = most;
      serials = λ life. serials_posted (posted views slot) life (rule.serials slot below);
      taken_once = λ x some.
          let own = times_of_slot slot x all (slot_of_one slot x all some) in
          let joined = ap (times x) split ∙ times_joined x (of_slot slot all) (of_slot slot waiting) in
          let by = one_worker x rule.handed (omega arith) (omega (arith, most x)) in
          (by.0, ap (times x) (rule.by_worker by.0) ∙ by.1, λ other apart. ap (times x) (rule.by_worker other) ∙ by.2 other apart);
      in_order = λ worker. subst (λ l. IsPartOf (of_slot slot l) (of_slot slot all)) (sym (rule.by_worker worker)) (worker_part slot worker rule.handed);
    }

-- a reason has a code above 0
reason_code : (reason : Reason) → 0 < code_of (Some reason)
reason_code MetaIoError = omega arith
reason_code LogIoError = omega arith
reason_code ForceUmount = omega arith
reason_code CorruptIncore = omega arith

-- no code is above 4
low_code : (state : Option Reason) → code_of state ≤ 4
low_code None = omega arith
low_code (Some MetaIoError) = omega arith
low_code (Some LogIoError) = omega arith
low_code (Some ForceUmount) = omega arith
low_code (Some CorruptIncore) = omega arith

-- a code above 0 is a reason's
some_reason : (state : Option Reason) → 0 < code_of state → IsSome state
some_reason None above = absurd (omega arith)
some_reason (Some reason) above = refl

-- what a word that is no lower says
pub stays_shut : ShutForGood
stays_shut life later reason state above =
    let shut = reason_code reason in
    let low = low_code state in
    dite (ℕ_discrete later life)
    (λ same. inr (same, some_reason state (omega arith)))
    (λ apart. inl (omega arith))
