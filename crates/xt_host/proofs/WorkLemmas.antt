-- What a worker leaves with its seat, one step after another.
use Rattle.std.proofs.Common.{List, [], arith, ap, refl, subst, sym, ℕ, ◌++◌, ◌≡◌, ◌∙◌, ◌∷◌}
use Rattle.std.proofs.Common.{Bool, false, true}
use Rattle.std.specs.List.{Contains}
use Rattle.xt_base.specs.Isolation.{is_no_memory}
use Rattle.std.proofs.lemmas.List.{append-nil, append_assoc}
use Rattle.std.proofs.lemmas.List.Elements.{All-append, All-cons, All-nil, Contains-append_left, Contains-append_right}
use Rattle.xt_base.specs.declared.names.JobName.{JobName}
use Rattle.xt_base.specs.declared.steps.Reply.{Reply}
use Rattle.xt_base.specs.declared.steps.HomeAnswers.{HomeAnswers}
use Rattle.xt_base.specs.declared.steps.Step.{Step}
use Rattle.xt_base.specs.declared.steps.Step.TheVariants.{Begin, Flush}
use Rattle.xt_cell.specs.Counting.{counted}
use Rattle.xt_cell.specs.HostSeats.{HostSeatView, IsSameSeat, receipt}
use Rattle.xt_cell.specs.declared.records.Receipt.{Receipt}
use Rattle.xt_receipts.specs.Calls.{Receives}
use Rattle.xt_queue.specs.Seats.{SeatView}
use Rattle.xt_host.specs.Work.{IsJobStep, IsWorkOf, Worked, counted_each}

-- the counts after two lists of receipts
pub each_append : (xs ys : List Receipt) (counts : List ℕ) → counted_each (xs ++ ys) counts ≡ counted_each ys (counted_each xs counts)
each_append [] ys counts = refl
each_append (x ∷ xs) ys counts = each_append xs ys (counted x.slot counts)

module _ (worker : ℕ) where
  -- nothing was done
  pub worked_none : (taken : List JobName) (old new : HostSeatView) → IsSameSeat old new → Worked worker taken old new
  worked_none taken old new same = record {
    gained = [];
    receipts = same.receipts ∙ sym (append-nil old.receipts);
    counts = same.counts;
    own = All-nil (IsWorkOf worker taken);
    caller = same.caller;
    splits = ap (λ (b : SeatView). b.splits) same.board;
    rank = ap (λ (b : SeatView). b.rank) same.board;
  }

  -- one step after another
  pub worked_both : (taken : List JobName) (a b c : HostSeatView) → Worked worker taken a b → Worked worker taken b c → Worked worker taken a c
  worked_both taken a b c p q = record {
    gained = p.gained ++ q.gained;
    receipts = q.receipts ∙ ap (λ rs. rs ++ q.gained) p.receipts ∙ append_assoc a.receipts p.gained q.gained;
    counts = q.counts ∙ ap (counted_each q.gained) p.counts ∙ sym (each_append p.gained q.gained a.counts);
    own = All-append (IsWorkOf worker taken) p.gained q.gained p.own q.own;
    caller = q.caller ∙ p.caller;
    splits = q.splits ∙ p.splits;
    rank = q.rank ∙ p.rank;
  }

  -- of more names
  worked_among : (xs ys : List JobName) (a b : HostSeatView) → ((x : JobName) → Contains xs x → Contains ys x) → Worked worker xs a b → Worked worker ys a b
  worked_among xs ys a b more p = record {
    gained = p.gained;
    receipts = p.receipts;
    counts = p.counts;
    own = λ i d less. let own = p.own i d less in (own.0, more own.0 own.1, own.2, own.3);
    caller = p.caller;
    splits = p.splits;
    rank = p.rank;
  }

  -- one name more
  pub worked_next : (taken : List JobName) (name : JobName) (a b c : HostSeatView) → Worked worker taken a b → Worked worker (name ∷ []) b c → Worked worker (taken ++ name ∷ []) a c
  worked_next taken name a b c p q =
      worked_both (taken ++ name ∷ []) a b c (worked_among taken (taken ++ name ∷ []) a b (λ x has. Contains-append_left taken (name ∷ []) x has) p)
      (worked_among (name ∷ []) (taken ++ name ∷ []) b c (λ x has. Contains-append_right taken (name ∷ []) x has) q)

  -- one step of a name, after nothing was done
  pub worked_one : (name : JobName) (step : Step) (reply : Reply) (a b c : HostSeatView) → IsSameSeat a b → IsJobStep worker name step → Receives name.slot step reply b c → Worked worker (name ∷ []) a c
  worked_one name step reply a b c same is receives =
      worked_both (name ∷ []) a b c (worked_none (name ∷ []) a b same)
      (record {
        gained = receipt name.slot receives.number step reply ∷ [];
        receipts = receives.receipts;
        counts = receives.counts;
        own = All-cons (IsWorkOf worker (name ∷ [])) (receipt name.slot receives.number step reply) [] (name, (0, omega arith, refl), refl, is) (All-nil (IsWorkOf worker (name ∷ [])));
        caller = receives.caller;
        splits = receives.splits;
        rank = receives.rank;
      })

  -- nothing was done, twice
  pub worked_same : (taken : List JobName) (a b c : HostSeatView) → IsSameSeat a b → IsSameSeat b c → Worked worker taken a c
  worked_same taken a b c first second = worked_both taken a b c (worked_none taken a b first) (worked_none taken b c second)

  -- a begin of a name, or nothing where it was refused memory
  pub worked_begin : (name : JobName) (reply : Reply) (a b c : HostSeatView) → IsSameSeat a b → (is_no_memory reply ≡ true → IsSameSeat b c)
      → (is_no_memory reply ≡ false → Receives name.slot (Begin worker name) reply b c) → Worked worker (name ∷ []) a c
  worked_begin name reply a b c same refused received = by (is_no_memory reply) refl
    where
      by : (x : Bool) → is_no_memory reply ≡ x → Worked worker (name ∷ []) a c
      by true e = worked_same (name ∷ []) a b c same (refused e)
      by false e = worked_one name (Begin worker name) reply a b c same (refl, refl) (received e)

  -- a flush of a name, or nothing where it was refused memory
  pub worked_flush : (name : JobName) (reply : Reply) (a b c : HostSeatView) → IsSameSeat a b → (is_no_memory reply ≡ true → IsSameSeat b c)
      → (is_no_memory reply ≡ false → (answers : HomeAnswers) × Receives name.slot (Flush worker name answers) reply b c) → Worked worker (name ∷ []) a c
  worked_flush name reply a b c same refused received = by (is_no_memory reply) refl
    where
      by : (x : Bool) → is_no_memory reply ≡ x → Worked worker (name ∷ []) a c
      by true e = worked_same (name ∷ []) a b c same (refused e)
      by false e = let done = received e in worked_one name (Flush worker name done.0) reply a b c same (refl, refl) done.1

-- the steps of one name more, by whoever took it, after those of the names before
pub worked_taken : (now before by : ℕ) (all taken : List JobName) (name : JobName) (a b c : HostSeatView) → now ≡ before → by ≡ now → all ≡ taken ++ name ∷ []
    → Worked before taken a b → Worked by (name ∷ []) b c → Worked now all a c
worked_taken now before by all taken name a b c old own has p q =
    let first = subst (λ w. Worked w taken a b) (sym old) p in
    let second = subst (λ w. Worked w (name ∷ []) b c) own q in
    subst (λ names. Worked now names a c) (sym has) (worked_next now taken name a b c first second)

-- the end of a job by whoever began it, after its begin
pub worked_ended : (worker by : ℕ) (name of : JobName) (a b c : HostSeatView) → by ≡ worker → of ≡ name
    → Worked worker (name ∷ []) a b → Worked by (of ∷ []) b c → Worked worker (name ∷ []) a c
worked_ended worker by name of a b c own same p q =
    let second = subst (λ w. Worked w (of ∷ []) b c) own q in
    worked_both worker (name ∷ []) a b c p (subst (λ x. Worked worker (x ∷ []) b c) same second)

-- the last name is one of those that were taken
pub taken_last : (all taken : List JobName) (name of : JobName) → all ≡ taken ++ name ∷ [] → of ≡ name → Contains all of
taken_last all taken name of has same = subst (λ names. Contains names of) (sym has) (Contains-append_right taken (name ∷ []) of (0, omega arith, sym same))
