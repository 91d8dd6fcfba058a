-- Each kind of step keeps the rule of the queue.
use Rattle.std.proofs.Common.{arith, ap, append_assoc, filter, length, refl, set, subst, sym, List, [], ⊎_elim, ℕ, ◌+◌, ◌++◌, ◌<◌, ◌==◌, ◌∙◌, ◌≡◌, ◌≢◌, ◌∷◌}
use Rattle.std.proofs.lemmas.Bool.{eq-eqb, ne_eqb}
use Rattle.std.proofs.lemmas.List.{append-nil, length-set, length_push, map-append}
use Rattle.std.proofs.lemmas.List.Elements.{filter-append}
use Rattle.crossbeam_queue.proofs.Lists.{at_set, set_again}
use Rattle.crossbeam_queue.specs.Fifo.{Forks, Learns, Pops, Pushes}
use Rattle.xt_base.specs.declared.names.JobName.{JobName}
use Rattle.xt_queue.proofs.NameLemmas.{at_new, names_at_new, names_at_other, names_at_set, names_at_view, of_slot_other, of_slot_own, run_longer}
use Rattle.xt_queue.specs.Names.{IsRun, MayFollow, last_of, of_slot, unposted}
use Rattle.xt_queue.specs.Queues.{Handed, Posts, QueueRule, Sees, Takes, maker, names_at, names_of, of_worker, posted, taken, unused, with_name}
use Rattle.xt_queue.specs.declared.views.JobView.{JobView}
use lib.ListN.{get_elem?}
use mathlib.Core.Logic.{dite}
use mathlib.Core.Option.{some, some-injective, some-ne-none}
use native.Mathlib.Decide.{ℕ_discrete}

-- every view stands at the place that it names
abbrev Numbered : List JobView → Type 0
Numbered views = (place : ℕ) (v : JobView) → get_elem? views place ≡ some v → v.number ≡ place

-- the maker has made every pass but itself
abbrev Counted : List JobView → Type 0
Counted views = (v : JobView) → get_elem? views 0 ≡ some v → v.made + 1 ≡ length views

-- a view that keeps its number keeps all numbered
numbered_set : (views : List JobView) (port : ℕ) (v w : JobView) → Numbered views → get_elem? views port ≡ some v → w.number ≡ v.number → Numbered (set views port w)
numbered_set views port v w all at same place u there = ⊎_elim
    (λ (x : (place ≡ port) × (w ≡ u)). ap (λ (y : JobView). y.number) (sym x.1) ∙ same ∙ all port v at ∙ sym x.0)
    (λ (x : (place ≢ port) × (get_elem? views place ≡ some u)). all place u x.1)
    (at_set views port place w u there)

-- a view that keeps its count keeps the maker's
counted_set : (views : List JobView) (port : ℕ) (v w : JobView) → Counted views → get_elem? views port ≡ some v → w.made ≡ v.made → Counted (set views port w)
counted_set views port v w all at same u there = ⊎_elim
    (λ (x : (0 ≡ port) × (w ≡ u)).
    let was : get_elem? views 0 ≡ some v = ap (get_elem? views) x.0 ∙ at in
    let count : v.made + 1 ≡ length views = all v was in
    let is : w.made ≡ u.made = ap (λ (y : JobView). y.made) x.1 in
    omega (arith, length-set views port w))
    (λ (x : (0 ≢ port) × (get_elem? views 0 ≡ some u)). all u x.1 ∙ sym (length-set views port w))
    (at_set views port 0 w u there)

-- the posted names of the slot whose pass stands at this place
posted_was : (views : List JobView) (port slot : ℕ) (v : JobView) → get_elem? views port ≡ some v → slot + 1 ≡ port → posted views slot ≡ v.names
posted_was views port slot v at place = ap (names_at views) place ∙ names_at_view views port v at

-- after a post they are one more
posted_own : (views : List JobView) (port slot : ℕ) (v : JobView) (x : JobName) → get_elem? views port ≡ some v → slot + 1 ≡ port → posted (set views port (with_name v x)) slot ≡ v.names ++ x ∷ []
posted_own views port slot v x at place = ap (names_at (set views port (with_name v x))) place ∙ names_at_set views port v (with_name v x) at

-- of each slot, what was posted is what is listed, also with one name more
posted_order : (views : List JobView) (port slot : ℕ) (v : JobView) (x : JobName) (listed : List JobName) → get_elem? views port ≡ some v → port ≡ x.slot + 1 → posted views slot ≡ of_slot slot listed → posted (set views port (with_name v x)) slot ≡ of_slot slot (listed ++ x ∷ [])
posted_order views port slot v x listed at place order = dite (ℕ_discrete x.slot slot)
    (λ same.
    let here : slot + 1 ≡ port = omega arith in
    posted_own views port slot v x at here ∙ ap (λ l. l ++ x ∷ []) (sym (posted_was views port slot v at here) ∙ order) ∙ sym (of_slot_own slot listed x same))
    (λ apart. names_at_other views port (slot + 1) (with_name v x) (λ e. apart (omega arith)) ∙ order ∙ sym (of_slot_other slot listed x apart))

-- of each slot, what was posted is a run, also with one name more
posted_run : (views : List JobView) (port slot : ℕ) (v : JobView) (x : JobName) → get_elem? views port ≡ some v → port ≡ x.slot + 1 → MayFollow (last_of unposted v.names) x → IsRun unposted (posted views slot) → IsRun unposted (posted (set views port (with_name v x)) slot)
posted_run views port slot v x at place next run = dite (ℕ_discrete x.slot slot)
    (λ same.
    let here : slot + 1 ≡ port = omega arith in
    subst (IsRun unposted) (sym (posted_own views port slot v x at here))
    (run_longer unposted v.names x (subst (IsRun unposted) (posted_was views port slot v at here) run) next))
    (λ apart. subst (IsRun unposted) (sym (names_at_other views port (slot + 1) (with_name v x) (λ e. apart (omega arith)))) run)

-- the rule after a post
posted_rule : (port : ℕ) (v : JobView) (x : JobName) (waiting : List JobName) (views : List JobView) → get_elem? views port ≡ some v → port ≡ x.slot + 1 → x.slot < 16 → MayFollow (last_of unposted v.names) x → QueueRule waiting views → QueueRule (waiting ++ x ∷ []) (set views port (with_name v x))
posted_rule port v x waiting views at place below next rule = let all : List JobName = names_of rule.handed ++ waiting in
    let joined : names_of rule.handed ++ (waiting ++ x ∷ []) ≡ all ++ x ∷ [] = sym (append_assoc (names_of rule.handed) waiting (x ∷ [])) in
    record {
      numbered = numbered_set views port v (with_name v x) rule.numbered at refl;
      counted = counted_set views port v (with_name v x) rule.counted at refl;
      handed = rule.handed;
      in_order = λ slot h. posted_order views port slot v x all at place (rule.in_order slot h) ∙ ap (of_slot slot) (sym joined);
      no_other = λ slot h. ap (of_slot slot) joined ∙ of_slot_other slot all x (λ e. absurd (omega arith)) ∙ rule.no_other slot h;
      by_worker = λ worker. names_at_other views port (worker + 17) (with_name v x) (λ e. absurd (omega arith)) ∙ rule.by_worker worker;
      serials = λ slot h. posted_run views port slot v x at place next (rule.serials slot h);
    }

-- a post of the slot's next name keeps the rule
pub pushes : (capacity port : ℕ) (v : JobView) (x : JobName) → capacity ≡ 32 → v.number ≡ x.slot + 1 → x.slot < 16 → MayFollow (last_of unposted v.names) x → Pushes QueueRule capacity port v x (Posts v x)
pushes capacity port v x full own below next waiting views room rule at =
    let kept = posted_rule port v x waiting views at (sym (rule.numbered port v at) ∙ own) below next rule in
    (with_name v x, kept, (refl, (waiting, omega arith, record { views = views; place = port; own = at; rule = rule; kept = kept })))

-- one name more that was handed to the worker
of_worker_own : (worker : ℕ) (handed : List Handed) (h : Handed) → h.worker ≡ worker → of_worker worker (handed ++ h ∷ []) ≡ of_worker worker handed ++ h.name ∷ []
of_worker_own worker handed h same =
    ap names_of (filter-append (λ (y : Handed). y.worker == worker) handed (h ∷ []) ∙ rw (eq-eqb h.worker worker same) refl)
    ∙ map-append (λ (y : Handed). y.name) (filter (λ y. y.worker == worker) handed) (h ∷ [])

-- one name more that was handed to another worker
of_worker_other : (worker : ℕ) (handed : List Handed) (h : Handed) → h.worker ≢ worker → of_worker worker (handed ++ h ∷ []) ≡ of_worker worker handed
of_worker_other worker handed h apart =
    ap names_of (filter-append (λ (y : Handed). y.worker == worker) handed (h ∷ []) ∙ rw (ne_eqb h.worker worker apart) (append-nil (filter (λ y. y.worker == worker) handed)))

-- of each worker, what was taken is what was handed to it, also with one name more
taken_more : (views : List JobView) (port worker : ℕ) (v : JobView) (handed : List Handed) (h : Handed) → get_elem? views port ≡ some v → port ≡ h.worker + 17 → taken views worker ≡ of_worker worker handed → taken (set views port (with_name v h.name)) worker ≡ of_worker worker (handed ++ h ∷ [])
taken_more views port worker v handed h at place was = dite (ℕ_discrete h.worker worker)
    (λ same.
    let here : worker + 17 ≡ port = omega arith in
    ap (names_at (set views port (with_name v h.name))) here ∙ names_at_set views port v (with_name v h.name) at
    ∙ ap (λ l. l ++ h.name ∷ []) (sym (names_at_view views port v at) ∙ ap (names_at views) (sym here) ∙ was)
    ∙ sym (of_worker_own worker handed h same))
    (λ apart. names_at_other views port (worker + 17) (with_name v h.name) (λ e. apart (omega arith)) ∙ was ∙ sym (of_worker_other worker handed h apart))

-- the rule after a take
taken_rule : (port worker : ℕ) (v : JobView) (x : JobName) (waiting : List JobName) (views : List JobView) → get_elem? views port ≡ some v → port ≡ worker + 17 → QueueRule (x ∷ waiting) views → QueueRule waiting (set views port (with_name v x))
taken_rule port worker v x waiting views at place rule =
    let h : Handed = record { worker = worker; name = x } in
    let moved : names_of (rule.handed ++ h ∷ []) ++ waiting ≡ names_of rule.handed ++ x ∷ waiting =
    ap (λ l. l ++ waiting) (map-append (λ (y : Handed). y.name) rule.handed (h ∷ [])) ∙ append_assoc (names_of rule.handed) (x ∷ []) waiting in
    let stays : (slot : ℕ) → slot < 16 → posted (set views port (with_name v x)) slot ≡ posted views slot =
    λ slot h. names_at_other views port (slot + 1) (with_name v x) (λ e. absurd (omega arith)) in
    record {
      numbered = numbered_set views port v (with_name v x) rule.numbered at refl;
      counted = counted_set views port v (with_name v x) rule.counted at refl;
      handed = rule.handed ++ h ∷ [];
      in_order = λ slot h. stays slot h ∙ rule.in_order slot h ∙ ap (of_slot slot) (sym moved);
      no_other = λ slot h. ap (of_slot slot) moved ∙ rule.no_other slot h;
      by_worker = λ k. taken_more views port k v rule.handed h at place (rule.by_worker k);
      serials = λ slot h. subst (IsRun unposted) (sym (stays slot h)) (rule.serials slot h);
    }

-- a take by a worker keeps the rule
pub pops : (port worker : ℕ) (v : JobView) → v.number ≡ worker + 17 → Pops QueueRule port v (Takes v)
pops port worker v own x waiting views rule at =
    let kept = taken_rule port worker v x waiting views at (sym (rule.numbered port v at) ∙ own) rule in
    (with_name v x, kept, (refl, (waiting, record { views = views; place = port; own = at; rule = rule; kept = kept })))

-- a look that changes nothing keeps the rule
pub learns : (port : ℕ) (v : JobView) → Learns QueueRule port v (Sees v)
learns port v waiting views rule at =
    record { views = views; place = port; own = at; rule = rule; kept = subst (QueueRule waiting) (sym (set_again views port v at)) rule }

-- the names posted and taken stay when the maker makes a pass
names_forked : (views : List JobView) (port other : ℕ) (v l r : JobView) → get_elem? views port ≡ some v → v.names ≡ [] → l.names ≡ [] → r.names ≡ [] → names_at (set views port l ++ r ∷ []) other ≡ names_at views other
names_forked views port other v l r at old left right = names_at_new (set views port l) r other right ∙ dite (ℕ_discrete other port)
    (λ here. ap (names_at (set views port l)) here ∙ names_at_set views port v l at ∙ left ∙ sym old ∙ sym (names_at_view views port v at) ∙ ap (names_at views) (sym here))
    (λ apart. names_at_other views port other l apart)

-- the views are numbered also with a new one at the end
numbered_new : (views : List JobView) (r : JobView) → Numbered views → r.number ≡ length views → Numbered (views ++ r ∷ [])
numbered_new views r all last place u there = ⊎_elim
    (λ (x : get_elem? views place ≡ some u). all place u x)
    (λ (x : (r ≡ u) × (place ≡ length views)). ap (λ (y : JobView). y.number) (sym x.0) ∙ last ∙ sym x.1)
    (at_new views r u place there)

-- the maker's count after one pass more
counted_new : (views : List JobView) (v r : JobView) → get_elem? views 0 ≡ some v → v.made ≡ length views → Counted (views ++ r ∷ [])
counted_new views v r at count u there = ⊎_elim
    (λ (x : get_elem? views 0 ≡ some u).
    let same : v.made ≡ u.made = ap (λ (y : JobView). y.made) (some-injective v u (sym at ∙ x)) in
    omega (arith, length_push views r))
    (λ (x : (r ≡ u) × (0 ≡ length views)). absurd (nowhere views v at x.1))
    (at_new views r u 0 there)
  where
    nowhere : (views : List JobView) (v : JobView) → get_elem? views 0 ≡ some v → 0 ≡ length views → ⊥
    nowhere [] v at none = some-ne-none v (sym at)
    nowhere (u ∷ us) v at none = omega arith

-- a new pass keeps the rule
pub forks : (port made : ℕ) (v : JobView) → v ≡ maker made → Forks QueueRule port v (maker (made + 1)) (unused (made + 1))
forks port made v is waiting views rule at =
    let place : port ≡ 0 = sym (rule.numbered port v at) ∙ ap (λ (y : JobView). y.number) is in
    let first : get_elem? views 0 ≡ some v = ap (get_elem? views) (sym place) ∙ at in
    let l : JobView = maker (made + 1) in
    let r : JobView = unused (made + 1) in
    let count : v.made + 1 ≡ length views = rule.counted v first in
    let was : v.made ≡ made = ap (λ (y : JobView). y.made) is in
    let long : length (set views port l) ≡ length views = length-set views port l in
    let same : (other : ℕ) → names_at (set views port l ++ r ∷ []) other ≡ names_at views other =
    λ other. names_forked views port other v l r at (ap (λ (y : JobView). y.names) is) refl refl in
    let front : get_elem? (set views port l) 0 ≡ some l = ap (λ k. get_elem? (set views k l) 0) place ∙ set_front views v l first in
    record {
      numbered = numbered_new (set views port l) r (numbered_set views port v l rule.numbered at (sym (ap (λ (y : JobView). y.number) is))) (omega arith);
      counted = counted_new (set views port l) l r front (omega arith);
      handed = rule.handed;
      in_order = λ slot h. same (slot + 1) ∙ rule.in_order slot h;
      no_other = rule.no_other;
      by_worker = λ worker. same (worker + 17) ∙ rule.by_worker worker;
      serials = λ slot h. subst (IsRun unposted) (sym (same (slot + 1))) (rule.serials slot h);
    }
  where
    set_front : (views : List JobView) (v l : JobView) → get_elem? views 0 ≡ some v → get_elem? (set views 0 l) 0 ≡ some l
    set_front [] v l at = absurd (some-ne-none v (sym at))
    set_front (u ∷ us) v l at = refl
