-- Each change of the owners, the open transactions and the item lists keeps them sound.
use Rattle.std.proofs.Common.{◌≡◌, ◌≢◌, ◌∙◌, ◌⊎◌, ◌+◌, ◌*◌, ◌<◌, ◌≤◌, ◌∷◌, Bool, List, None, Option, Some, [], ap, arith, false, inl, inr, length, refl, subst, sym, true, ℕ}
use Rattle.std.proofs.lemmas.Bool.{cases_eq, eq-eqb, false≢true, ne_eqb, or_left, or_right}
use Rattle.std.specs.Prelude.{filter, filter_map, if◌then◌else◌, is_none, is_some, not, sum_by, ◌&&◌, ◌==◌, ◌||◌}
use Rattle.xt_base.proofs.BusyLemmas.{fewer_busy, is_busy_in, one_more_busy}
use Rattle.xt_base.proofs.CostLemmas.{cost-with_marks}
use Rattle.xt_base.proofs.KeyLemmas.{at_filter, is_in_filter, is_in_filter_map, is_in_first, is_in_later, is_in_put_cases, is_in_without}
use Rattle.xt_base.proofs.LegLemmas.{is_in_with_marks, keeps_owner_aborted, keeps_owner_after, own_itself, own_one, own_trans, owned_there, owns_aborted, owns_after, rises_with_marks}
use Rattle.xt_base.proofs.MapLemmas.{at_put_other, at_put_same, at_without_other}
use Rattle.xt_base.proofs.RisingLemmas.{each_at, each_both, each_filter, each_in, each_map, each_other, each_passes, each_put, each_set_at, each_set_other, rises_filter, rises_filter_map, rises_put, rises_set_at, rises_without, sum_filter_le, sum_put_le, sum_set, sum_set_at, sum_without, weight_at}
use Rattle.xt_base.specs.Jobs.{activated, landed_items, waits_on, with_active}
use Rattle.xt_base.specs.Legs.{clean_leg, own_count, owner_aborted, owner_after, with_marks}
use Rattle.xt_base.specs.Maps.{at, is_in, put, set_at, without}
use Rattle.xt_base.specs.Sound.{AllBelow, AreSound, Each, IsBetween, IsFair, IsRising, Owns}
use Rattle.xt_base.specs.Space.{charge, cost, count_beside, flight_items, granted, is_listed, is_needed}
use Rattle.xt_base.specs.State.{Flight, Items, Leg, Transaction}
use Rattle.xt_base.specs.declared.steps.Owner.{Owner}
use Rattle.xt_base.specs.declared.steps.Owner.TheVariants.{Trans}

-- ---- busy by one of four
by_four : (o c f a x : Bool) → (o ≡ true → x ≡ true) → (c ≡ true → x ≡ true) → (f ≡ true → x ≡ true) → (a ≡ true → x ≡ true) → (o || (c || f || a)) ≡ true → x ≡ true
by_four true c f a x ho hc hf ha h = ho refl
by_four false true f a x ho hc hf ha h = hc refl
by_four false false true a x ho hc hf ha h = hf refl
by_four false false false true x ho hc hf ha h = ha refl
by_four false false false false x ho hc hf ha h = absurd (cc)

module _ (owners : List (ℕ × Owner)) (l : Items) (q : ℕ) where
  -- a block with an owner is busy
  pub busy_owned : is_in q owners ≡ true → is_busy_in owners l q ≡ true
  busy_owned h = or_left (is_in q owners) (is_listed l q) h

  -- a committed block is busy
  pub busy_committed : is_in q l.cil ≡ true → is_busy_in owners l q ≡ true
  busy_committed h = or_right (is_in q owners) (is_listed l q) (or_left (is_in q l.cil || is_in q (flight_items l.flight)) (is_in q l.ail) (or_left (is_in q l.cil) (is_in q (flight_items l.flight)) h))

  -- a block in flight is busy
  pub busy_flying : is_in q (flight_items l.flight) ≡ true → is_busy_in owners l q ≡ true
  busy_flying h = or_right (is_in q owners) (is_listed l q) (or_left (is_in q l.cil || is_in q (flight_items l.flight)) (is_in q l.ail) (or_right (is_in q l.cil) (is_in q (flight_items l.flight)) h))

  -- a block on the active list is busy
  pub busy_active : is_in q l.ail ≡ true → is_busy_in owners l q ≡ true
  busy_active h = or_right (is_in q owners) (is_listed l q) (or_right (is_in q l.cil || is_in q (flight_items l.flight)) (is_in q l.ail) h)

  -- what is busy is owned or on one of the lists
  pub busy_by : (x : Bool) → (is_in q owners ≡ true → x ≡ true) → (is_in q l.cil ≡ true → x ≡ true) → (is_in q (flight_items l.flight) ≡ true → x ≡ true) → (is_in q l.ail ≡ true → x ≡ true)
      → is_busy_in owners l q ≡ true → x ≡ true
  busy_by x ho hc hf ha h = by_four (is_in q owners) (is_in q l.cil) (is_in q (flight_items l.flight)) (is_in q l.ail) x ho hc hf ha h

-- a number that is this one, which is busy, or is busy
busy_too : (q b : ℕ) (busy : ℕ → Bool) → busy b ≡ true → ((q == b) || busy q) ≡ true → busy q ≡ true
busy_too q b busy here h =
    elim (cases_eq q b) [
      | inl same ↦ ap busy same ∙ here
      | inr other ↦ sym (ap (λ x. x || busy q) (ne_eqb q b other)) ∙ h
    ]

-- what somebody has and nobody else is one's own
pub mine_if : (there mine : Bool) → there ≡ true → (there && not mine) ≡ false → mine ≡ true
mine_if there true h free = refl
mine_if true false h free = absurd (cc)
mine_if false false h free = absurd (cc)

-- a block that is free or a transaction's own is no other's
pub none_else : (t b : ℕ) (owners : List (ℕ × Owner)) → (is_in b owners && not (is_some (own_count t (at b owners)))) ≡ false → (u : ℕ) → Owns owners u b → t ≡ u
none_else t b owners free u here = own_one t u (at b owners) (mine_if (is_in b owners) (is_some (own_count t (at b owners))) (owned_there u b owners here) free) here

-- ---- fairness under other owners
-- a transaction stays fair where it keeps its blocks
pub fair_with : {ends : ℕ} (os ns : List (ℕ × Owner)) (e : ℕ × Transaction) → ((b : ℕ) → Owns os e.0 b → Owns ns e.0 b) → IsFair ends os e → IsFair ends ns e
fair_with os ns e still fair = record {
  unit = fair.unit;
  rising = fair.rising;
  covered = fair.covered;
  owned = each_map (λ c. Owns os e.0 c.0) (λ c. Owns ns e.0 c.0) e.1.leg.changes (λ c h. still c.0 h) fair.owned;
  holds_rise = fair.holds_rise;
  holds_owned = each_map (λ b. Owns os e.0 b) (λ b. Owns ns e.0 b) e.1.leg.holds still fair.holds_owned;
}

-- a leg neither changed a block nor has its hold mark
abbrev pub IsApart : ℕ → ℕ × Transaction → Type 0
IsApart b e = Each (λ c. c.0 ≢ b) e.1.leg.changes × Each (λ k. k ≢ b) e.1.leg.holds

-- a transaction stays fair where it loses a block that its leg is apart from
pub fair_without : {ends : ℕ} (b : ℕ) (owners : List (ℕ × Owner)) (e : ℕ × Transaction) → IsFair ends owners e → IsApart b e → IsFair ends (without b owners) e
fair_without b owners e fair apart =
    let still : (q : ℕ) → Owns owners e.0 q → q ≢ b → Owns (without b owners) e.0 q = λ q own other. ap (λ o. is_some (own_count e.0 o)) (at_without_other b q owners other) ∙ own in
    record {
      unit = fair.unit;
      rising = fair.rising;
      covered = fair.covered;
      owned =
          each_map (λ c. Owns owners e.0 c.0 × (c.0 ≢ b)) (λ c. Owns (without b owners) e.0 c.0) e.1.leg.changes (λ c both. still c.0 both.0 both.1)
          (each_both (λ c. Owns owners e.0 c.0) (λ c. c.0 ≢ b) e.1.leg.changes fair.owned apart.0);
      holds_rise = fair.holds_rise;
      holds_owned =
          each_map (λ q. Owns owners e.0 q × (q ≢ b)) (λ q. Owns (without b owners) e.0 q) e.1.leg.holds (λ q both. still q both.0 both.1)
          (each_both (λ q. Owns owners e.0 q) (λ q. q ≢ b) e.1.leg.holds fair.holds_owned apart.1);
    }

-- a leg is apart from what its transaction does not have
pub apart_from : {ends : ℕ} (b : ℕ) (owners : List (ℕ × Owner)) (e : ℕ × Transaction) → IsFair ends owners e → (Owns owners e.0 b → ⊥) → IsApart b e
apart_from b owners e fair none = (
  each_map (λ c. Owns owners e.0 c.0) (λ c. c.0 ≢ b) e.1.leg.changes (λ c own same. none (subst (λ (x : ℕ). Owns owners e.0 x) same own)) fair.owned,
  each_map (λ q. Owns owners e.0 q) (λ q. q ≢ b) e.1.leg.holds (λ q own same. none (subst (λ (x : ℕ). Owns owners e.0 x) same own)) fair.holds_owned,
)

-- ---- the flight between the landed and the open checkpoints
between_committed : (o : Option Flight) (l : Items) (cil : List (ℕ × List ℕ)) → IsBetween o l → IsBetween o (record l { cil = cil })
between_committed None l cil h = tt
between_committed (Some f) l cil h = h

between_cleaned : (o : Option Flight) (l : Items) (ail : List (ℕ × ℕ)) (q : ℕ × ℕ → Bool) → IsBetween o l → IsBetween o (record l { ail = ail; landed = filter q l.landed })
between_cleaned None l ail q h = tt
between_cleaned (Some f) l ail q h = (h.0, each_filter (λ e. e.0 < f.number) q l.landed h.1)

no_flight : (ends : ℕ) (o : Option Flight) → is_none o ≡ true → cost ends (flight_items o) ≡ 0
no_flight ends None h = refl
no_flight ends (Some f) h = absurd (cc)

-- ---- a new mount
-- a new mount
pub parts_empty : (ends log_bytes : ℕ) → AreSound ends log_bytes [] [] (record { open_number = 1; cil = []; flight = None; ail = []; landed = [] })
parts_empty ends log_bytes = record {
  space = omega arith;
  busy = omega arith;
  owners_rise = tt;
  transactions_rise = tt;
  cil_rises = tt;
  flight_rises = tt;
  ail_rises = tt;
  landed_rises = tt;
  landed_below = tt;
  landed_needed = tt;
  flying = tt;
  fair = tt;
}

-- ---- the active list after a landing
step_rises : (gone there : Bool) (b number : ℕ) (ail : List (ℕ × ℕ)) → IsRising ail → IsRising (if gone then without b ail else (if there then ail else put b number ail))
step_rises true there b number ail r = rises_without 0 b ail r
step_rises false true b number ail r = r
step_rises false false b number ail r = rises_put 0 b number ail (omega arith) r

step_in : (gone there : Bool) (q b number : ℕ) (ail : List (ℕ × ℕ)) → is_in q (if gone then without b ail else (if there then ail else put b number ail)) ≡ true → (q ≡ b) ⊎ (is_in q ail ≡ true)
step_in true there q b number ail h = inr (is_in_without q b ail h)
step_in false true q b number ail h = inr h
step_in false false q b number ail h = is_in_put_cases q b number ail h

-- the active list after one item
abbrev pub activated_one : ℕ → ℕ × List ℕ → List (ℕ × ℕ) → List (ℕ × ℕ)
activated_one number e ail = if length e.1 == 0 then without e.0 ail else (if is_in e.0 ail then ail else put e.0 number ail)

-- the active list rises after a landing
pub rises_activated : (number : ℕ) (es : List (ℕ × List ℕ)) (ail : List (ℕ × ℕ)) → IsRising ail → IsRising (activated number es ail)
rises_activated number [] ail r = r
rises_activated number (e ∷ es) ail r = rises_activated number es (activated_one number e ail) (step_rises (length e.1 == 0) (is_in e.0 ail) e.0 number ail r)

-- what is active landed or was active
pub is_in_activated : (q number : ℕ) (es : List (ℕ × List ℕ)) (ail : List (ℕ × ℕ)) → is_in q (activated number es ail) ≡ true → (is_in q es ≡ true) ⊎ (is_in q ail ≡ true)
is_in_activated q number [] ail h = inr h
is_in_activated q number (e ∷ es) ail h =
    elim (is_in_activated q number es (activated_one number e ail) h) [
      | inl landed ↦ inl (is_in_later q e es landed)
      | inr there ↦
          elim (step_in (length e.1 == 0) (is_in e.0 ail) q e.0 number ail there) [
            | inl same ↦ inl (is_in_first q e es same)
            | inr old ↦ inr old
          ]
    ]

-- a transaction's blocks wait for no checkpoint
owns_landed : (number u b : ℕ) (owners : List (ℕ × Owner)) → Owns owners u b → Owns (filter (λ e. not (waits_on number e.1)) owners) u b
owns_landed number u b owners h =
    let own = own_trans u (at b owners) h in
    ap (λ o. is_some (own_count u o)) (at_filter b (Trans u own.0) (λ e. not (waits_on number e.1)) owners own.1 refl) ∙ ap is_some (own_itself u own.0)

module _ (ends log_bytes : ℕ) (owners : List (ℕ × Owner)) (ts : List (ℕ × Transaction)) (l : Items) (h : AreSound ends log_bytes owners ts l) where
  -- ---- a transaction opens
  -- a transaction opens, within the log
  pub parts_opened : (t : ℕ) (trans : Transaction) → IsFair ends owners (t, trans)
      → granted ts + cost ends l.cil + cost ends (flight_items l.flight) + sum_by (λ e. e.1) l.landed + trans.unit * trans.legs ≤ log_bytes → AreSound ends log_bytes owners (put t trans ts) l
  parts_opened t trans fair room = record {
    space = omega (arith, room, sum_put_le (λ e. e.1.unit * e.1.legs) t trans ts);
    busy = h.busy;
    owners_rise = h.owners_rise;
    transactions_rise = rises_put 0 t trans ts (omega arith) h.transactions_rise;
    cil_rises = h.cil_rises;
    flight_rises = h.flight_rises;
    ail_rises = h.ail_rises;
    landed_rises = h.landed_rises;
    landed_below = h.landed_below;
    landed_needed = h.landed_needed;
    flying = h.flying;
    fair = each_put (IsFair ends owners) t trans ts fair h.fair;
  }

  -- ---- a transaction has another leg
  -- a transaction has another leg
  pub parts_leg : (t : ℕ) (trans : Transaction) (leg : Leg) → at t ts ≡ Some trans → IsFair ends owners (t, record trans { leg = leg }) → AreSound ends log_bytes owners (set_at t (record trans { leg = leg }) ts) l
  parts_leg t trans leg is fair =
      let space = h.space in
      record {
        space = omega (arith, space, sum_set_at (λ e. e.1.unit * e.1.legs) t trans (record trans { leg = leg }) ts is refl);
        busy = h.busy;
        owners_rise = h.owners_rise;
        transactions_rise = rises_set_at 0 t (record trans { leg = leg }) ts h.transactions_rise;
        cil_rises = h.cil_rises;
        flight_rises = h.flight_rises;
        ail_rises = h.ail_rises;
        landed_rises = h.landed_rises;
        landed_below = h.landed_below;
        landed_needed = h.landed_needed;
        flying = h.flying;
        fair = each_set_at (IsFair ends owners) t (record trans { leg = leg }) ts fair h.fair;
      }

  -- ---- a transaction locks a block that no other has
  module _ (t b count : ℕ) (free : (u : ℕ) → Owns owners u b → t ≡ u) where
    -- each keeps its own
    owns_locked : (u q : ℕ) → Owns owners u q → Owns (put b (Trans t count) owners) u q
    owns_locked u q own =
        elim (cases_eq q b) [
          | inl same ↦
              let here : Owns owners u b = subst (λ (x : ℕ). Owns owners u x) same own in
              let one : t ≡ u = free u here in
              let now : own_count t (at q (put b (Trans t count) owners)) ≡ Some count = ap (λ (x : ℕ). own_count t (at x (put b (Trans t count) owners))) same ∙ ap (own_count t) (at_put_same b (Trans t count) owners) ∙ own_itself t count in
              subst (λ (x : ℕ). Owns (put b (Trans t count) owners) x q) one (ap is_some now)
          | inr other ↦ ap (λ o. is_some (own_count u o)) (at_put_other b q (Trans t count) owners other) ∙ own
        ]

    still_busy : (q : ℕ) → is_busy_in (put b (Trans t count) owners) l q ≡ true → ((q == b) || is_busy_in owners l q) ≡ true
    still_busy q busy =
        elim (cases_eq q b) [
          | inl same ↦ ap (λ x. x || is_busy_in owners l q) (eq-eqb q b same)
          | inr other ↦
              ap (λ x. x || is_busy_in owners l q) (ne_eqb q b other)
              ∙ sym (ap (λ o. is_some o || is_listed l q) (at_put_other b q (Trans t count) owners other)) ∙ busy
        ]

    -- a transaction locks a block that no other has, where it is busy or one more may be
    pub parts_locked : (is_busy_in owners l b ≡ true) ⊎ (length owners + count_beside owners l < 64) → AreSound ends log_bytes (put b (Trans t count) owners) ts l
    parts_locked room =
        let rises : IsRising (put b (Trans t count) owners) = rises_put 0 b (Trans t count) owners (omega arith) h.owners_rise in
        let few = h.busy in
        record {
          space = h.space;
          busy =
              elim room [
                | inl here ↦ omega (arith, few, fewer_busy (put b (Trans t count) owners) owners l l rises h.cil_rises h.flight_rises h.ail_rises (λ q busy. busy_too q b (is_busy_in owners l) here (still_busy q busy)))
                | inr less ↦ omega (arith, less, one_more_busy (put b (Trans t count) owners) owners l l b rises h.cil_rises h.flight_rises h.ail_rises still_busy)
              ];
          owners_rise = rises;
          transactions_rise = h.transactions_rise;
          cil_rises = h.cil_rises;
          flight_rises = h.flight_rises;
          ail_rises = h.ail_rises;
          landed_rises = h.landed_rises;
          landed_below = h.landed_below;
          landed_needed = h.landed_needed;
          flying = h.flying;
          fair = each_map (IsFair ends owners) (IsFair ends (put b (Trans t count) owners)) ts (λ e fair. fair_with owners (put b (Trans t count) owners) e (λ q own. owns_locked e.0 q own) fair) h.fair;
        }

  -- ---- a transaction ends
  module _ (t : ℕ) (trans : Transaction) (is : at t ts ≡ Some trans) where
    -- what a transaction was granted is in the sum
    pub granted_less : granted (without t ts) + trans.unit * trans.legs ≡ granted ts
    granted_less = omega (arith, sum_without (λ e. e.1.unit * e.1.legs) t ts, ap (weight_at (λ e. e.1.unit * e.1.legs) t) is)

    fair_others : (ns : List (ℕ × Owner)) → ((u b : ℕ) → u ≢ t → Owns owners u b → Owns ns u b) → Each (IsFair ends ns) (without t ts)
    fair_others ns still =
        each_map (λ e. IsFair ends owners e × (e.0 ≢ t)) (IsFair ends ns) (without t ts) (λ e both. fair_with owners ns e (λ b own. still e.0 b both.1 own) both.0) (each_other (IsFair ends owners) 0 t ts h.transactions_rise h.fair)

    -- the transaction with a clean leg, and so many legs left
    abbrev pub rolled : ℕ → List (ℕ × Transaction)
    rolled legs = set_at t (record trans { legs = legs; leg = clean_leg }) ts

    -- what is granted then
    pub granted_rolled : (legs : ℕ) → granted (rolled legs) ≡ granted (without t ts) + trans.unit * legs
    granted_rolled legs = omega (arith, granted_less, sum_set (λ e. e.1.unit * e.1.legs) t trans (record trans { legs = legs; leg = clean_leg }) ts is)

    fair_rolled : (ns : List (ℕ × Owner)) (legs : ℕ) → ((u b : ℕ) → u ≢ t → Owns owners u b → Owns ns u b) → Each (IsFair ends ns) (rolled legs)
    fair_rolled ns legs still =
        each_set_other (IsFair ends ns) 0 t (record trans { legs = legs; leg = clean_leg }) ts h.transactions_rise (record { unit = omega arith; rising = tt; covered = tt; owned = tt; holds_rise = tt; holds_owned = tt })
        (each_map (IsFair ends owners) (λ e. e.0 ≢ t → IsFair ends ns e) ts (λ e fair other. fair_with owners ns e (λ b own. still e.0 b other own) fair) h.fair)

    aborted_with : (us : List (ℕ × Transaction)) → granted us ≤ granted ts → IsRising us → Each (IsFair ends (filter_map (owner_aborted t trans.leg) owners)) us → AreSound ends log_bytes (filter_map (owner_aborted t trans.leg) owners) us l
    aborted_with us less rising fair =
        let ns : List (ℕ × Owner) = filter_map (owner_aborted t trans.leg) owners in
        let rises : IsRising ns = rises_filter_map 0 (owner_aborted t trans.leg) owners (keeps_owner_aborted t trans.leg) h.owners_rise in
        let space = h.space in
        let few = h.busy in
        record {
          space = omega (arith, space, less);
          busy =
              omega (
                arith,
                few,
                fewer_busy ns owners l l rises h.cil_rises h.flight_rises h.ail_rises
                    (λ q busy. busy_by ns l q (is_busy_in owners l q) (λ o. busy_owned owners l q (is_in_filter_map q (owner_aborted t trans.leg) owners (keeps_owner_aborted t trans.leg) o))
                    (busy_committed owners l q) (busy_flying owners l q) (busy_active owners l q) busy),
              );
          owners_rise = rises;
          transactions_rise = rising;
          cil_rises = h.cil_rises;
          flight_rises = h.flight_rises;
          ail_rises = h.ail_rises;
          landed_rises = h.landed_rises;
          landed_below = h.landed_below;
          landed_needed = h.landed_needed;
          flying = h.flying;
          fair = fair;
        }

    -- a leg is given up and its transaction ends
    pub parts_aborted : AreSound ends log_bytes (filter_map (owner_aborted t trans.leg) owners) (without t ts) l
    parts_aborted =
        aborted_with (without t ts) (omega (arith, granted_less)) (rises_without 0 t ts h.transactions_rise)
        (fair_others (filter_map (owner_aborted t trans.leg) owners) (λ u b other own. owns_aborted t u b trans.leg owners other own))

    -- a leg is given up and its transaction stays, with no leg left
    pub parts_given_up : AreSound ends log_bytes (filter_map (owner_aborted t trans.leg) owners) (rolled 0) l
    parts_given_up =
        aborted_with (rolled 0) (omega (arith, granted_less, granted_rolled 0)) (rises_set_at 0 t (record trans { legs = 0; leg = clean_leg }) ts h.transactions_rise)
        (fair_rolled (filter_map (owner_aborted t trans.leg) owners) 0 (λ u b other own. owns_aborted t u b trans.leg owners other own))

    ended_with : (us : List (ℕ × Transaction)) → granted us + cost ends (with_marks trans.leg.changes l.cil) + cost ends (flight_items l.flight) + sum_by (λ e. e.1) l.landed ≤ log_bytes → IsRising us
        → Each (IsFair ends (filter_map (owner_after t trans.leg l.open_number) owners)) us
        → AreSound ends log_bytes (filter_map (owner_after t trans.leg l.open_number) owners) us (record l { cil = with_marks trans.leg.changes l.cil })
    ended_with us space rising fair =
        let ns : List (ℕ × Owner) = filter_map (owner_after t trans.leg l.open_number) owners in
        let n : Items = record l { cil = with_marks trans.leg.changes l.cil } in
        let old : IsFair ends owners (t, trans) = each_at (IsFair ends owners) t trans ts is h.fair in
        let rises : IsRising ns = rises_filter_map 0 (owner_after t trans.leg l.open_number) owners (keeps_owner_after t trans.leg l.open_number) h.owners_rise in
        let marked : IsRising n.cil = rises_with_marks trans.leg.changes l.cil h.cil_rises in
        let few = h.busy in
        let listed : (q : ℕ) → is_in q n.cil ≡ true → is_busy_in owners l q ≡ true =
        λ q there.
        elim (is_in_with_marks q trans.leg.changes l.cil there) [
          | inl changed ↦ busy_owned owners l q (owned_there t q owners (each_in (λ b. Owns owners t b) q trans.leg.changes changed old.owned))
          | inr before ↦ busy_committed owners l q before
        ] in
        record {
          space = space;
          busy =
              omega (
                arith,
                few,
                fewer_busy ns owners n l rises marked h.flight_rises h.ail_rises
                    (λ q busy. busy_by ns n q (is_busy_in owners l q) (λ o. busy_owned owners l q (is_in_filter_map q (owner_after t trans.leg l.open_number) owners (keeps_owner_after t trans.leg l.open_number) o))
                    (listed q) (busy_flying owners l q) (busy_active owners l q) busy),
              );
          owners_rise = rises;
          transactions_rise = rising;
          cil_rises = marked;
          flight_rises = h.flight_rises;
          ail_rises = h.ail_rises;
          landed_rises = h.landed_rises;
          landed_below = h.landed_below;
          landed_needed = h.landed_needed;
          flying = between_committed l.flight l (with_marks trans.leg.changes l.cil) h.flying;
          fair = fair;
        }

    -- what a commit adds to the items was charged
    pub cost_added : cost ends (with_marks trans.leg.changes l.cil) ≤ cost ends l.cil + charge ends trans.leg.changes
    cost_added =
        let old : IsFair ends owners (t, trans) = each_at (IsFair ends owners) t trans ts is h.fair in
        cost-with_marks ends trans.leg.changes l.cil h.cil_rises old.covered

    -- the marks that reach the list were charged, and the grant goes
    pub parts_ended : charge ends trans.leg.changes ≤ trans.unit * trans.legs
        → AreSound ends log_bytes (filter_map (owner_after t trans.leg l.open_number) owners) (without t ts) (record l { cil = with_marks trans.leg.changes l.cil })
    parts_ended within =
        let space = h.space in
        ended_with (without t ts) (omega (arith, space, within, granted_less, cost_added)) (rises_without 0 t ts h.transactions_rise)
        (fair_others (filter_map (owner_after t trans.leg l.open_number) owners) (λ u b other own. owns_after t u b trans.leg l.open_number owners other own))

    -- a leg is committed and its transaction goes on, with so many legs left for which there is room
    pub parts_rolled : (legs : ℕ) → granted (without t ts) + trans.unit * legs + cost ends (with_marks trans.leg.changes l.cil) + cost ends (flight_items l.flight) + sum_by (λ e. e.1) l.landed ≤ log_bytes
        → AreSound ends log_bytes (filter_map (owner_after t trans.leg l.open_number) owners) (rolled legs) (record l { cil = with_marks trans.leg.changes l.cil })
    parts_rolled legs room =
        ended_with (rolled legs) (omega (arith, room, granted_rolled legs)) (rises_set_at 0 t (record trans { legs = legs; leg = clean_leg }) ts h.transactions_rise)
        (fair_rolled (filter_map (owner_after t trans.leg l.open_number) owners) legs (λ u b other own. owns_after t u b trans.leg l.open_number owners other own))

  -- ---- a block loses its owner
  -- a block loses its owner, where the open transactions are fair without it
  pub parts_unowned : (b : ℕ) → Each (IsApart b) ts → AreSound ends log_bytes (without b owners) ts l
  parts_unowned b apart =
      let ns : List (ℕ × Owner) = without b owners in
      let rises : IsRising ns = rises_without 0 b owners h.owners_rise in
      let few = h.busy in
      record {
        space = h.space;
        busy =
            omega (
              arith,
              few,
              fewer_busy ns owners l l rises h.cil_rises h.flight_rises h.ail_rises
                  (λ q busy. busy_by ns l q (is_busy_in owners l q) (λ o. busy_owned owners l q (is_in_without q b owners o)) (busy_committed owners l q) (busy_flying owners l q) (busy_active owners l q) busy),
            );
        owners_rise = rises;
        transactions_rise = h.transactions_rise;
        cil_rises = h.cil_rises;
        flight_rises = h.flight_rises;
        ail_rises = h.ail_rises;
        landed_rises = h.landed_rises;
        landed_below = h.landed_below;
        landed_needed = h.landed_needed;
        flying = h.flying;
        fair = each_map (λ e. IsFair ends owners e × IsApart b e) (IsFair ends ns) ts (λ e both. fair_without b owners e both.0 both.1) (each_both (IsFair ends owners) (IsApart b) ts h.fair apart);
      }

  -- ---- blocks leave the active list
  -- blocks leave the active list, and landed checkpoints count no more
  pub parts_cleaned : (p : ℕ × ℕ → Bool) → AreSound ends log_bytes owners ts (with_active (filter p l.ail) l.landed l)
  parts_cleaned p =
      let q : ℕ × ℕ → Bool = λ e. is_needed (filter p l.ail) e.0 in
      let n : Items = record l { ail = filter p l.ail; landed = filter q l.landed } in
      let active : IsRising n.ail = rises_filter 0 p l.ail h.ail_rises in
      let space = h.space in
      let few = h.busy in
      record {
        space = omega (arith, space, sum_filter_le (λ e. e.1) q l.landed);
        busy =
            omega (
              arith,
              few,
              fewer_busy owners owners n l h.owners_rise h.cil_rises h.flight_rises active
                  (λ k busy. busy_by owners n k (is_busy_in owners l k) (busy_owned owners l k) (busy_committed owners l k) (busy_flying owners l k) (λ there. busy_active owners l k (is_in_filter k p l.ail there)) busy),
            );
        owners_rise = h.owners_rise;
        transactions_rise = h.transactions_rise;
        cil_rises = h.cil_rises;
        flight_rises = h.flight_rises;
        ail_rises = active;
        landed_rises = rises_filter 0 q l.landed h.landed_rises;
        landed_below = each_filter (λ e. e.0 < l.open_number) q l.landed h.landed_below;
        landed_needed = each_passes q l.landed;
        flying = between_cleaned l.flight l (filter p l.ail) q h.flying;
        fair = h.fair;
      }

  -- ---- a checkpoint begins
  -- a checkpoint begins
  pub parts_flown : (pieces : List (List ℕ)) → is_none l.flight ≡ true
      → AreSound ends log_bytes owners ts (record l { open_number = l.open_number + 1; cil = []; flight = Some (record { number = l.open_number; items = l.cil; pieces = pieces }) })
  parts_flown pieces none =
      let n : Items = record l { open_number = l.open_number + 1; cil = []; flight = Some (record { number = l.open_number; items = l.cil; pieces = pieces }) } in
      let space = h.space in
      let few = h.busy in
      record {
        space = omega (arith, space, no_flight ends l.flight none);
        busy =
            omega (
              arith,
              few,
              fewer_busy owners owners n l h.owners_rise tt h.cil_rises h.ail_rises
                  (λ q busy. busy_by owners n q (is_busy_in owners l q) (busy_owned owners l q) (λ there. absurd (false≢true there)) (busy_committed owners l q) (busy_active owners l q) busy),
            );
        owners_rise = h.owners_rise;
        transactions_rise = h.transactions_rise;
        cil_rises = tt;
        flight_rises = h.cil_rises;
        ail_rises = h.ail_rises;
        landed_rises = h.landed_rises;
        landed_below = each_map (λ e. e.0 < l.open_number) (λ e. e.0 < l.open_number + 1) l.landed (λ e less. omega (arith, less)) h.landed_below;
        landed_needed = h.landed_needed;
        flying = (omega arith, h.landed_below);
        fair = h.fair;
      }

  -- ---- the flight is given up
  -- the flight is given up
  pub parts_failed : AreSound ends log_bytes owners ts (record l { flight = None })
  parts_failed =
      let n : Items = record l { flight = None } in
      let space = h.space in
      let few = h.busy in
      record {
        space = omega (arith, space);
        busy =
            omega (
              arith,
              few,
              fewer_busy owners owners n l h.owners_rise h.cil_rises tt h.ail_rises
                  (λ q busy. busy_by owners n q (is_busy_in owners l q) (busy_owned owners l q) (busy_committed owners l q) (λ there. absurd (false≢true there)) (busy_active owners l q) busy),
            );
        owners_rise = h.owners_rise;
        transactions_rise = h.transactions_rise;
        cil_rises = h.cil_rises;
        flight_rises = tt;
        ail_rises = h.ail_rises;
        landed_rises = h.landed_rises;
        landed_below = h.landed_below;
        landed_needed = h.landed_needed;
        flying = tt;
        fair = h.fair;
      }

  -- ---- the flight is on the log
  -- the flight is on the log
  pub parts_landed : (f : Flight) → l.flight ≡ Some f → AreSound ends log_bytes (filter (λ e. not (waits_on f.number e.1)) owners) ts (landed_items ends f l)
  parts_landed f is =
      let ns : List (ℕ × Owner) = filter (λ e. not (waits_on f.number e.1)) owners in
      let ail : List (ℕ × ℕ) = activated f.number f.items l.ail in
      let n : Items = landed_items ends f l in
      let between : (f.number < l.open_number) × AllBelow f.number l.landed = subst (λ o. IsBetween o l) is h.flying in
      let rises : IsRising ns = rises_filter 0 (λ e. not (waits_on f.number e.1)) owners h.owners_rise in
      let active : IsRising ail = rises_activated f.number f.items l.ail h.ail_rises in
      let flies : (q : ℕ) → is_in q f.items ≡ true → is_busy_in owners l q ≡ true = λ q there. busy_flying owners l q (ap (λ o. is_in q (flight_items o)) is ∙ there) in
      let space = h.space in
      let few = h.busy in
      record {
        space =
            omega (arith, space, ap (λ o. cost ends (flight_items o)) is, sum_filter_le (λ e. e.1) (λ e. is_needed ail e.0) (put f.number (cost ends f.items) l.landed), sum_put_le (λ e. e.1) f.number (cost ends f.items) l.landed);
        busy =
            omega (
              arith,
              few,
              fewer_busy ns owners n l rises h.cil_rises tt active
                  (λ q busy. busy_by ns n q (is_busy_in owners l q) (λ o. busy_owned owners l q (is_in_filter q (λ e. not (waits_on f.number e.1)) owners o)) (busy_committed owners l q) (λ there. absurd (false≢true there))
                  (λ there. elim (is_in_activated q f.number f.items l.ail there) [ inl flew ↦ flies q flew | inr old ↦ busy_active owners l q old ]) busy),
            );
        owners_rise = rises;
        transactions_rise = h.transactions_rise;
        cil_rises = h.cil_rises;
        flight_rises = tt;
        ail_rises = active;
        landed_rises = rises_filter 0 (λ e. is_needed ail e.0) (put f.number (cost ends f.items) l.landed) (rises_put 0 f.number (cost ends f.items) l.landed (omega arith) h.landed_rises);
        landed_below =
            each_filter (λ e. e.0 < l.open_number) (λ e. is_needed ail e.0) (put f.number (cost ends f.items) l.landed)
            (each_put (λ e. e.0 < l.open_number) f.number (cost ends f.items) l.landed between.0 h.landed_below);
        landed_needed = each_passes (λ e. is_needed ail e.0) (put f.number (cost ends f.items) l.landed);
        flying = tt;
        fair = each_map (IsFair ends owners) (IsFair ends ns) ts (λ e fair. fair_with owners ns e (λ b own. owns_landed f.number e.0 b owners own) fair) h.fair;
      }
