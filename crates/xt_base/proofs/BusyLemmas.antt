-- How many blocks are busy: by the list of the busy blocks, each once.
use Rattle.std.proofs.Common.{◌≡◌, ◌∙◌, ◌+◌, ◌≤◌, ◌∷◌, Bool, List, [], ap, arith, cond, false, inl, inr, length, refl, suc, sym, true, ℕ}
use Rattle.std.proofs.lemmas.Bool.{cases_Bool, cases_eq, eq-eqb, ne_eqb, or_right}
use Rattle.std.proofs.lemmas.List.Sums.{sum_by-cons}
use Rattle.std.proofs.lemmas.Map.Made.{IsDistinct-from_count, length-le_from_is_member}
use Rattle.std.specs.Cmp.{nat_eq_equiv}
use Rattle.std.specs.List.{IsDistinct}
use Rattle.std.specs.Prelude.{count_by, is_some, nat_eq, not, ◌==◌, ◌||◌}
use Rattle.std.specs.Set.{unique_keys}
use Rattle.xt_base.proofs.KeyLemmas.{is_in_first, is_in_later}
use Rattle.xt_base.proofs.MapLemmas.{at_first, at_later}
use Rattle.xt_base.proofs.RisingLemmas.{each_in, each_map, none_below}
use Rattle.xt_base.specs.Maps.{has, is_in}
use Rattle.xt_base.specs.Sound.{AreSound, Each, IsRising, RisesFrom, RisesFromKeys}
use Rattle.xt_base.specs.Space.{count_beside, flight_items, is_listed}
use Rattle.xt_base.specs.State.{Items, Transaction}
use Rattle.xt_base.specs.declared.steps.Owner.{Owner}

-- ---- tests
or_same : (x y z : Bool) → y ≡ z → (x || y) ≡ (x || z)
or_same x y z h = ap (λ b. x || b) h

or_turn : (a b c : Bool) → (a || (b || c)) ≡ (b || (a || c))
or_turn false b c = refl
or_turn true false c = refl
or_turn true true c = refl

count_by_alike : {A : Type 0} (p q : A → Bool) (xs : List A) → ((x : A) → p x ≡ q x) → count_by p xs ≡ count_by q xs
count_by_alike p q [] h = refl
count_by_alike p q (x ∷ xs) h =
    omega (arith, count_by_alike p q xs h, ap {B = ℕ} (λ b. cond b 1 0) (h x), sum_by-cons (λ y. cond (p y) 1 0) x xs, sum_by-cons (λ y. cond (q y) 1 0) x xs)

count_by_every : {A : Type 0} (xs : List A) → count_by (λ x. true) xs ≡ length xs
count_by_every [] = refl
count_by_every {A} (x ∷ xs) = omega (arith, count_by_every xs, sum_by-cons (λ (y : A). cond true 1 0) x xs)

or_last : (a b c d : Bool) → (((a || b) || c) || d) ≡ (a || ((b || c) || d))
or_last false b c d = refl
or_last true b c d = refl

none_more : (b : Bool) → b ≡ (b || false)
none_more false = refl
none_more true = refl

-- a number that a list has already
old_key : (q k : ℕ) (xs : List ℕ) (b : Bool) → has xs k ≡ true → (has xs q || b) ≡ (has xs q || ((q == k) || b))
old_key q k xs b h =
    elim (cases_eq q k) [
      | inl same ↦
          let here : has xs q ≡ true = ap (has xs) same ∙ h in
          ap (λ x. x || b) here ∙ sym (ap (λ x. x || ((q == k) || b)) here)
      | inr other ↦ sym (ap (λ x. has xs q || (x || b)) (ne_eqb q k other))
    ]

unique_step : (k : ℕ) (xs : List ℕ) → has xs k ≡ false → unique_keys nat_eq (k ∷ xs) ≡ k ∷ unique_keys nat_eq xs
unique_step k xs h = ap (λ b. cond b (unique_keys nat_eq xs) (k ∷ unique_keys nat_eq xs)) h

module _ {V : Type 0} where
  -- ---- keys gathered, each once
  -- the keys of a map that a list lacks, before it
  abbrev pub gathered : List ℕ → List (ℕ × V) → List ℕ
  gathered xs [] = xs
  gathered xs (e ∷ es) = cond (has xs e.0) (gathered xs es) (e.0 ∷ gathered xs es)

  gathered_old : (xs : List ℕ) (e : ℕ × V) (es : List (ℕ × V)) → has xs e.0 ≡ true → gathered xs (e ∷ es) ≡ gathered xs es
  gathered_old xs e es h = ap (λ b. cond b (gathered xs es) (e.0 ∷ gathered xs es)) h

  gathered_new : (xs : List ℕ) (e : ℕ × V) (es : List (ℕ × V)) → has xs e.0 ≡ false → gathered xs (e ∷ es) ≡ e.0 ∷ gathered xs es
  gathered_new xs e es h = ap (λ b. cond b (gathered xs es) (e.0 ∷ gathered xs es)) h

  in_step : (q : ℕ) (e : ℕ × V) (es : List (ℕ × V)) → is_in q (e ∷ es) ≡ ((q == e.0) || is_in q es)
  in_step q e es =
      elim (cases_eq q e.0) [
        | inl same ↦ ap is_some (at_first q e es same) ∙ sym (ap (λ b. b || is_in q es) (eq-eqb q e.0 same))
        | inr other ↦ ap is_some (at_later q e es other) ∙ sym (ap (λ b. b || is_in q es) (ne_eqb q e.0 other))
      ]

  -- a number is gathered that the list has or the map
  pub has-gathered : (xs : List ℕ) (es : List (ℕ × V)) (q : ℕ) → has (gathered xs es) q ≡ (has xs q || is_in q es)
  has-gathered xs [] q = none_more (has xs q)
  has-gathered xs (e ∷ es) q =
      elim (cases_Bool (has xs e.0)) [
        | inl old ↦ ap (λ ys. has ys q) (gathered_old xs e es old) ∙ has-gathered xs es q ∙ old_key q e.0 xs (is_in q es) old ∙ sym (or_same (has xs q) (is_in q (e ∷ es)) ((q == e.0) || is_in q es) (in_step q e es))
        | inr new ↦
            ap (λ ys. has ys q) (gathered_new xs e es new) ∙ or_same (q == e.0) (has (gathered xs es) q) (has xs q || is_in q es) (has-gathered xs es q)
            ∙ or_turn (q == e.0) (has xs q) (is_in q es) ∙ sym (or_same (has xs q) (is_in q (e ∷ es)) ((q == e.0) || is_in q es) (in_step q e es))
      ]

  -- each key that the list lacks is gathered once
  pub length-gathered : (xs : List ℕ) (es : List (ℕ × V)) → length (gathered xs es) ≡ length xs + count_by (λ e. not (has xs e.0)) es
  length-gathered xs [] = omega arith
  length-gathered xs (e ∷ es) =
      elim (cases_Bool (has xs e.0)) [
        | inl old ↦
            omega (arith, ap length (gathered_old xs e es old), length-gathered xs es, sum_by-cons (λ (x : ℕ × V). cond (not (has xs x.0)) 1 0) e es, ap {B = ℕ} (λ b. cond (not b) 1 0) old)
        | inr new ↦
            omega (arith, ap length (gathered_new xs e es new), length-gathered xs es, sum_by-cons (λ (x : ℕ × V). cond (not (has xs x.0)) 1 0) e es, ap {B = ℕ} (λ b. cond (not b) 1 0) new)
      ]

  -- no number twice, where the keys rise
  pub unique-gathered : (xs : List ℕ) (n : ℕ) (es : List (ℕ × V)) → RisesFrom n es → unique_keys nat_eq xs ≡ xs → unique_keys nat_eq (gathered xs es) ≡ gathered xs es
  unique-gathered xs n [] r u = u
  unique-gathered xs n (e ∷ es) r u =
      let later : unique_keys nat_eq (gathered xs es) ≡ gathered xs es = unique-gathered xs (suc e.0) es r.1 u in
      elim (cases_Bool (has xs e.0)) [
        | inl old ↦ ap (unique_keys nat_eq) (gathered_old xs e es old) ∙ later ∙ sym (gathered_old xs e es old)
        | inr new ↦
            let absent : is_in e.0 es ≡ false = ap is_some (none_below e.0 (suc e.0) es (omega arith) r.1) in
            let apart : has (gathered xs es) e.0 ≡ false = has-gathered xs es e.0 ∙ ap (λ b. b || is_in e.0 es) new ∙ absent in
            ap (unique_keys nat_eq) (gathered_new xs e es new) ∙ unique_step e.0 (gathered xs es) apart ∙ ap (λ ys. e.0 ∷ ys) later ∙ sym (gathered_new xs e es new)
      ]

  -- each key of a map is one
  pub each_own : (es : List (ℕ × V)) → Each (λ e. is_in e.0 es ≡ true) es
  each_own [] = tt
  each_own (e ∷ es) = (is_in_first e.0 e es refl, each_map (λ x. is_in x.0 es ≡ true) (λ x. is_in x.0 (e ∷ es) ≡ true) es (λ x h. is_in_later x.0 e es h) (each_own es))

-- ---- the busy blocks
-- whether somebody has a block, or a list has it
abbrev pub is_busy_in : List (ℕ × Owner) → Items → ℕ → Bool
is_busy_in owners l q = is_in q owners || is_listed l q

-- each busy block once
abbrev pub busy_list : List (ℕ × Owner) → Items → List ℕ
busy_list owners l = gathered (gathered (gathered (gathered [] owners) l.cil) (flight_items l.flight)) l.ail

module _ (owners : List (ℕ × Owner)) (l : Items) where
  has_owned : (q : ℕ) → has (gathered [] owners) q ≡ is_in q owners
  has_owned q = has-gathered [] owners q

  has_committed : (q : ℕ) → has (gathered (gathered [] owners) l.cil) q ≡ (is_in q owners || is_in q l.cil)
  has_committed q = has-gathered (gathered [] owners) l.cil q ∙ ap (λ b. b || is_in q l.cil) (has_owned q)

  has_flying : (q : ℕ) → has (gathered (gathered (gathered [] owners) l.cil) (flight_items l.flight)) q ≡ (is_in q owners || is_in q l.cil || is_in q (flight_items l.flight))
  has_flying q =
      has-gathered (gathered (gathered [] owners) l.cil) (flight_items l.flight) q ∙ ap (λ b. b || is_in q (flight_items l.flight)) (has_committed q)

  -- the list has exactly the busy blocks
  pub has-busy_list : (q : ℕ) → has (busy_list owners l) q ≡ is_busy_in owners l q
  has-busy_list q =
      has-gathered (gathered (gathered (gathered [] owners) l.cil) (flight_items l.flight)) l.ail q ∙ ap (λ b. b || is_in q l.ail) (has_flying q)
      ∙ or_last (is_in q owners) (is_in q l.cil) (is_in q (flight_items l.flight)) (is_in q l.ail)

  -- its length is the count of busy blocks
  pub length-busy_list : length (busy_list owners l) ≡ length owners + count_beside owners l
  length-busy_list =
      omega (
        arith,
        length-gathered [] owners,
        count_by_every owners,
        length-gathered (gathered [] owners) l.cil,
        length-gathered (gathered (gathered [] owners) l.cil) (flight_items l.flight),
        length-gathered (gathered (gathered (gathered [] owners) l.cil) (flight_items l.flight)) l.ail,
        count_by_alike (λ e. not (has (gathered [] owners) e.0)) (λ e. not (is_in e.0 owners)) l.cil (λ e. ap not (has_owned e.0)),
        count_by_alike (λ e. not (has (gathered (gathered [] owners) l.cil) e.0)) (λ e. not (is_in e.0 owners || is_in e.0 l.cil)) (flight_items l.flight) (λ e. ap not (has_committed e.0)),
        count_by_alike (λ e. not (has (gathered (gathered (gathered [] owners) l.cil) (flight_items l.flight)) e.0))
            (λ e. not (is_in e.0 owners || is_in e.0 l.cil || is_in e.0 (flight_items l.flight))) l.ail (λ e. ap not (has_flying e.0)),
      )

  -- where the four maps rise, it has no block twice
  pub distinct-busy_list : IsRising owners → IsRising l.cil → IsRising (flight_items l.flight) → IsRising l.ail → IsDistinct nat_eq (busy_list owners l)
  distinct-busy_list o c f a =
      IsDistinct-from_count nat_eq_equiv (busy_list owners l)
      (ap length (unique-gathered (gathered (gathered (gathered [] owners) l.cil) (flight_items l.flight)) 0 l.ail a
      (unique-gathered (gathered (gathered [] owners) l.cil) 0 (flight_items l.flight) f (unique-gathered (gathered [] owners) 0 l.cil c (unique-gathered [] 0 owners o refl)))))

-- ---- counting by comparison
-- no more blocks are busy, where each that is was before
pub fewer_busy : (ns os : List (ℕ × Owner)) (n l : Items) → IsRising ns → IsRising n.cil → IsRising (flight_items n.flight) → IsRising n.ail
    → ((q : ℕ) → is_busy_in ns n q ≡ true → is_busy_in os l q ≡ true) → length ns + count_beside ns n ≤ length os + count_beside os l
fewer_busy ns os n l o c f a still =
    omega (
      arith,
      length-busy_list ns n,
      length-busy_list os l,
      length-le_from_is_member nat_eq_equiv (busy_list ns n) (busy_list os l) (distinct-busy_list ns n o c f a)
          (λ q h. has-busy_list os l q ∙ still q (sym (has-busy_list ns n q) ∙ h)),
    )

-- at most one more, where each that is busy was before or is this one
pub one_more_busy : (ns os : List (ℕ × Owner)) (n l : Items) (b : ℕ) → IsRising ns → IsRising n.cil → IsRising (flight_items n.flight) → IsRising n.ail
    → ((q : ℕ) → is_busy_in ns n q ≡ true → ((q == b) || is_busy_in os l q) ≡ true) → length ns + count_beside ns n ≤ length os + count_beside os l + 1
one_more_busy ns os n l b o c f a still =
    omega (
      arith,
      length-busy_list ns n,
      length-busy_list os l,
      length-le_from_is_member nat_eq_equiv (busy_list ns n) (b ∷ busy_list os l) (distinct-busy_list ns n o c f a)
          (λ q h. or_same (q == b) (has (busy_list os l) q) (is_busy_in os l q) (has-busy_list os l q) ∙ still q (sym (has-busy_list ns n q) ∙ h)),
    )

-- ---- at most 64 of each
-- a set of numbers as a map
abbrev pub marked : List ℕ → List (ℕ × ℕ)
marked [] = []
marked (k ∷ ks) = (k, k) ∷ marked ks

length-marked : (ks : List ℕ) → length (marked ks) ≡ length ks
length-marked [] = refl
length-marked (k ∷ ks) = ap suc (length-marked ks)

rises_marked : (n : ℕ) (ks : List ℕ) → RisesFromKeys n ks → RisesFrom n (marked ks)
rises_marked n [] r = tt
rises_marked n (k ∷ ks) r = (r.0, rises_marked (suc k) ks r.1)

each_marked : (P : ℕ → Type 0) (ks : List ℕ) → Each P ks → Each (λ (e : ℕ × ℕ). P e.0) (marked ks)
each_marked P [] all = tt
each_marked P (k ∷ ks) all = (all.0, each_marked P ks all.1)

module _ (ends log_bytes : ℕ) (owners : List (ℕ × Owner)) (transactions : List (ℕ × Transaction)) (l : Items) (sound : AreSound ends log_bytes owners transactions l) where
  module _ {V : Type 0} where
    -- a map whose keys are busy blocks
    pub few_busy : (m : List (ℕ × V)) → IsRising m → Each (λ e. is_busy_in owners l e.0 ≡ true) m → length m ≤ 64
    few_busy m r all =
        let busy = sound.busy in
        let distinct : IsDistinct nat_eq (gathered [] m) = IsDistinct-from_count nat_eq_equiv (gathered [] m) (ap length (unique-gathered [] 0 m r refl)) in
        let there : (q : ℕ) → has (gathered [] m) q ≡ true → has (busy_list owners l) q ≡ true =
        λ q h. has-busy_list owners l q ∙ each_in (λ k. is_busy_in owners l k ≡ true) q m (sym (has-gathered [] m q) ∙ h) all in
        omega (arith, busy, length-busy_list owners l, length-gathered [] m, count_by_every m, length-le_from_is_member nat_eq_equiv (gathered [] m) (busy_list owners l) distinct there)

  -- a rising set of busy blocks
  pub few_busy_keys : (ks : List ℕ) → RisesFromKeys 0 ks → Each (λ b. is_busy_in owners l b ≡ true) ks → length ks ≤ 64
  few_busy_keys ks r all =
      omega (arith, length-marked ks, few_busy (marked ks) (rises_marked 0 ks r) (each_marked (λ b. is_busy_in owners l b ≡ true) ks all))

  -- at most 64 items are committed
  pub few_committed : length l.cil ≤ 64
  few_committed =
      few_busy l.cil sound.cil_rises (each_map (λ e. is_in e.0 l.cil ≡ true) (λ e. is_busy_in owners l e.0 ≡ true) l.cil
      (λ e h. or_right (is_in e.0 owners) (is_listed l e.0) (ap (λ b. b || is_in e.0 (flight_items l.flight) || is_in e.0 l.ail) h)) (each_own l.cil))

  -- at most 64 items are in flight
  pub few_flying : length (flight_items l.flight) ≤ 64
  few_flying =
      few_busy (flight_items l.flight) sound.flight_rises (each_map (λ e. is_in e.0 (flight_items l.flight) ≡ true) (λ e. is_busy_in owners l e.0 ≡ true) (flight_items l.flight)
      (λ e h. or_right (is_in e.0 owners) (is_listed l e.0) (ap (λ b. b || is_in e.0 l.ail) (or_right (is_in e.0 l.cil) (is_in e.0 (flight_items l.flight)) h))) (each_own (flight_items l.flight)))

  -- at most 64 blocks are on the active list
  pub few_active : length l.ail ≤ 64
  few_active =
      few_busy l.ail sound.ail_rises (each_map (λ e. is_in e.0 l.ail ≡ true) (λ e. is_busy_in owners l e.0 ≡ true) l.ail
      (λ e h. or_right (is_in e.0 owners) (is_listed l e.0) (or_right (is_in e.0 l.cil || is_in e.0 (flight_items l.flight)) (is_in e.0 l.ail) h)) (each_own l.ail))
