-- Which keys a map has after a change, and rising sets of numbers.
use Rattle.std.proofs.Common.{◌≡◌, ◌≢◌, ◌∙◌, ◌⊎◌, ◌+◌, ◌<◌, ◌≤◌, ◌∷◌, Bool, List, None, Option, Some, [], ap, arith, cond, false, inl, inr, length, refl, subst, suc, sym, true, ℕ}
use Rattle.std.proofs.lemmas.Bool.{cases_Bool, cases_eq, cases_order, eq-eqb, false≢true, ne_eqb, or_parts}
use Rattle.std.proofs.lemmas.Bool.Decides.{nat_tests}
use Rattle.std.specs.List.{cons_option}
use Rattle.std.specs.Prelude.{IfSome, filter, filter_map, is_some, not, ◌==◌, ◌||◌}
use Rattle.xt_base.proofs.MapLemmas.{at_first, at_later, at_put_other, at_put_same, some_same, set_first, set_later, without_first, without_later}
use Rattle.xt_base.proofs.RisingLemmas.{filter_drop, filter_pass}
use Rattle.xt_base.specs.Maps.{at, has, is_in, put, set_at, with_member, without, without_member}
use Rattle.xt_base.specs.Sound.{Each, RisesFromKeys}

module _ {V : Type 0} where
  in_tails : (q : ℕ) (d e : ℕ × V) (xs ys : List (ℕ × V)) → d.0 ≡ e.0 → is_in q xs ≡ is_in q ys → is_in q (d ∷ xs) ≡ is_in q (e ∷ ys)
  in_tails q d e xs ys same h =
      elim (cases_eq q e.0) [
        | inl first ↦ ap is_some (at_first q d xs (first ∙ sym same)) ∙ sym (ap is_some (at_first q e ys first))
        | inr other ↦ ap is_some (at_later q d xs (λ s. other (s ∙ same))) ∙ h ∙ sym (ap is_some (at_later q e ys other))
      ]

  -- ---- which keys a map has
  -- the keys after a put: the new one, and those that were there
  pub is_in_put : (q k : ℕ) (v : V) (es : List (ℕ × V)) → is_in q (put k v es) ≡ ((q == k) || is_in q es)
  is_in_put q k v es =
      elim (cases_eq q k) [
        | inl same ↦ ap (λ (x : ℕ). is_in x (put k v es)) same ∙ ap is_some (at_put_same k v es) ∙ sym (ap (λ b. b || is_in q es) (eq-eqb q k same))
        | inr other ↦ ap is_some (at_put_other k q v es other) ∙ sym (ap (λ b. b || is_in q es) (ne_eqb q k other))
      ]

  -- a key after a put is the new one or was there
  pub is_in_put_cases : (q k : ℕ) (v : V) (es : List (ℕ × V)) → is_in q (put k v es) ≡ true → (q ≡ k) ⊎ (is_in q es ≡ true)
  is_in_put_cases q k v es h =
      elim (cases_eq q k) [
        | inl same ↦ inl same
        | inr other ↦ inr (sym (ap is_some (at_put_other k q v es other)) ∙ h)
      ]

  -- a key stays after a put
  pub is_in_put_old : (q k : ℕ) (v : V) (es : List (ℕ × V)) → is_in q es ≡ true → is_in q (put k v es) ≡ true
  is_in_put_old q k v es h =
      elim (cases_eq q k) [
        | inl same ↦ ap (λ (x : ℕ). is_in x (put k v es)) same ∙ ap is_some (at_put_same k v es)
        | inr other ↦ ap is_some (at_put_other k q v es other) ∙ h
      ]

  -- a map has its first entry's key
  pub is_in_first : (q : ℕ) (e : ℕ × V) (es : List (ℕ × V)) → q ≡ e.0 → is_in q (e ∷ es) ≡ true
  is_in_first q e es h = ap is_some (at_first q e es h)

  -- a map has each key of its later entries
  pub is_in_later : (q : ℕ) (e : ℕ × V) (es : List (ℕ × V)) → is_in q es ≡ true → is_in q (e ∷ es) ≡ true
  is_in_later q e es h =
      elim (cases_eq q e.0) [
        | inl same ↦ is_in_first q e es same
        | inr other ↦ ap is_some (at_later q e es other) ∙ h
      ]

  -- a key is that of the first entry or of a later one
  pub is_in_cons_cases : (q : ℕ) (e : ℕ × V) (es : List (ℕ × V)) → is_in q (e ∷ es) ≡ true → (q ≡ e.0) ⊎ (is_in q es ≡ true)
  is_in_cons_cases q e es h =
      elim (cases_eq q e.0) [
        | inl same ↦ inl same
        | inr other ↦ inr (sym (ap is_some (at_later q e es other)) ∙ h)
      ]

  -- the keys stay where a value is set
  pub is_in_set_at : (q k : ℕ) (v : V) (es : List (ℕ × V)) → is_in q (set_at k v es) ≡ is_in q es
  is_in_set_at q k v [] = refl
  is_in_set_at q k v (e ∷ es) =
      elim (cases_eq k e.0) [
        | inl same ↦ ap (is_in q) (set_first k v e es same) ∙ in_tails q (e.0, v) e es es refl refl
        | inr other ↦ ap (is_in q) (set_later k v e es other) ∙ in_tails q e e (set_at k v es) es refl (is_in_set_at q k v es)
      ]

  -- a key that is left was there
  pub is_in_without : (q k : ℕ) (es : List (ℕ × V)) → is_in q (without k es) ≡ true → is_in q es ≡ true
  is_in_without q k [] h = h
  is_in_without q k (e ∷ es) h =
      elim (cases_eq k e.0) [
        | inl same ↦ is_in_later q e es (sym (ap (is_in q) (without_first k e es same)) ∙ h)
        | inr other ↦
            elim (is_in_cons_cases q e (without k es) (sym (ap (is_in q) (without_later k e es other)) ∙ h)) [
              | inl first ↦ is_in_first q e es first
              | inr later ↦ is_in_later q e es (is_in_without q k es later)
            ]
      ]

  -- a key that a filter keeps was there
  pub is_in_filter : (q : ℕ) (p : ℕ × V → Bool) (es : List (ℕ × V)) → is_in q (filter p es) ≡ true → is_in q es ≡ true
  is_in_filter q p [] h = h
  is_in_filter q p (e ∷ es) h =
      elim (cases_Bool (p e)) [
        | inl passes ↦
            elim (is_in_cons_cases q e (filter p es) (sym (ap (is_in q) (filter_pass p e es passes)) ∙ h)) [
              | inl first ↦ is_in_first q e es first
              | inr later ↦ is_in_later q e es (is_in_filter q p es later)
            ]
        | inr other ↦ is_in_later q e es (is_in_filter q p es (sym (ap (is_in q) (filter_drop p e es other)) ∙ h))
      ]

  in_cons_option : (q k : ℕ) (o : Option (ℕ × V)) (rest : List (ℕ × V)) → IfSome o (λ x. x.0 ≡ k) → is_in q (cons_option o rest) ≡ true → (q ≡ k) ⊎ (is_in q rest ≡ true)
  in_cons_option q k None rest same h = inr h
  in_cons_option q k (Some x) rest same h =
      elim (is_in_cons_cases q x rest h) [
        | inl first ↦ inl (first ∙ same)
        | inr later ↦ inr later
      ]

  -- a key that a map of entries keeps was there
  pub is_in_filter_map : (q : ℕ) (f : ℕ × V → Option (ℕ × V)) (es : List (ℕ × V)) → ((e : ℕ × V) → IfSome (f e) (λ x. x.0 ≡ e.0)) → is_in q (filter_map f es) ≡ true → is_in q es ≡ true
  is_in_filter_map q f [] keeps h = h
  is_in_filter_map q f (e ∷ es) keeps h =
      elim (in_cons_option q e.0 (f e) (filter_map f es) (keeps e) h) [
        | inl first ↦ is_in_first q e es first
        | inr later ↦ is_in_later q e es (is_in_filter_map q f es keeps later)
      ]

  -- ---- what a key has where its entry stays
  -- an entry that passes a filter stays
  pub at_filter : (k : ℕ) (v : V) (p : ℕ × V → Bool) (es : List (ℕ × V)) → at k es ≡ Some v → p (k, v) ≡ true → at k (filter p es) ≡ Some v
  at_filter k v p [] h there = absurd (cc)
  at_filter k v p (e ∷ es) h there =
      elim (cases_eq k e.0) [
        | inl same ↦
            let value : v ≡ e.1 = some_same v e.1 (sym h ∙ at_first k e es same) in
            let passes : p e ≡ true = sym (ap (λ (x : V). p (e.0, x)) value) ∙ sym (ap (λ (x : ℕ). p (x, v)) same) ∙ there in
            ap (at k) (filter_pass p e es passes) ∙ at_first k e (filter p es) same ∙ ap Some (sym value)
        | inr other ↦
            let later : at k (filter p es) ≡ Some v = at_filter k v p es (sym (at_later k e es other) ∙ h) there in
            elim (cases_Bool (p e)) [
              | inl passes ↦ ap (at k) (filter_pass p e es passes) ∙ at_later k e (filter p es) other ∙ later
              | inr drops ↦ ap (at k) (filter_drop p e es drops) ∙ later
            ]
      ]

  -- a key that a filter keeps has what it had
  pub at_filter_kept : (k : ℕ) (p : ℕ × V → Bool) (es : List (ℕ × V)) → ((v : V) → p (k, v) ≡ true) → at k (filter p es) ≡ at k es
  at_filter_kept k p [] keeps = refl
  at_filter_kept k p (e ∷ es) keeps =
      elim (cases_eq k e.0) [
        | inl same ↦
            let passes : p e ≡ true = sym (ap (λ (x : ℕ). p (x, e.1)) same) ∙ keeps e.1 in
            ap (at k) (filter_pass p e es passes) ∙ at_first k e (filter p es) same ∙ sym (at_first k e es same)
        | inr other ↦
            elim (cases_Bool (p e)) [
              | inl passes ↦ ap (at k) (filter_pass p e es passes) ∙ at_later k e (filter p es) other ∙ at_filter_kept k p es keeps ∙ sym (at_later k e es other)
              | inr drops ↦ ap (at k) (filter_drop p e es drops) ∙ at_filter_kept k p es keeps ∙ sym (at_later k e es other)
            ]
      ]

  past_cons_option : (k n : ℕ) (o : Option (ℕ × V)) (rest : List (ℕ × V)) → k ≢ n → IfSome o (λ x. x.0 ≡ n) → at k (cons_option o rest) ≡ at k rest
  past_cons_option k n None rest other same = refl
  past_cons_option k n (Some x) rest other same = at_later k x rest (λ s. other (s ∙ same))

  -- an entry that a map of entries gives back stays
  pub at_filter_map : (k : ℕ) (v : V) (f : ℕ × V → Option (ℕ × V)) (es : List (ℕ × V)) → ((e : ℕ × V) → IfSome (f e) (λ x. x.0 ≡ e.0))
      → at k es ≡ Some v → f (k, v) ≡ Some (k, v) → at k (filter_map f es) ≡ Some v
  at_filter_map k v f [] keeps h there = absurd (cc)
  at_filter_map k v f (e ∷ es) keeps h there =
      elim (cases_eq k e.0) [
        | inl same ↦
            let value : v ≡ e.1 = some_same v e.1 (sym h ∙ at_first k e es same) in
            let stays : f e ≡ Some (k, v) = sym (ap (λ (x : V). f (e.0, x)) value) ∙ sym (ap (λ (x : ℕ). f (x, v)) same) ∙ there in
            ap (λ o. at k (cons_option o (filter_map f es))) stays ∙ at_first k (k, v) (filter_map f es) refl
        | inr other ↦ past_cons_option k e.0 (f e) (filter_map f es) other (keeps e) ∙ at_filter_map k v f es keeps (sym (at_later k e es other) ∙ h) there
      ]

-- ---- rising sets of numbers
with_less : (n k : ℕ) (ks : List ℕ) → n < k → with_member n (k ∷ ks) ≡ n ∷ k ∷ ks
with_less n k ks h = grind (arith, nat_tests)

with_same : (n k : ℕ) (ks : List ℕ) → n ≡ k → with_member n (k ∷ ks) ≡ k ∷ ks
with_same n k ks h = grind (arith, nat_tests)

with_more : (n k : ℕ) (ks : List ℕ) → k < n → with_member n (k ∷ ks) ≡ k ∷ with_member n ks
with_more n k ks h = grind (arith, nat_tests)

-- numbers that rise from n on rise from a lower one on
pub rises_keys_weaker : (m n : ℕ) (ks : List ℕ) → m ≤ n → RisesFromKeys n ks → RisesFromKeys m ks
rises_keys_weaker m n [] h r = tt
rises_keys_weaker m n (k ∷ ks) h r = (omega (arith, h, r.0), r.1)

-- a rising set rises with one more number
pub rises_keys_with : (m n : ℕ) (ks : List ℕ) → m ≤ n → RisesFromKeys m ks → RisesFromKeys m (with_member n ks)
rises_keys_with m n [] h r = (h, tt)
rises_keys_with m n (k ∷ ks) h r =
    elim (cases_order n k) [
      | inl same ↦ subst (RisesFromKeys m) (sym (with_same n k ks same)) r
      | inr (inl lt) ↦ subst (RisesFromKeys m) (sym (with_less n k ks lt)) (h, (omega (arith, lt), r.1))
      | inr (inr lt) ↦ subst (RisesFromKeys m) (sym (with_more n k ks lt)) (r.0, rises_keys_with (suc k) n ks (omega (arith, lt)) r.1)
    ]

-- what a filter keeps of a rising set rises
pub rises_keys_filter : (m : ℕ) (p : ℕ → Bool) (ks : List ℕ) → RisesFromKeys m ks → RisesFromKeys m (filter p ks)
rises_keys_filter m p [] r = tt
rises_keys_filter m p (k ∷ ks) r =
    elim (cases_Bool (p k)) [
      | inl passes ↦ subst (RisesFromKeys m) (sym (filter_pass p k ks passes)) (r.0, rises_keys_filter (suc k) p ks r.1)
      | inr other ↦ subst (RisesFromKeys m) (sym (filter_drop p k ks other)) (rises_keys_weaker m (suc k) (filter p ks) (omega (arith, r.0)) (rises_keys_filter (suc k) p ks r.1))
    ]

-- what holds of each number, and of one more, holds of each of the set with it
pub each_with_member : (P : ℕ → Type 0) (n : ℕ) (ks : List ℕ) → P n → Each P ks → Each P (with_member n ks)
each_with_member P n [] h all = (h, tt)
each_with_member P n (k ∷ ks) h all =
    elim (cases_order n k) [
      | inl same ↦ subst (Each P) (sym (with_same n k ks same)) all
      | inr (inl lt) ↦ subst (Each P) (sym (with_less n k ks lt)) (h, all)
      | inr (inr lt) ↦ subst (Each P) (sym (with_more n k ks lt)) (all.0, each_with_member P n ks h all.1)
    ]

-- what holds of each number of a set holds of one that it has
pub each_has : (P : ℕ → Type 0) (q : ℕ) (ks : List ℕ) → has ks q ≡ true → Each P ks → P q
each_has P q [] h all = absurd (cc)
each_has P q (k ∷ ks) h all =
    elim (cases_eq q k) [
      | inl same ↦ subst P (sym same) all.0
      | inr other ↦ each_has P q ks (sym (ap (λ b. b || has ks q) (ne_eqb q k other)) ∙ h) all.1
    ]

-- what is left of a set without a number is not the number
pub each_without_member : (P : ℕ → Type 0) (n : ℕ) (ks : List ℕ) → Each P ks → Each (λ k. P k × (k ≢ n)) (without_member n ks)
each_without_member P n [] all = tt
each_without_member P n (k ∷ ks) all =
    elim (cases_eq k n) [
      | inl same ↦ subst (Each (λ x. P x × (x ≢ n))) (sym (filter_drop (λ x. not (x == n)) k ks (ap not (eq-eqb k n same)))) (each_without_member P n ks all.1)
      | inr other ↦ subst (Each (λ x. P x × (x ≢ n))) (sym (filter_pass (λ x. not (x == n)) k ks (ap not (ne_eqb k n other)))) ((all.0, other), each_without_member P n ks all.1)
    ]

-- a set with a new number has one more
pub length_with_member : (n : ℕ) (ks : List ℕ) → has ks n ≡ false → length (with_member n ks) ≡ length ks + 1
length_with_member n [] h = omega arith
length_with_member n (k ∷ ks) h =
    let apart : ((n == k) ≡ false) × (has ks n ≡ false) = or_parts (n == k) (has ks n) h in
    elim (cases_order n k) [
      | inl same ↦ absurd (false≢true (sym apart.0 ∙ eq-eqb n k same))
      | inr (inl lt) ↦ omega (arith, ap length (with_less n k ks lt))
      | inr (inr lt) ↦ omega (arith, ap length (with_more n k ks lt), length_with_member n ks apart.1)
    ]

-- a set with one number more has at most one more
pub length_member : (n : ℕ) (ks : List ℕ) → length (with_member n ks) ≤ length ks + 1
length_member n [] = omega arith
length_member n (k ∷ ks) =
    elim (cases_order n k) [
      | inl same ↦ omega (arith, ap length (with_same n k ks same))
      | inr (inl lt) ↦ omega (arith, ap length (with_less n k ks lt))
      | inr (inr lt) ↦ omega (arith, ap length (with_more n k ks lt), length_member n ks)
    ]

-- a number that a filter keeps stays in a set
pub has_filter : (q : ℕ) (p : ℕ → Bool) (ks : List ℕ) → p q ≡ true → has (filter p ks) q ≡ has ks q
has_filter q p [] keeps = refl
has_filter q p (k ∷ ks) keeps =
    elim (cases_Bool (p k)) [
      | inl passes ↦ ap (λ xs. has xs q) (filter_pass p k ks passes) ∙ ap (λ b. (q == k) || b) (has_filter q p ks keeps)
      | inr drops ↦
          let other : q ≢ k = λ same. false≢true (sym drops ∙ sym (ap p same) ∙ keeps) in
          ap (λ xs. has xs q) (filter_drop p k ks drops) ∙ has_filter q p ks keeps ∙ sym (ap (λ b. b || has ks q) (ne_eqb q k other))
    ]

-- a set with one more number has what it had of the others
pub has_with_member : (q n : ℕ) (ks : List ℕ) → q ≢ n → has (with_member n ks) q ≡ has ks q
has_with_member q n [] other = ap (λ b. b || false) (ne_eqb q n other)
has_with_member q n (k ∷ ks) other =
    elim (cases_order n k) [
      | inl same ↦ ap (λ xs. has xs q) (with_same n k ks same)
      | inr (inl lt) ↦ ap (λ xs. has xs q) (with_less n k ks lt) ∙ ap (λ b. b || has (k ∷ ks) q) (ne_eqb q n other)
      | inr (inr lt) ↦ ap (λ xs. has xs q) (with_more n k ks lt) ∙ ap (λ b. (q == k) || b) (has_with_member q n ks other)
    ]

-- a filter that does not keep a number keeps the same of a set with it
pub filter_with_member : (p : ℕ → Bool) (n : ℕ) (ks : List ℕ) → p n ≡ false → filter p (with_member n ks) ≡ filter p ks
filter_with_member p n [] h = filter_drop p n [] h
filter_with_member p n (k ∷ ks) h =
    elim (cases_order n k) [
      | inl same ↦ ap (filter p) (with_same n k ks same)
      | inr (inl lt) ↦ ap (filter p) (with_less n k ks lt) ∙ filter_drop p n (k ∷ ks) h
      | inr (inr lt) ↦ ap (filter p) (with_more n k ks lt) ∙ ap (λ zs. cond (p k) (k ∷ zs) zs) (filter_with_member p n ks h)
    ]
