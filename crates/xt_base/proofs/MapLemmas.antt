-- Maps as lists of entries: what one entry does to each word, what a key has after a change, and lengths.
use Rattle.std.proofs.Common.{◌≡◌, ◌≢◌, ◌∙◌, ◌+◌, ◌<◌, ◌≤◌, ◌∷◌, List, None, Some, [], ap, arith, cond, inl, inr, length, refl, sym, ℕ}
use Rattle.std.proofs.lemmas.Bool.{cases_eq, cases_order}
use Rattle.std.proofs.lemmas.Bool.Decides.{nat_tests}
use Rattle.std.specs.BTreeMap.{is_at}
use Rattle.std.specs.Ordering.{nat_cmp}
use Rattle.xt_base.specs.Maps.{at, put, set_at, without}

module _ {A : Type 0} where
  -- a value that is there is one
  pub some_same : (u v : A) → Some u ≡ Some v → u ≡ v
  some_same u v h = cc

  -- a value is not none
  pub some_none : (v : A) (P : Type 0) → Some v ≡ None → P
  some_none v P h = absurd (cc)

module _ {V : Type 0} where
  -- ---- one entry
  -- what a map has at its first entry's key
  pub at_first : (k : ℕ) (e : ℕ × V) (es : List (ℕ × V)) → k ≡ e.0 → at k (e ∷ es) ≡ Some e.1
  at_first k e es h = grind (arith, nat_tests)

  -- what it has at another key
  pub at_later : (k : ℕ) (e : ℕ × V) (es : List (ℕ × V)) → k ≢ e.0 → at k (e ∷ es) ≡ at k es
  at_later k e es h = grind (arith, nat_tests)

  -- a key below the first goes before it
  pub put_less : (k : ℕ) (v : V) (e : ℕ × V) (es : List (ℕ × V)) → k < e.0 → put k v (e ∷ es) ≡ (k, v) ∷ e ∷ es
  put_less k v e es h = grind (arith, nat_tests)

  -- the first entry's key takes the value
  pub put_same : (k : ℕ) (v : V) (e : ℕ × V) (es : List (ℕ × V)) → k ≡ e.0 → put k v (e ∷ es) ≡ (e.0, v) ∷ es
  put_same k v e es h = grind (arith, nat_tests)

  -- a key above the first goes behind it
  pub put_more : (k : ℕ) (v : V) (e : ℕ × V) (es : List (ℕ × V)) → e.0 < k → put k v (e ∷ es) ≡ e ∷ put k v es
  put_more k v e es h = grind (arith, nat_tests)

  -- the first entry's key is set
  pub set_first : (k : ℕ) (v : V) (e : ℕ × V) (es : List (ℕ × V)) → k ≡ e.0 → set_at k v (e ∷ es) ≡ (e.0, v) ∷ es
  set_first k v e es h = grind (arith, nat_tests)

  -- another key is set behind it
  pub set_later : (k : ℕ) (v : V) (e : ℕ × V) (es : List (ℕ × V)) → k ≢ e.0 → set_at k v (e ∷ es) ≡ e ∷ set_at k v es
  set_later k v e es h = grind (arith, nat_tests)

  -- the first entry goes
  pub without_first : (k : ℕ) (e : ℕ × V) (es : List (ℕ × V)) → k ≡ e.0 → without k (e ∷ es) ≡ es
  without_first k e es h = grind (arith, nat_tests)

  -- another entry goes behind it
  pub without_later : (k : ℕ) (e : ℕ × V) (es : List (ℕ × V)) → k ≢ e.0 → without k (e ∷ es) ≡ e ∷ without k es
  without_later k e es h = grind (arith, nat_tests)

  -- maps that agree at a key agree behind an entry
  pub at_tails : (q : ℕ) (e : ℕ × V) (xs ys : List (ℕ × V)) → at q xs ≡ at q ys → at q (e ∷ xs) ≡ at q (e ∷ ys)
  at_tails q e xs ys h = ap (cond (is_at (nat_cmp q) e.0) (Some e.1)) h

  -- ---- what a key has after a change
  -- a put key has its value
  pub at_put_same : (k : ℕ) (v : V) (es : List (ℕ × V)) → at k (put k v es) ≡ Some v
  at_put_same k v [] = at_first k (k, v) [] refl
  at_put_same k v (e ∷ es) =
      elim (cases_order k e.0) [
        | inl same ↦ ap (at k) (put_same k v e es same) ∙ at_first k (e.0, v) es same
        | inr (inl lt) ↦ ap (at k) (put_less k v e es lt) ∙ at_first k (k, v) (e ∷ es) refl
        | inr (inr lt) ↦ ap (at k) (put_more k v e es lt) ∙ at_later k e (put k v es) (λ h. omega (arith, h)) ∙ at_put_same k v es
      ]

  -- another key has what it had
  pub at_put_other : (k q : ℕ) (v : V) (es : List (ℕ × V)) → q ≢ k → at q (put k v es) ≡ at q es
  at_put_other k q v [] h = at_later q (k, v) [] h
  at_put_other k q v (e ∷ es) h =
      elim (cases_order k e.0) [
        | inl same ↦
            let other : q ≢ e.0 = λ s. h (s ∙ sym same) in
            ap (at q) (put_same k v e es same) ∙ at_later q (e.0, v) es other ∙ sym (at_later q e es other)
        | inr (inl lt) ↦ ap (at q) (put_less k v e es lt) ∙ at_later q (k, v) (e ∷ es) h
        | inr (inr lt) ↦ ap (at q) (put_more k v e es lt) ∙ at_tails q e (put k v es) es (at_put_other k q v es h)
      ]

  -- a set key has its value
  pub at_set_same : (k : ℕ) (u v : V) (es : List (ℕ × V)) → at k es ≡ Some u → at k (set_at k v es) ≡ Some v
  at_set_same k u v [] h = cc
  at_set_same k u v (e ∷ es) h =
      elim (cases_eq k e.0) [
        | inl same ↦ ap (at k) (set_first k v e es same) ∙ at_first k (e.0, v) es same
        | inr other ↦ ap (at k) (set_later k v e es other) ∙ at_later k e (set_at k v es) other ∙ at_set_same k u v es (sym (at_later k e es other) ∙ h)
      ]

  -- another key has what it had
  pub at_set_other : (k q : ℕ) (v : V) (es : List (ℕ × V)) → q ≢ k → at q (set_at k v es) ≡ at q es
  at_set_other k q v [] h = refl
  at_set_other k q v (e ∷ es) h =
      elim (cases_eq k e.0) [
        | inl same ↦
            let other : q ≢ e.0 = λ s. h (s ∙ sym same) in
            ap (at q) (set_first k v e es same) ∙ at_later q (e.0, v) es other ∙ sym (at_later q e es other)
        | inr other ↦ ap (at q) (set_later k v e es other) ∙ at_tails q e (set_at k v es) es (at_set_other k q v es h)
      ]

  -- another key has what it had
  pub at_without_other : (k q : ℕ) (es : List (ℕ × V)) → q ≢ k → at q (without k es) ≡ at q es
  at_without_other k q [] h = refl
  at_without_other k q (e ∷ es) h =
      elim (cases_eq k e.0) [
        | inl same ↦ ap (at q) (without_first k e es same) ∙ sym (at_later q e es (λ s. h (s ∙ sym same)))
        | inr other ↦ ap (at q) (without_later k e es other) ∙ at_tails q e (without k es) es (at_without_other k q es h)
      ]

  -- ---- one value over another
  -- the later of two values stays
  pub set_at-set_at : (k : ℕ) (u v : V) (es : List (ℕ × V)) → set_at k u (set_at k v es) ≡ set_at k u es
  set_at-set_at k u v [] = refl
  set_at-set_at k u v (e ∷ es) =
      elim (cases_eq k e.0) [
        | inl same ↦ ap (set_at k u) (set_first k v e es same) ∙ set_first k u (e.0, v) es same ∙ sym (set_first k u e es same)
        | inr other ↦ ap (set_at k u) (set_later k v e es other) ∙ set_later k u e (set_at k v es) other ∙ ap (λ x. e ∷ x) (set_at-set_at k u v es) ∙ sym (set_later k u e es other)
      ]

  -- setting what is there changes nothing
  pub set_at_same : (k : ℕ) (v : V) (es : List (ℕ × V)) → at k es ≡ Some v → set_at k v es ≡ es
  set_at_same k v [] h = refl
  set_at_same k v (e ∷ es) h =
      elim (cases_eq k e.0) [
        | inl same ↦
            let it : v ≡ e.1 = some_same v e.1 (sym h ∙ at_first k e es same) in
            set_first k v e es same ∙ ap (λ (x : V). (e.0, x) ∷ es) it
        | inr other ↦ set_later k v e es other ∙ ap (λ x. e ∷ x) (set_at_same k v es (sym (at_later k e es other) ∙ h))
      ]

  -- ---- lengths
  -- a put adds at most one entry
  pub length_put_le : (k : ℕ) (v : V) (es : List (ℕ × V)) → length (put k v es) ≤ length es + 1
  length_put_le k v [] = omega arith
  length_put_le k v (e ∷ es) =
      elim (cases_order k e.0) [
        | inl same ↦ omega (arith, ap length (put_same k v e es same))
        | inr (inl lt) ↦ omega (arith, ap length (put_less k v e es lt))
        | inr (inr lt) ↦ omega (arith, ap length (put_more k v e es lt), length_put_le k v es)
      ]

  -- a put takes no entry away
  pub length_put_ge : (k : ℕ) (v : V) (es : List (ℕ × V)) → length es ≤ length (put k v es)
  length_put_ge k v [] = omega arith
  length_put_ge k v (e ∷ es) =
      elim (cases_order k e.0) [
        | inl same ↦ omega (arith, ap length (put_same k v e es same))
        | inr (inl lt) ↦ omega (arith, ap length (put_less k v e es lt))
        | inr (inr lt) ↦ omega (arith, ap length (put_more k v e es lt), length_put_ge k v es)
      ]

  -- a map with a put key is not empty
  pub length_put_positive : (k : ℕ) (v : V) (es : List (ℕ × V)) → 0 < length (put k v es)
  length_put_positive k v [] = omega arith
  length_put_positive k v (e ∷ es) =
      elim (cases_order k e.0) [
        | inl same ↦ omega (arith, ap length (put_same k v e es same))
        | inr (inl lt) ↦ omega (arith, ap length (put_less k v e es lt))
        | inr (inr lt) ↦ omega (arith, ap length (put_more k v e es lt))
      ]

  -- a removal adds no entry
  pub length_without_le : (k : ℕ) (es : List (ℕ × V)) → length (without k es) ≤ length es
  length_without_le k [] = omega arith
  length_without_le k (e ∷ es) =
      elim (cases_eq k e.0) [
        | inl same ↦ omega (arith, ap length (without_first k e es same))
        | inr other ↦ omega (arith, ap length (without_later k e es other), length_without_le k es)
      ]
