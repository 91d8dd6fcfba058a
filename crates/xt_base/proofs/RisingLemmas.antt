-- Rising maps: what keeps them rising, a fact of each entry, and sums over entries.
use Rattle.std.proofs.Common.{◌≡◌, ◌≢◌, ◌∙◌, ◌+◌, ◌<◌, ◌≤◌, ◌∷◌, ◌++◌, Bool, List, None, Option, Some, [], ap, arith, cond, false, inl, inr, length, refl, subst, suc, sym, true, ℕ}
use Rattle.std.proofs.lemmas.Bool.{cases_Bool, cases_eq, cases_order}
use Rattle.std.proofs.lemmas.List.Sums.{sum_by-cons}
use Rattle.std.specs.List.{cons_option, items_where_true}
use Rattle.std.specs.Prelude.{IfSome, filter, filter_map, is_some, sum_by}
use Rattle.xt_base.proofs.MapLemmas.{at_first, at_later, put_less, put_more, put_same, set_first, set_later, some_none, some_same, without_first, without_later}
use Rattle.xt_base.specs.Maps.{at, is_in, put, set_at, without}
use Rattle.xt_base.specs.Sound.{Each, RisesFrom}

module _ {A : Type 0} where
  -- ---- a fact of each
  -- what follows from a fact of each holds of each
  pub each_map : (P Q : A → Type 0) (xs : List A) → ((x : A) → P x → Q x) → Each P xs → Each Q xs
  each_map P Q [] h all = tt
  each_map P Q (x ∷ xs) h all = (h x all.0, each_map P Q xs h all.1)

  -- two facts of each
  pub each_both : (P Q : A → Type 0) (xs : List A) → Each P xs → Each Q xs → Each (λ x. P x × Q x) xs
  each_both P Q [] p q = tt
  each_both P Q (x ∷ xs) p q = ((p.0, q.0), each_both P Q xs p.1 q.1)

  -- a filter keeps a first element that passes
  pub filter_pass : (p : A → Bool) (x : A) (xs : List A) → p x ≡ true → filter p (x ∷ xs) ≡ x ∷ filter p xs
  filter_pass p x xs h = ap (λ b. cond b (x ∷ filter p xs) (filter p xs)) h

  -- a filter drops a first element that does not
  pub filter_drop : (p : A → Bool) (x : A) (xs : List A) → p x ≡ false → filter p (x ∷ xs) ≡ filter p xs
  filter_drop p x xs h = ap (λ b. cond b (x ∷ filter p xs) (filter p xs)) h

  -- a fact of each holds of each that a filter keeps
  pub each_filter : (P : A → Type 0) (p : A → Bool) (xs : List A) → Each P xs → Each P (filter p xs)
  each_filter P p [] all = tt
  each_filter P p (x ∷ xs) all =
      elim (cases_Bool (p x)) [
        | inl passes ↦ subst (Each P) (sym (filter_pass p x xs passes)) (all.0, each_filter P p xs all.1)
        | inr other ↦ subst (Each P) (sym (filter_drop p x xs other)) (each_filter P p xs all.1)
      ]

  -- what a filter keeps passes its test
  pub each_passes : (p : A → Bool) (xs : List A) → Each (λ x. p x ≡ true) (filter p xs)
  each_passes p [] = tt
  each_passes p (x ∷ xs) =
      elim (cases_Bool (p x)) [
        | inl passes ↦ subst (Each (λ y. p y ≡ true)) (sym (filter_pass p x xs passes)) (passes, each_passes p xs)
        | inr other ↦ subst (Each (λ y. p y ≡ true)) (sym (filter_drop p x xs other)) (each_passes p xs)
      ]

module _ {V : Type 0} where
  -- a fact of each entry, and of a new one, holds of each after its put
  pub each_put : (P : ℕ × V → Type 0) (k : ℕ) (v : V) (es : List (ℕ × V)) → P (k, v) → Each P es → Each P (put k v es)
  each_put P k v [] h all = (h, tt)
  each_put P k v (e ∷ es) h all =
      elim (cases_order k e.0) [
        | inl same ↦ subst (Each P) (sym (put_same k v e es same)) (subst (λ (x : ℕ). P (x, v)) same h, all.1)
        | inr (inl lt) ↦ subst (Each P) (sym (put_less k v e es lt)) (h, all)
        | inr (inr lt) ↦ subst (Each P) (sym (put_more k v e es lt)) (all.0, each_put P k v es h all.1)
      ]

  -- the same where a value is set
  pub each_set_at : (P : ℕ × V → Type 0) (k : ℕ) (v : V) (es : List (ℕ × V)) → P (k, v) → Each P es → Each P (set_at k v es)
  each_set_at P k v [] h all = tt
  each_set_at P k v (e ∷ es) h all =
      elim (cases_eq k e.0) [
        | inl same ↦ subst (Each P) (sym (set_first k v e es same)) (subst (λ (x : ℕ). P (x, v)) same h, all.1)
        | inr other ↦ subst (Each P) (sym (set_later k v e es other)) (all.0, each_set_at P k v es h all.1)
      ]

  -- the same where a key goes
  pub each_without : (P : ℕ × V → Type 0) (k : ℕ) (es : List (ℕ × V)) → Each P es → Each P (without k es)
  each_without P k [] all = tt
  each_without P k (e ∷ es) all =
      elim (cases_eq k e.0) [
        | inl same ↦ subst (Each P) (sym (without_first k e es same)) all.1
        | inr other ↦ subst (Each P) (sym (without_later k e es other)) (all.0, each_without P k es all.1)
      ]

  -- what holds of each entry holds of the one at a key
  pub each_at : (P : ℕ × V → Type 0) (k : ℕ) (v : V) (es : List (ℕ × V)) → at k es ≡ Some v → Each P es → P (k, v)
  each_at P k v [] h all = some_none v (P (k, v)) (sym h)
  each_at P k v (e ∷ es) h all =
      elim (cases_eq k e.0) [
        | inl same ↦
            let value : e.1 ≡ v = some_same e.1 v (sym (at_first k e es same) ∙ h) in
            subst (λ (x : ℕ). P (x, v)) (sym same) (subst (λ (x : V). P (e.0, x)) value all.0)
        | inr other ↦ each_at P k v es (sym (at_later k e es other) ∙ h) all.1
      ]

  -- what holds of each key holds of one that is there
  pub each_in : (P : ℕ → Type 0) (q : ℕ) (es : List (ℕ × V)) → is_in q es ≡ true → Each (λ e. P e.0) es → P q
  each_in P q [] h all = absurd (cc)
  each_in P q (e ∷ es) h all =
      elim (cases_eq q e.0) [
        | inl same ↦ subst P (sym same) all.0
        | inr other ↦ each_in P q es (sym (ap is_some (at_later q e es other)) ∙ h) all.1
      ]

  -- ---- keys that rise
  -- keys that rise from n on rise from a lower one on
  pub rises_weaker : (m n : ℕ) (es : List (ℕ × V)) → m ≤ n → RisesFrom n es → RisesFrom m es
  rises_weaker m n [] h r = tt
  rises_weaker m n (e ∷ es) h r = (omega (arith, h, r.0), r.1)

  -- keys that rise from n on are n or more
  pub rises_above : (n : ℕ) (es : List (ℕ × V)) → RisesFrom n es → Each (λ e. n ≤ e.0) es
  rises_above n [] r = tt
  rises_above n (e ∷ es) r = (r.0, rises_above n es (rises_weaker n (suc e.0) es (omega (arith, r.0)) r.1))

  -- a key below n is not there
  pub none_below : (k n : ℕ) (es : List (ℕ × V)) → k < n → RisesFrom n es → at k es ≡ None
  none_below k n [] h r = refl
  none_below k n (e ∷ es) h r = at_later k e es (λ s. omega (arith, s, h, r.0)) ∙ none_below k (suc e.0) es (omega (arith, h, r.0)) r.1

  -- a map rises after a put
  pub rises_put : (n k : ℕ) (v : V) (es : List (ℕ × V)) → n ≤ k → RisesFrom n es → RisesFrom n (put k v es)
  rises_put n k v [] h r = (h, tt)
  rises_put n k v (e ∷ es) h r =
      elim (cases_order k e.0) [
        | inl same ↦ subst (RisesFrom n) (sym (put_same k v e es same)) (r.0, r.1)
        | inr (inl lt) ↦ subst (RisesFrom n) (sym (put_less k v e es lt)) (h, (omega (arith, lt), r.1))
        | inr (inr lt) ↦ subst (RisesFrom n) (sym (put_more k v e es lt)) (r.0, rises_put (suc e.0) k v es (omega (arith, lt)) r.1)
      ]

  -- a map rises after a value is set
  pub rises_set_at : (n k : ℕ) (v : V) (es : List (ℕ × V)) → RisesFrom n es → RisesFrom n (set_at k v es)
  rises_set_at n k v [] r = tt
  rises_set_at n k v (e ∷ es) r =
      elim (cases_eq k e.0) [
        | inl same ↦ subst (RisesFrom n) (sym (set_first k v e es same)) (r.0, r.1)
        | inr other ↦ subst (RisesFrom n) (sym (set_later k v e es other)) (r.0, rises_set_at (suc e.0) k v es r.1)
      ]

  -- a map rises without a key
  pub rises_without : (n k : ℕ) (es : List (ℕ × V)) → RisesFrom n es → RisesFrom n (without k es)
  rises_without n k [] r = tt
  rises_without n k (e ∷ es) r =
      elim (cases_eq k e.0) [
        | inl same ↦ subst (RisesFrom n) (sym (without_first k e es same)) (rises_weaker n (suc e.0) es (omega (arith, r.0)) r.1)
        | inr other ↦ subst (RisesFrom n) (sym (without_later k e es other)) (r.0, rises_without (suc e.0) k es r.1)
      ]

  -- what a filter keeps of a rising map rises
  pub rises_filter : (n : ℕ) (p : ℕ × V → Bool) (es : List (ℕ × V)) → RisesFrom n es → RisesFrom n (filter p es)
  rises_filter n p [] r = tt
  rises_filter n p (e ∷ es) r =
      elim (cases_Bool (p e)) [
        | inl passes ↦ subst (RisesFrom n) (sym (filter_pass p e es passes)) (r.0, rises_filter (suc e.0) p es r.1)
        | inr other ↦ subst (RisesFrom n) (sym (filter_drop p e es other)) (rises_weaker n (suc e.0) (filter p es) (omega (arith, r.0)) (rises_filter (suc e.0) p es r.1))
      ]

  -- what stays of a rising map rises
  pub rises_where_true : (n : ℕ) (stays : List Bool) (es : List (ℕ × V)) → RisesFrom n es → RisesFrom n (items_where_true stays es)
  rises_where_true n [] es r = tt
  rises_where_true n (b ∷ bs) [] r = tt
  rises_where_true n (true ∷ bs) (e ∷ es) r = (r.0, rises_where_true (suc e.0) bs es r.1)
  rises_where_true n (false ∷ bs) (e ∷ es) r = rises_weaker n (suc e.0) (items_where_true bs es) (omega (arith, r.0)) (rises_where_true (suc e.0) bs es r.1)

  rises_cons_option : (n k : ℕ) (o : Option (ℕ × V)) (rest : List (ℕ × V)) → n ≤ k → IfSome o (λ x. x.0 ≡ k) → RisesFrom (suc k) rest → RisesFrom n (cons_option o rest)
  rises_cons_option n k None rest h same r = rises_weaker n (suc k) rest (omega (arith, h)) r
  rises_cons_option n k (Some x) rest h same r = (omega (arith, h, same), subst (λ (y : ℕ). RisesFrom (suc y) rest) (sym same) r)

  -- a test that keeps the keys of what it keeps
  pub rises_filter_map : (n : ℕ) (f : ℕ × V → Option (ℕ × V)) (es : List (ℕ × V)) → ((e : ℕ × V) → IfSome (f e) (λ x. x.0 ≡ e.0)) → RisesFrom n es → RisesFrom n (filter_map f es)
  rises_filter_map n f [] keeps r = tt
  rises_filter_map n f (e ∷ es) keeps r = rises_cons_option n e.0 (f e) (filter_map f es) r.0 (keeps e) (rises_filter_map (suc e.0) f es keeps r.1)

  -- each entry but the one at a key
  pub each_other : (P : ℕ × V → Type 0) (n k : ℕ) (es : List (ℕ × V)) → RisesFrom n es → Each P es → Each (λ e. P e × (e.0 ≢ k)) (without k es)
  each_other P n k [] r all = tt
  each_other P n k (e ∷ es) r all =
      elim (cases_eq k e.0) [
        | inl same ↦
            let past : Each (λ x. suc e.0 ≤ x.0) es = rises_above (suc e.0) es r.1 in
            subst (Each (λ x. P x × (x.0 ≢ k))) (sym (without_first k e es same))
            (each_map (λ x. P x × (suc e.0 ≤ x.0)) (λ x. P x × (x.0 ≢ k)) es (λ x h. (h.0, λ s. omega (arith, s, same, h.1))) (each_both P (λ x. suc e.0 ≤ x.0) es all.1 past))
        | inr other ↦ subst (Each (λ x. P x × (x.0 ≢ k))) (sym (without_later k e es other)) ((all.0, λ s. other (sym s)), each_other P (suc e.0) k es r.1 all.1)
      ]

  -- a fact of each entry but the one at a key, and of its new value, holds of each after it is set
  pub each_set_other : (P : ℕ × V → Type 0) (n k : ℕ) (v : V) (es : List (ℕ × V)) → RisesFrom n es → P (k, v) → Each (λ e. e.0 ≢ k → P e) es → Each P (set_at k v es)
  each_set_other P n k v [] r h all = tt
  each_set_other P n k v (e ∷ es) r h all =
      elim (cases_eq k e.0) [
        | inl same ↦
            let past : Each (λ x. suc e.0 ≤ x.0) es = rises_above (suc e.0) es r.1 in
            subst (Each P) (sym (set_first k v e es same))
            (subst (λ (x : ℕ). P (x, v)) same h, each_map (λ x. (x.0 ≢ k → P x) × (suc e.0 ≤ x.0)) P es (λ x both. both.0 (λ s. omega (arith, s, same, both.1))) (each_both (λ x. x.0 ≢ k → P x) (λ x. suc e.0 ≤ x.0) es all.1 past))
        | inr other ↦ subst (Each P) (sym (set_later k v e es other)) (all.0 (λ s. other (sym s)), each_set_other P (suc e.0) k v es r.1 h all.1)
      ]

  some_false : (v : V) → is_some (Some v) ≡ false → ⊥
  some_false v h = cc

  -- a key below a rising list is not there
  there_below : (k : ℕ) (e : ℕ × V) (es : List (ℕ × V)) → k < e.0 → RisesFrom (suc e.0) es → is_in k (e ∷ es) ≡ true → ⊥
  there_below k e es lt r h =
      let absent : at k (e ∷ es) ≡ None = none_below k (suc k) (e ∷ es) (omega arith) (omega (arith, lt), r) in
      let gone : is_in k (e ∷ es) ≡ false = ap is_some absent in
      cc

  -- ---- lengths where keys rise
  -- a put at a key that is there leaves the length
  pub length_put_same : (n k : ℕ) (v : V) (es : List (ℕ × V)) → RisesFrom n es → is_in k es ≡ true → length (put k v es) ≡ length es
  length_put_same n k v [] r h = absurd (cc)
  length_put_same n k v (e ∷ es) r h =
      elim (cases_order k e.0) [
        | inl same ↦ ap length (put_same k v e es same)
        | inr (inl lt) ↦ absurd (there_below k e es lt r.1 h)
        | inr (inr lt) ↦
            let there : is_in k es ≡ true = sym (ap is_some (at_later k e es (λ s. omega (arith, s, lt)))) ∙ h in
            ap length (put_more k v e es lt) ∙ ap suc (length_put_same (suc e.0) k v es r.1 there)
      ]

  -- a put at a new key adds one entry
  pub length_put_new : (k : ℕ) (v : V) (es : List (ℕ × V)) → is_in k es ≡ false → length (put k v es) ≡ length es + 1
  length_put_new k v [] h = omega arith
  length_put_new k v (e ∷ es) h =
      elim (cases_order k e.0) [
        | inl same ↦ absurd (some_false e.1 (sym (ap is_some (at_first k e es same)) ∙ h))
        | inr (inl lt) ↦ omega (arith, ap length (put_less k v e es lt))
        | inr (inr lt) ↦
            let there : is_in k es ≡ false = sym (ap is_some (at_later k e es (λ s. omega (arith, s, lt)))) ∙ h in
            omega (arith, ap length (put_more k v e es lt), length_put_new k v es there)
      ]

  -- a key above all others goes to the end
  pub put_last : (k : ℕ) (v : V) (es : List (ℕ × V)) → Each (λ e. e.0 < k) es → put k v es ≡ es ++ (k, v) ∷ []
  put_last k v [] all = refl
  put_last k v (e ∷ es) all = put_more k v e es all.0 ∙ ap (λ x. e ∷ x) (put_last k v es all.1)

  -- ---- sums over entries
  -- the weight of what a key has
  abbrev pub weight_at : (ℕ × V → ℕ) → ℕ → Option V → ℕ
  weight_at f k None = 0
  weight_at f k (Some v) = f (k, v)

  -- a put adds at most its own weight
  pub sum_put_le : (f : ℕ × V → ℕ) (k : ℕ) (v : V) (es : List (ℕ × V)) → sum_by f (put k v es) ≤ sum_by f es + f (k, v)
  sum_put_le f k v [] = omega arith
  sum_put_le f k v (e ∷ es) =
      elim (cases_order k e.0) [
        | inl same ↦ omega (arith, ap (sum_by f) (put_same k v e es same), sum_by-cons f (e.0, v) es, sum_by-cons f e es, ap (λ (x : ℕ). f (x, v)) same)
        | inr (inl lt) ↦ omega (arith, ap (sum_by f) (put_less k v e es lt), sum_by-cons f (k, v) (e ∷ es))
        | inr (inr lt) ↦ omega (arith, ap (sum_by f) (put_more k v e es lt), sum_by-cons f e es, sum_by-cons f e (put k v es), sum_put_le f k v es)
      ]

  -- a put exchanges the old weight for the new
  pub sum_put : (f : ℕ × V → ℕ) (n k : ℕ) (v : V) (es : List (ℕ × V)) → RisesFrom n es → sum_by f (put k v es) + weight_at f k (at k es) ≡ sum_by f es + f (k, v)
  sum_put f n k v [] r = omega arith
  sum_put f n k v (e ∷ es) r =
      elim (cases_order k e.0) [
        | inl same ↦
            omega (arith, ap (sum_by f) (put_same k v e es same), sum_by-cons f (e.0, v) es, sum_by-cons f e es, ap (λ (x : ℕ). f (x, v)) same, ap (λ (x : ℕ). f (x, e.1)) same, ap (weight_at f k) (at_first k e es same))
        | inr (inl lt) ↦
            let absent : at k (e ∷ es) ≡ None = none_below k (suc k) (e ∷ es) (omega arith) (omega (arith, lt), r.1) in
            omega (arith, ap (sum_by f) (put_less k v e es lt), sum_by-cons f (k, v) (e ∷ es), ap (weight_at f k) absent)
        | inr (inr lt) ↦
            omega (arith, ap (sum_by f) (put_more k v e es lt), sum_by-cons f e es, sum_by-cons f e (put k v es), sum_put f (suc e.0) k v es r.1, ap (weight_at f k) (at_later k e es (λ s. omega (arith, s, lt))))
      ]

  -- a removal takes the weight of its key
  pub sum_without : (f : ℕ × V → ℕ) (k : ℕ) (es : List (ℕ × V)) → sum_by f (without k es) + weight_at f k (at k es) ≡ sum_by f es
  sum_without f k [] = omega arith
  sum_without f k (e ∷ es) =
      elim (cases_eq k e.0) [
        | inl same ↦ omega (arith, ap (sum_by f) (without_first k e es same), sum_by-cons f e es, ap (λ (x : ℕ). f (x, e.1)) same, ap (weight_at f k) (at_first k e es same))
        | inr other ↦ omega (arith, ap (sum_by f) (without_later k e es other), sum_by-cons f e es, sum_by-cons f e (without k es), sum_without f k es, ap (weight_at f k) (at_later k e es other))
      ]

  -- a value of the same weight leaves the sum
  pub sum_set_at : (f : ℕ × V → ℕ) (k : ℕ) (u v : V) (es : List (ℕ × V)) → at k es ≡ Some u → f (k, u) ≡ f (k, v) → sum_by f (set_at k v es) ≡ sum_by f es
  sum_set_at f k u v [] h w = refl
  sum_set_at f k u v (e ∷ es) h w =
      elim (cases_eq k e.0) [
        | inl same ↦
            let value : e.1 ≡ u = some_same e.1 u (sym (at_first k e es same) ∙ h) in
            let old : f e ≡ f (k, u) = ap (λ (x : V). f (e.0, x)) value ∙ ap (λ (x : ℕ). f (x, u)) (sym same) in
            let new : f (e.0, v) ≡ f (k, v) = ap (λ (x : ℕ). f (x, v)) (sym same) in
            omega (arith, ap (sum_by f) (set_first k v e es same), sum_by-cons f e es, sum_by-cons f (e.0, v) es, old, new, w)
        | inr other ↦
            omega (arith, ap (sum_by f) (set_later k v e es other), sum_by-cons f e es, sum_by-cons f e (set_at k v es), sum_set_at f k u v es (sym (at_later k e es other) ∙ h) w)
      ]

  -- a set value exchanges the old weight for the new
  pub sum_set : (f : ℕ × V → ℕ) (k : ℕ) (u v : V) (es : List (ℕ × V)) → at k es ≡ Some u → sum_by f (set_at k v es) + f (k, u) ≡ sum_by f es + f (k, v)
  sum_set f k u v [] h = absurd (cc)
  sum_set f k u v (e ∷ es) h =
      elim (cases_eq k e.0) [
        | inl same ↦
            let value : e.1 ≡ u = some_same e.1 u (sym (at_first k e es same) ∙ h) in
            let old : f e ≡ f (k, u) = ap (λ (x : V). f (e.0, x)) value ∙ ap (λ (x : ℕ). f (x, u)) (sym same) in
            let new : f (e.0, v) ≡ f (k, v) = ap (λ (x : ℕ). f (x, v)) (sym same) in
            omega (arith, ap (sum_by f) (set_first k v e es same), sum_by-cons f e es, sum_by-cons f (e.0, v) es, old, new)
        | inr other ↦
            omega (arith, ap (sum_by f) (set_later k v e es other), sum_by-cons f e es, sum_by-cons f e (set_at k v es), sum_set f k u v es (sym (at_later k e es other) ∙ h))
      ]

  -- a filter adds nothing
  pub sum_filter_le : (f : ℕ × V → ℕ) (p : ℕ × V → Bool) (es : List (ℕ × V)) → sum_by f (filter p es) ≤ sum_by f es
  sum_filter_le f p [] = omega arith
  sum_filter_le f p (e ∷ es) =
      elim (cases_Bool (p e)) [
        | inl passes ↦ omega (arith, ap (sum_by f) (filter_pass p e es passes), sum_by-cons f e es, sum_by-cons f e (filter p es), sum_filter_le f p es)
        | inr other ↦ omega (arith, ap (sum_by f) (filter_drop p e es other), sum_by-cons f e es, sum_filter_le f p es)
      ]

  -- the sum of what a filter keeps
  pub sum_filter : (f : ℕ × V → ℕ) (p : ℕ × V → Bool) (es : List (ℕ × V)) → sum_by f (filter p es) ≡ sum_by (λ e. cond (p e) (f e) 0) es
  sum_filter f p [] = refl
  sum_filter f p (e ∷ es) =
      elim (cases_Bool (p e)) [
        | inl passes ↦
            omega (arith, ap (sum_by f) (filter_pass p e es passes), sum_by-cons (λ e. cond (p e) (f e) 0) e es, sum_by-cons f e (filter p es), sum_filter f p es, ap {B = ℕ} (λ b. cond b (f e) 0) passes)
        | inr other ↦ omega (arith, ap (sum_by f) (filter_drop p e es other), sum_by-cons (λ e. cond (p e) (f e) 0) e es, sum_filter f p es, ap {B = ℕ} (λ b. cond b (f e) 0) other)
      ]
