-- Rising maps seen through a function of their values: the entries whose value is seen, and the keys whose value passes a test.
use Rattle.std.proofs.Common.{◌≡◌, ◌≢◌, ◌∙◌, ◌<◌, ◌≤◌, ◌∷◌, Bool, List, None, Option, Some, [], ap, arith, cond, false, inl, inr, refl, subst, suc, sym, true, ℕ}
use Rattle.std.proofs.lemmas.Bool.{cases_Bool, cases_eq, cases_order, eq-eqb, ne_eqb}
use Rattle.std.proofs.lemmas.Bool.Decides.{nat_tests}
use Rattle.std.specs.List.{cons_option}
use Rattle.std.specs.Prelude.{not, option_map, ◌==◌, ◌||◌}
use Rattle.xt_base.proofs.KeyLemmas.{rises_keys_weaker}
use Rattle.xt_base.proofs.MapLemmas.{at_first, at_later, put_less, put_more, put_same, without_first, without_later}
use Rattle.xt_base.proofs.RisingLemmas.{filter_drop, filter_pass, none_below, rises_weaker}
use Rattle.xt_base.specs.Maps.{at, has, put, with_member, without, without_member}
use Rattle.xt_base.specs.Sound.{RisesFrom, RisesFromKeys}
use Rattle.xt_base.specs.Views.{key_if, keys_where, view, view_entry, viewed}

module _ {V : Type 0} where
  -- ---- keys that are not there
  -- a key below a rising map goes before it
  pub put_below : (k n : ℕ) (v : V) (es : List (ℕ × V)) → k < n → RisesFrom n es → put k v es ≡ (k, v) ∷ es
  put_below k n v [] h r = refl
  put_below k n v (e ∷ es) h r = put_less k v e es (omega (arith, h, r.0))

  -- a map without a key below it
  pub without_below : (k n : ℕ) (es : List (ℕ × V)) → k < n → RisesFrom n es → without k es ≡ es
  without_below k n [] h r = refl
  without_below k n (e ∷ es) h r = without_later k e es (λ s. omega (arith, s, h, r.0)) ∙ ap (λ x. e ∷ x) (without_below k (suc e.0) es (omega (arith, h, r.0)) r.1)

  -- a put over a key that was taken away is a put
  pub put_without : (n k : ℕ) (v : V) (es : List (ℕ × V)) → RisesFrom n es → put k v (without k es) ≡ put k v es
  put_without n k v [] r = refl
  put_without n k v (e ∷ es) r =
      elim (cases_order k e.0) [
        | inl same ↦
            ap (put k v) (without_first k e es same) ∙ put_below k (suc e.0) v es (omega (arith, same)) r.1
            ∙ ap (λ (x : ℕ). (x, v) ∷ es) same ∙ sym (put_same k v e es same)
        | inr (inl lt) ↦ ap (put k v) (without_below k (suc k) (e ∷ es) (omega arith) (omega (arith, lt), r.1))
        | inr (inr lt) ↦
            ap (put k v) (without_later k e es (λ s. omega (arith, s, lt))) ∙ put_more k v e (without k es) lt
            ∙ ap (λ x. e ∷ x) (put_without (suc e.0) k v es r.1) ∙ sym (put_more k v e es lt)
      ]

  -- a key that is not there leaves the map as it is
  pub without_none : (k : ℕ) (es : List (ℕ × V)) → at k es ≡ None → without k es ≡ es
  without_none k [] h = refl
  without_none k (e ∷ es) h =
      elim (cases_eq k e.0) [
        | inl same ↦ absurd (let it : Some e.1 ≡ None = sym (at_first k e es same) ∙ h in cc)
        | inr other ↦ without_later k e es other ∙ ap (λ x. e ∷ x) (without_none k es (sym (at_later k e es other) ∙ h))
      ]

module _ {V W : Type 0} (g : V → Option W) where
  rises_step : (n k : ℕ) (o : Option W) (rest : List (ℕ × W)) → n ≤ k → RisesFrom (suc k) rest → RisesFrom n (cons_option (option_map (λ (w : W). (k, w)) o) rest)
  rises_step n k None rest h r = rises_weaker n (suc k) rest (omega (arith, h)) r
  rises_step n k (Some w) rest h r = (h, r)

  -- what is seen of a rising map rises
  pub rises_view : (n : ℕ) (es : List (ℕ × V)) → RisesFrom n es → RisesFrom n (view g es)
  rises_view n [] r = tt
  rises_view n (e ∷ es) r = rises_step n e.0 (g e.1) (view g es) r.0 (rises_view (suc e.0) es r.1)

  -- a first entry that is seen, and one that is not
  view_some : (e : ℕ × V) (w : W) (es : List (ℕ × V)) → g e.1 ≡ Some w → view g (e ∷ es) ≡ (e.0, w) ∷ view g es
  view_some e w es h = ap (λ o. cons_option (option_map (λ (w : W). (e.0, w)) o) (view g es)) h

  view_none : (e : ℕ × V) (es : List (ℕ × V)) → g e.1 ≡ None → view g (e ∷ es) ≡ view g es
  view_none e es h = ap (λ o. cons_option (option_map (λ (w : W). (e.0, w)) o) (view g es)) h

  at_view_step : (k : ℕ) (e : ℕ × V) (es : List (ℕ × V)) (o : Option W) → g e.1 ≡ o → k ≡ e.0 → RisesFrom (suc e.0) es → at k (view g (e ∷ es)) ≡ o
  at_view_step k e es None h same r = ap (at k) (view_none e es h) ∙ none_below k (suc e.0) (view g es) (omega (arith, same)) (rises_view (suc e.0) es r)
  at_view_step k e es (Some w) h same r = ap (at k) (view_some e w es h) ∙ at_first k (e.0, w) (view g es) same

  past_view : (k : ℕ) (e : ℕ × V) (es : List (ℕ × V)) (o : Option W) → g e.1 ≡ o → k ≢ e.0 → at k (view g (e ∷ es)) ≡ at k (view g es)
  past_view k e es None h other = ap (at k) (view_none e es h)
  past_view k e es (Some w) h other = ap (at k) (view_some e w es h) ∙ at_later k (e.0, w) (view g es) other

  -- what is seen at a key is what is seen of the value there
  pub at_view : (n k : ℕ) (es : List (ℕ × V)) → RisesFrom n es → at k (view g es) ≡ viewed g (at k es)
  at_view n k [] r = refl
  at_view n k (e ∷ es) r =
      elim (cases_eq k e.0) [
        | inl same ↦ at_view_step k e es (g e.1) refl same r.1 ∙ sym (ap (viewed g) (at_first k e es same))
        | inr other ↦ past_view k e es (g e.1) refl other ∙ at_view (suc e.0) k es r.1 ∙ sym (ap (viewed g) (at_later k e es other))
      ]

  -- ---- a value that is seen
  put_view_same : (k : ℕ) (w : W) (e : ℕ × V) (es : List (ℕ × V)) (o : Option W) → g e.1 ≡ o → k ≡ e.0 → RisesFrom (suc e.0) es → put k w (view g (e ∷ es)) ≡ (e.0, w) ∷ view g es
  put_view_same k w e es None h same r =
      ap (put k w) (view_none e es h) ∙ put_below k (suc e.0) w (view g es) (omega (arith, same)) (rises_view (suc e.0) es r) ∙ ap (λ (x : ℕ). (x, w) ∷ view g es) same
  put_view_same k w e es (Some u) h same r = ap (put k w) (view_some e u es h) ∙ put_same k w (e.0, u) (view g es) same

  put_view_more : (k : ℕ) (v : V) (w : W) (e : ℕ × V) (es : List (ℕ × V)) (o : Option W) → g e.1 ≡ o → e.0 < k → view g (put k v es) ≡ put k w (view g es) → view g (e ∷ put k v es) ≡ put k w (view g (e ∷ es))
  put_view_more k v w e es None h lt ih = view_none e (put k v es) h ∙ ih ∙ sym (ap (put k w) (view_none e es h))
  put_view_more k v w e es (Some u) h lt ih =
      view_some e u (put k v es) h ∙ ap (λ x. (e.0, u) ∷ x) ih ∙ sym (put_more k w (e.0, u) (view g es) lt) ∙ sym (ap (put k w) (view_some e u es h))

  -- a put value that is seen is put in what is seen
  pub view_put : (n k : ℕ) (v : V) (w : W) (es : List (ℕ × V)) → RisesFrom n es → g v ≡ Some w → view g (put k v es) ≡ put k w (view g es)
  view_put n k v w [] r h = view_some (k, v) w [] h
  view_put n k v w (e ∷ es) r h =
      elim (cases_order k e.0) [
        | inl same ↦ ap (view g) (put_same k v e es same) ∙ view_some (e.0, v) w es h ∙ sym (put_view_same k w e es (g e.1) refl same r.1)
        | inr (inl lt) ↦
            ap (view g) (put_less k v e es lt) ∙ view_some (k, v) w (e ∷ es) h
            ∙ sym (put_below k (suc k) w (view g (e ∷ es)) (omega arith) (rises_view (suc k) (e ∷ es) (omega (arith, lt), r.1)))
        | inr (inr lt) ↦ ap (view g) (put_more k v e es lt) ∙ put_view_more k v w e es (g e.1) refl lt (view_put (suc e.0) k v w es r.1 h)
      ]

  -- ---- a value that is not
  without_view_same : (k : ℕ) (e : ℕ × V) (es : List (ℕ × V)) (o : Option W) → g e.1 ≡ o → k ≡ e.0 → RisesFrom (suc e.0) es → without k (view g (e ∷ es)) ≡ view g es
  without_view_same k e es None h same r = ap (without k) (view_none e es h) ∙ without_below k (suc e.0) (view g es) (omega (arith, same)) (rises_view (suc e.0) es r)
  without_view_same k e es (Some u) h same r = ap (without k) (view_some e u es h) ∙ without_first k (e.0, u) (view g es) same

  without_view_later : (k : ℕ) (e : ℕ × V) (es fs : List (ℕ × V)) (o : Option W) → g e.1 ≡ o → k ≢ e.0 → view g fs ≡ without k (view g es) → view g (e ∷ fs) ≡ without k (view g (e ∷ es))
  without_view_later k e es fs None h other ih = view_none e fs h ∙ ih ∙ sym (ap (without k) (view_none e es h))
  without_view_later k e es fs (Some u) h other ih =
      view_some e u fs h ∙ ap (λ x. (e.0, u) ∷ x) ih ∙ sym (without_later k (e.0, u) (view g es) other) ∙ sym (ap (without k) (view_some e u es h))

  -- a put value that is not seen takes its key from what is seen
  pub view_put_none : (n k : ℕ) (v : V) (es : List (ℕ × V)) → RisesFrom n es → g v ≡ None → view g (put k v es) ≡ without k (view g es)
  view_put_none n k v [] r h = view_none (k, v) [] h
  view_put_none n k v (e ∷ es) r h =
      elim (cases_order k e.0) [
        | inl same ↦ ap (view g) (put_same k v e es same) ∙ view_none (e.0, v) es h ∙ sym (without_view_same k e es (g e.1) refl same r.1)
        | inr (inl lt) ↦
            ap (view g) (put_less k v e es lt) ∙ view_none (k, v) (e ∷ es) h
            ∙ sym (without_below k (suc k) (view g (e ∷ es)) (omega arith) (rises_view (suc k) (e ∷ es) (omega (arith, lt), r.1)))
        | inr (inr lt) ↦
            ap (view g) (put_more k v e es lt) ∙ without_view_later k e es (put k v es) (g e.1) refl (λ s. omega (arith, s, lt)) (view_put_none (suc e.0) k v es r.1 h)
      ]

  -- a key that goes, goes from what is seen
  pub view_without : (n k : ℕ) (es : List (ℕ × V)) → RisesFrom n es → view g (without k es) ≡ without k (view g es)
  view_without n k [] r = refl
  view_without n k (e ∷ es) r =
      elim (cases_eq k e.0) [
        | inl same ↦ ap (view g) (without_first k e es same) ∙ sym (without_view_same k e es (g e.1) refl same r.1)
        | inr other ↦ ap (view g) (without_later k e es other) ∙ without_view_later k e es (without k es) (g e.1) refl other (view_without (suc e.0) k es r.1)
      ]

  -- a put value that is seen as the one before it changes nothing of what is seen
  pub view_put_same : (n k : ℕ) (v : V) (es : List (ℕ × V)) → RisesFrom n es → viewed g (at k es) ≡ g v → view g (put k v es) ≡ view g es
  view_put_same n k v [] r h = view_none (k, v) [] (sym h)
  view_put_same n k v (e ∷ es) r h =
      elim (cases_order k e.0) [
        | inl same ↦
            ap (view g) (put_same k v e es same)
            ∙ ap (λ o. cons_option (option_map (λ (w : W). (e.0, w)) o) (view g es)) (sym (ap (viewed g) (sym (at_first k e es same)) ∙ h))
        | inr (inl lt) ↦
            ap (view g) (put_less k v e es lt)
            ∙ view_none (k, v) (e ∷ es) (sym (ap (viewed g) (sym (none_below k (suc k) (e ∷ es) (omega arith) (omega (arith, lt), r.1))) ∙ h))
        | inr (inr lt) ↦
            ap (view g) (put_more k v e es lt)
            ∙ ap (cons_option (view_entry g e)) (view_put_same (suc e.0) k v es r.1 (ap (viewed g) (sym (at_later k e es (λ s. omega (arith, s, lt)))) ∙ h))
      ]

module _ {V : Type 0} (p : V → Bool) where
  -- a first entry that passes, and one that does not
  keys_pass : (e : ℕ × V) (es : List (ℕ × V)) → p e.1 ≡ true → keys_where p (e ∷ es) ≡ e.0 ∷ keys_where p es
  keys_pass e es h = ap (λ b. cons_option (cond b (Some e.0) None) (keys_where p es)) h

  keys_fail : (e : ℕ × V) (es : List (ℕ × V)) → p e.1 ≡ false → keys_where p (e ∷ es) ≡ keys_where p es
  keys_fail e es h = ap (λ b. cons_option (cond b (Some e.0) None) (keys_where p es)) h

  -- the keys that pass rise
  pub rises_keys_where : (n : ℕ) (es : List (ℕ × V)) → RisesFrom n es → RisesFromKeys n (keys_where p es)
  rises_keys_where n [] r = tt
  rises_keys_where n (e ∷ es) r =
      let later = rises_keys_where (suc e.0) es r.1 in
      elim (cases_Bool (p e.1)) [
        | inl passes ↦ subst (RisesFromKeys n) (sym (keys_pass e es passes)) (r.0, later)
        | inr fails ↦ subst (RisesFromKeys n) (sym (keys_fail e es fails)) (rises_keys_weaker n (suc e.0) (keys_where p es) (omega (arith, r.0)) later)
      ]

-- ---- numbers that are not in a set
-- a number below a rising set is not in it
pub has_below_none : (k n : ℕ) (ks : List ℕ) → k < n → RisesFromKeys n ks → has ks k ≡ false
has_below_none k n [] h r = refl
has_below_none k n (x ∷ ks) h r = ap (λ b. b || has ks k) (ne_eqb k x (λ s. omega (arith, s, h, r.0))) ∙ has_below_none k (suc x) ks (omega (arith, h, r.0)) r.1

-- a number below a rising set goes before it
pub member_below : (k n : ℕ) (ks : List ℕ) → k < n → RisesFromKeys n ks → with_member k ks ≡ k ∷ ks
member_below k n [] h r = refl
member_below k n (x ∷ ks) h r = let lt : k < x = omega (arith, h, r.0) in grind (arith, nat_tests)

member_same : (k x : ℕ) (ks : List ℕ) → k ≡ x → with_member k (x ∷ ks) ≡ x ∷ ks
member_same k x ks h = grind (arith, nat_tests)

member_more : (k x : ℕ) (ks : List ℕ) → x < k → with_member k (x ∷ ks) ≡ x ∷ with_member k ks
member_more k x ks h = grind (arith, nat_tests)

member_gone : (k x : ℕ) (ks : List ℕ) → k ≡ x → without_member k (x ∷ ks) ≡ without_member k ks
member_gone k x ks h = filter_drop (λ y. not (y == k)) x ks (ap not (eq-eqb x k (sym h)))

member_stays : (k x : ℕ) (ks : List ℕ) → k ≢ x → without_member k (x ∷ ks) ≡ x ∷ without_member k ks
member_stays k x ks h = filter_pass (λ y. not (y == k)) x ks (ap not (ne_eqb x k (λ s. h (sym s))))

-- a set without a number below it
pub no_member_below : (k n : ℕ) (ks : List ℕ) → k < n → RisesFromKeys n ks → without_member k ks ≡ ks
no_member_below k n [] h r = refl
no_member_below k n (x ∷ ks) h r = member_stays k x ks (λ s. omega (arith, s, h, r.0)) ∙ ap (λ y. x ∷ y) (no_member_below k (suc x) ks (omega (arith, h, r.0)) r.1)

module _ {V : Type 0} (p : V → Bool) where
  has_step : (k : ℕ) (e : ℕ × V) (es : List (ℕ × V)) (b : Bool) → p e.1 ≡ b → k ≡ e.0 → RisesFrom (suc e.0) es → has (keys_where p (e ∷ es)) k ≡ b
  has_step k e es true h same r = ap (λ ks. has ks k) (keys_pass p e es h) ∙ ap (λ b. b || has (keys_where p es) k) (eq-eqb k e.0 same)
  has_step k e es false h same r = ap (λ ks. has ks k) (keys_fail p e es h) ∙ has_below_none k (suc e.0) (keys_where p es) (omega (arith, same)) (rises_keys_where p (suc e.0) es r)

  has_past : (k : ℕ) (e : ℕ × V) (es : List (ℕ × V)) (b : Bool) → p e.1 ≡ b → k ≢ e.0 → has (keys_where p (e ∷ es)) k ≡ has (keys_where p es) k
  has_past k e es true h other = ap (λ ks. has ks k) (keys_pass p e es h) ∙ ap (λ b. b || has (keys_where p es) k) (ne_eqb k e.0 other)
  has_past k e es false h other = ap (λ ks. has ks k) (keys_fail p e es h)

  -- a key passes where its value does
  pub has_keys : (n k : ℕ) (es : List (ℕ × V)) → RisesFrom n es → has (keys_where p es) k ≡ key_if p (at k es)
  has_keys n k [] r = refl
  has_keys n k (e ∷ es) r =
      elim (cases_eq k e.0) [
        | inl same ↦ has_step k e es (p e.1) refl same r.1 ∙ sym (ap (key_if p) (at_first k e es same))
        | inr other ↦ has_past k e es (p e.1) refl other ∙ has_keys (suc e.0) k es r.1 ∙ sym (ap (key_if p) (at_later k e es other))
      ]

  with_same : (k : ℕ) (e : ℕ × V) (es : List (ℕ × V)) (b : Bool) → p e.1 ≡ b → k ≡ e.0 → RisesFrom (suc e.0) es → with_member k (keys_where p (e ∷ es)) ≡ e.0 ∷ keys_where p es
  with_same k e es true h same r = ap (with_member k) (keys_pass p e es h) ∙ member_same k e.0 (keys_where p es) same
  with_same k e es false h same r =
      ap (with_member k) (keys_fail p e es h) ∙ member_below k (suc e.0) (keys_where p es) (omega (arith, same)) (rises_keys_where p (suc e.0) es r) ∙ ap (λ (x : ℕ). x ∷ keys_where p es) same

  with_more : (k : ℕ) (e : ℕ × V) (es fs : List (ℕ × V)) (b : Bool) → p e.1 ≡ b → e.0 < k → keys_where p fs ≡ with_member k (keys_where p es) → keys_where p (e ∷ fs) ≡ with_member k (keys_where p (e ∷ es))
  with_more k e es fs true h lt ih =
      keys_pass p e fs h ∙ ap (λ x. e.0 ∷ x) ih ∙ sym (member_more k e.0 (keys_where p es) lt) ∙ sym (ap (with_member k) (keys_pass p e es h))
  with_more k e es fs false h lt ih = keys_fail p e fs h ∙ ih ∙ sym (ap (with_member k) (keys_fail p e es h))

  -- a put value that passes puts its key in
  pub keys_put : (n k : ℕ) (v : V) (es : List (ℕ × V)) → RisesFrom n es → p v ≡ true → keys_where p (put k v es) ≡ with_member k (keys_where p es)
  keys_put n k v [] r h = keys_pass p (k, v) [] h
  keys_put n k v (e ∷ es) r h =
      elim (cases_order k e.0) [
        | inl same ↦ ap (keys_where p) (put_same k v e es same) ∙ keys_pass p (e.0, v) es h ∙ sym (with_same k e es (p e.1) refl same r.1)
        | inr (inl lt) ↦
            ap (keys_where p) (put_less k v e es lt) ∙ keys_pass p (k, v) (e ∷ es) h
            ∙ sym (member_below k (suc k) (keys_where p (e ∷ es)) (omega arith) (rises_keys_where p (suc k) (e ∷ es) (omega (arith, lt), r.1)))
        | inr (inr lt) ↦ ap (keys_where p) (put_more k v e es lt) ∙ with_more k e es (put k v es) (p e.1) refl lt (keys_put (suc e.0) k v es r.1 h)
      ]

  gone_same : (k : ℕ) (e : ℕ × V) (es : List (ℕ × V)) (b : Bool) → p e.1 ≡ b → k ≡ e.0 → RisesFrom (suc e.0) es → without_member k (keys_where p (e ∷ es)) ≡ keys_where p es
  gone_same k e es true h same r =
      ap (without_member k) (keys_pass p e es h) ∙ member_gone k e.0 (keys_where p es) same ∙ no_member_below k (suc e.0) (keys_where p es) (omega (arith, same)) (rises_keys_where p (suc e.0) es r)
  gone_same k e es false h same r = ap (without_member k) (keys_fail p e es h) ∙ no_member_below k (suc e.0) (keys_where p es) (omega (arith, same)) (rises_keys_where p (suc e.0) es r)

  gone_later : (k : ℕ) (e : ℕ × V) (es fs : List (ℕ × V)) (b : Bool) → p e.1 ≡ b → k ≢ e.0 → keys_where p fs ≡ without_member k (keys_where p es) → keys_where p (e ∷ fs) ≡ without_member k (keys_where p (e ∷ es))
  gone_later k e es fs true h other ih =
      keys_pass p e fs h ∙ ap (λ x. e.0 ∷ x) ih ∙ sym (member_stays k e.0 (keys_where p es) other) ∙ sym (ap (without_member k) (keys_pass p e es h))
  gone_later k e es fs false h other ih = keys_fail p e fs h ∙ ih ∙ sym (ap (without_member k) (keys_fail p e es h))

  -- a put value that does not pass takes its key out
  pub keys_put_none : (n k : ℕ) (v : V) (es : List (ℕ × V)) → RisesFrom n es → p v ≡ false → keys_where p (put k v es) ≡ without_member k (keys_where p es)
  keys_put_none n k v [] r h = keys_fail p (k, v) [] h
  keys_put_none n k v (e ∷ es) r h =
      elim (cases_order k e.0) [
        | inl same ↦ ap (keys_where p) (put_same k v e es same) ∙ keys_fail p (e.0, v) es h ∙ sym (gone_same k e es (p e.1) refl same r.1)
        | inr (inl lt) ↦
            ap (keys_where p) (put_less k v e es lt) ∙ keys_fail p (k, v) (e ∷ es) h
            ∙ sym (no_member_below k (suc k) (keys_where p (e ∷ es)) (omega arith) (rises_keys_where p (suc k) (e ∷ es) (omega (arith, lt), r.1)))
        | inr (inr lt) ↦
            ap (keys_where p) (put_more k v e es lt) ∙ gone_later k e es (put k v es) (p e.1) refl (λ s. omega (arith, s, lt)) (keys_put_none (suc e.0) k v es r.1 h)
      ]

  -- a key that goes, goes from those that pass
  pub keys_without : (n k : ℕ) (es : List (ℕ × V)) → RisesFrom n es → keys_where p (without k es) ≡ without_member k (keys_where p es)
  keys_without n k [] r = refl
  keys_without n k (e ∷ es) r =
      elim (cases_eq k e.0) [
        | inl same ↦ ap (keys_where p) (without_first k e es same) ∙ sym (gone_same k e es (p e.1) refl same r.1)
        | inr other ↦ ap (keys_where p) (without_later k e es other) ∙ gone_later k e es (without k es) (p e.1) refl other (keys_without (suc e.0) k es r.1)
      ]

  -- a put value that passes as the one before it leaves the keys that pass
  pub keys_put_same : (n k : ℕ) (v : V) (es : List (ℕ × V)) → RisesFrom n es → key_if p (at k es) ≡ p v → keys_where p (put k v es) ≡ keys_where p es
  keys_put_same n k v [] r h = keys_fail p (k, v) [] (sym h)
  keys_put_same n k v (e ∷ es) r h =
      elim (cases_order k e.0) [
        | inl same ↦
            ap (keys_where p) (put_same k v e es same)
            ∙ ap (λ b. cons_option (cond b (Some e.0) None) (keys_where p es)) (sym (ap (key_if p) (sym (at_first k e es same)) ∙ h))
        | inr (inl lt) ↦
            ap (keys_where p) (put_less k v e es lt)
            ∙ keys_fail p (k, v) (e ∷ es) (sym (ap (key_if p) (sym (none_below k (suc k) (e ∷ es) (omega arith) (omega (arith, lt), r.1))) ∙ h))
        | inr (inr lt) ↦
            ap (keys_where p) (put_more k v e es lt)
            ∙ ap (cons_option (cond (p e.1) (Some e.0) None)) (keys_put_same (suc e.0) k v es r.1 (ap (key_if p) (sym (at_later k e es (λ s. omega (arith, s, lt)))) ∙ h))
      ]
