-- What stands at the place of a key.
use Rattle.std.proofs.Common.{true, ◌≡◌, ◌≢◌, ◌∙◌, ℕ, suc, ◌+◌, ◌++◌, ◌<◌, ◌≤◌, List, [], ◌∷◌, None, Some, sym, ap, refl, length, arith, drop, inl, inr, subst, get_or, slice_get, take, false, zero}
use Rattle.std.specs.Prelude.{IfSome, insert, is_some, remove}
use Rattle.std.proofs.Math.ListN.{set}
use Rattle.std.proofs.lemmas.List.{drop-set, take-append-drop, take-set}
use Rattle.std.proofs.lemmas.Option.{slice_get-get_or}
use Rattle.std.proofs.lemmas.Bool.Decides.{nat_tests}
use Rattle.std.proofs.lemmas.Bool.{cases_eq, cases_order, false≢true}
use Rattle.xt_base.proofs.KeyLemmas.{is_in_first, is_in_later}
use Rattle.xt_base.proofs.RisingLemmas.{none_below, rises_weaker}
use Rattle.xt_base.specs.Maps.{at, is_in, put, without}
use Rattle.xt_base.specs.Places.{place}
use Rattle.xt_base.specs.Sound.{IsRising, RisesFrom}

differ : (a b : ℕ) → a ≡ b → b < a → ⊥
differ a b e h = omega arith

shorter : (p n : ℕ) → suc p < suc n → p < n
shorter p n h = omega arith

module _ {V : Type 0} where
  -- one entry of `put`, by how its key stands
  pub put_less : (k : ℕ) (v : V) (e : ℕ × V) (es : List (ℕ × V)) → k < e.0 → put k v (e ∷ es) ≡ (k, v) ∷ e ∷ es
  put_less k v e es h = grind (arith, nat_tests)

  pub put_same : (k : ℕ) (v : V) (e : ℕ × V) (es : List (ℕ × V)) → k ≡ e.0 → put k v (e ∷ es) ≡ (k, v) ∷ es
  put_same k v e es h = grind (arith, nat_tests)

  pub put_more : (k : ℕ) (v : V) (e : ℕ × V) (es : List (ℕ × V)) → e.0 < k → put k v (e ∷ es) ≡ e ∷ put k v es
  put_more k v e es h = grind (arith, nat_tests)

  -- the place, by how the first key stands
  place_low : (k : ℕ) (e : ℕ × V) (es : List (ℕ × V)) → e.0 < k → place k (e ∷ es) ≡ suc (place k es)
  place_low k e es h = grind (arith, nat_tests)

  place_here : (k : ℕ) (e : ℕ × V) (es : List (ℕ × V)) → k ≤ e.0 → place k (e ∷ es) ≡ 0
  place_here k e es h = grind (arith, nat_tests)

  -- a new key goes in at its place
  insert_is : (k : ℕ) (v : V) (m : List (ℕ × V)) (d : ℕ × V) (p : ℕ) → p ≡ place k m → (p < length m → (get_or m p d).0 ≢ k) → insert {X = ℕ × V} m p (k, v) ≡ put k v m
  insert_is k v [] d p is new = subst (λ n. insert {X = ℕ × V} [] n (k, v) ≡ (k, v) ∷ []) (sym is) refl
  insert_is k v (e ∷ es) d p is new =
      elim (cases_order k e.0) [
        | inl same ↦ absurd (subst (λ n. n < length (e ∷ es) → (get_or (e ∷ es) n d).0 ≢ k) (is ∙ place_here k e es (omega arith)) new (omega arith) (sym same))
        | inr (inl lt) ↦ subst (λ n. insert {X = ℕ × V} (e ∷ es) n (k, v) ≡ put k v (e ∷ es)) (sym (is ∙ place_here k e es (omega arith))) (sym (put_less k v e es lt))
        | inr (inr gt) ↦ subst (λ n. insert {X = ℕ × V} (e ∷ es) n (k, v) ≡ put k v (e ∷ es)) (sym (is ∙ place_low k e es gt))
            (ap (λ xs. e ∷ xs) (insert_is k v es d (place k es) refl (λ h. subst (λ n. n < length (e ∷ es) → (get_or (e ∷ es) n d).0 ≢ k) (is ∙ place_low k e es gt) new (omega arith)))
            ∙ sym (put_more k v e es gt))
      ]

  pub put_new : (k : ℕ) (v : V) (m : List (ℕ × V)) (d : ℕ × V) → (place k m < length m → (get_or m (place k m) d).0 ≢ k) → insert {X = ℕ × V} m (place k m) (k, v) ≡ put k v m
  put_new k v m d new = insert_is k v m d (place k m) refl new

  -- an entry is written where its key stands
  set_is : (k : ℕ) (v : V) (m : List (ℕ × V)) (d : ℕ × V) (p : ℕ) → p ≡ place k m → p < length m → (get_or m p d).0 ≡ k → set {A = ℕ × V} m p (k, v) ≡ put k v m
  set_is k v [] d p is lt here = absurd (omega arith)
  set_is k v (e ∷ es) d p is lt here =
      elim (cases_order k e.0) [
        | inl same ↦ subst (λ n. set {A = ℕ × V} (e ∷ es) n (k, v) ≡ put k v (e ∷ es)) (sym (is ∙ place_here k e es (omega arith))) (sym (put_same k v e es same))
        | inr (inl less) ↦ absurd (differ e.0 k (subst (λ n. (get_or (e ∷ es) n d).0 ≡ k) (is ∙ place_here k e es (omega arith)) here) less)
        | inr (inr gt) ↦ subst (λ n. set {A = ℕ × V} (e ∷ es) n (k, v) ≡ put k v (e ∷ es)) (sym (is ∙ place_low k e es gt))
            (ap (λ xs. e ∷ xs) (set_is k v es d (place k es) refl (shorter (place k es) (length es) (subst (λ n. n < length (e ∷ es)) (is ∙ place_low k e es gt) lt))
            (subst (λ n. (get_or (e ∷ es) n d).0 ≡ k) (is ∙ place_low k e es gt) here)) ∙ sym (put_more k v e es gt))
      ]

  pub at_here : (k : ℕ) (e : ℕ × V) (es : List (ℕ × V)) → e.0 ≡ k → at k (e ∷ es) ≡ Some e.1
  at_here k e es h = grind (arith, nat_tests)

  pub at_later : (k : ℕ) (e : ℕ × V) (es : List (ℕ × V)) → e.0 ≢ k → at k (e ∷ es) ≡ at k es
  at_later k e es h = grind (arith, nat_tests)

  pub without_here : (k : ℕ) (e : ℕ × V) (es : List (ℕ × V)) → e.0 ≡ k → without k (e ∷ es) ≡ es
  without_here k e es h = grind (arith, nat_tests)

  pub without_later : (k : ℕ) (e : ℕ × V) (es : List (ℕ × V)) → e.0 ≢ k → without k (e ∷ es) ≡ e ∷ without k es
  without_later k e es h = grind (arith, nat_tests)

  -- what `put` makes, by the element that was read at the place of its key
  pub put_found : (k : ℕ) (v : V) (m : List (ℕ × V)) (p : ℕ) (e : ℕ × V) → p ≡ place k m → p < length m → e ≡ get_or m p e → e.0 ≡ k → set {A = ℕ × V} m p (k, v) ≡ put k v m
  put_found k v m p e is lt here same = set_is k v m e p is lt (ap (λ (x : ℕ × V). x.0) (sym here) ∙ same)

  pub put_there : (k : ℕ) (v : V) (m n : List (ℕ × V)) (p : ℕ) (e : ℕ × V) → p ≡ place k m → n ≡ insert {X = ℕ × V} m p (k, v) → e ≡ get_or m p e → e.0 ≢ k → n ≡ put k v m
  put_there k v m n p e is left here other = left ∙ insert_is k v m e p is (λ h same. other (ap (λ (x : ℕ × V). x.0) here ∙ same))

  pub put_last : (k : ℕ) (v : V) (m n : List (ℕ × V)) (p : ℕ) → p ≡ place k m → n ≡ insert {X = ℕ × V} m p (k, v) → length m ≤ p → n ≡ put k v m
  put_last k v m n p is left le = left ∙ insert_is k v m (k, v) p is (λ h. absurd (omega arith))

  -- an element that was put in place of one with its key
  pub replaced : (v : V) (m : List (ℕ × V)) (i : ℕ) (e : ℕ × V) → i < length m → e ≡ get_or m i e
      → IfSome (slice_get m i) (λ x. set {A = ℕ × V} m i (e.0, v) ≡ take i m ++ ((x.0, v) ∷ drop (i + 1) m))
  replaced v m i e lt here =
      let whole : List (ℕ × V) = set {A = ℕ × V} m i (e.0, v) in
      let split : whole ≡ take i m ++ ((e.0, v) ∷ drop (i + 1) m) =
      sym (take-append-drop i whole) ∙ ap (λ xs. xs ++ drop i whole) (take-set m i (e.0, v)) ∙ ap (λ xs. take i m ++ xs) (drop-set m i (e.0, v) lt) in
      subst (λ o. IfSome o (λ x. whole ≡ take i m ++ ((x.0, v) ∷ drop (i + 1) m))) (sym (slice_get-get_or m i e lt))
      (split ∙ ap (λ (x : ℕ × V). take i m ++ ((x.0, v) ∷ drop (i + 1) m)) here)

  -- a key that does not stand at its place in a rising map is not there
  absent_is : (n k : ℕ) (m : List (ℕ × V)) (d : ℕ × V) (p : ℕ) → RisesFrom n m → p ≡ place k m → (p < length m → (get_or m p d).0 ≢ k) → at k m ≡ None
  absent_is n k [] d p r is other = refl
  absent_is n k (e ∷ es) d p r is other =
      elim (cases_order k e.0) [
        | inl same ↦ absurd (subst (λ n. n < length (e ∷ es) → (get_or (e ∷ es) n d).0 ≢ k) (is ∙ place_here k e es (omega arith)) other (omega arith) (sym same))
        | inr (inl lt) ↦ none_below k (suc k) (e ∷ es) (omega arith) (omega (arith, lt), r.1)
        | inr (inr gt) ↦
            at_later k e es (λ s. omega (arith, s, gt))
            ∙ absent_is (suc e.0) k es d (place k es) r.1 refl (λ h. subst (λ n. n < length (e ∷ es) → (get_or (e ∷ es) n d).0 ≢ k) (is ∙ place_low k e es gt) other (omega arith))
      ]

  -- another entry stands at its place
  pub absent_there : (k : ℕ) (m : List (ℕ × V)) (p : ℕ) (e : ℕ × V) → IsRising m → p ≡ place k m → e ≡ get_or m p e → e.0 ≢ k → is_in k m ≡ false
  absent_there k m p e r is here other = ap is_some (absent_is 0 k m e p r is (λ h same. other (ap (λ (x : ℕ × V). x.0) here ∙ same)))

  -- its place is behind the last entry
  pub absent_last : (k : ℕ) (m : List (ℕ × V)) (p : ℕ) → IsRising m → p ≡ place k m → length m ≤ p → is_in k m ≡ false
  absent_last k [] p r is le = refl
  absent_last k (e ∷ es) p r is le = ap is_some (absent_is 0 k (e ∷ es) e p r is (λ h. absurd (omega arith)))

  -- and has nothing
  pub none_there : (k : ℕ) (m : List (ℕ × V)) (p : ℕ) (e : ℕ × V) → IsRising m → p ≡ place k m → e ≡ get_or m p e → e.0 ≢ k → None ≡ at k m
  none_there k m p e r is here other = sym (absent_is 0 k m e p r is (λ h same. other (ap (λ (x : ℕ × V). x.0) here ∙ same)))

  pub none_last : (k : ℕ) (m : List (ℕ × V)) (p : ℕ) → IsRising m → p ≡ place k m → length m ≤ p → None ≡ at k m
  none_last k [] p r is le = refl
  none_last k (e ∷ es) p r is le = sym (absent_is 0 k (e ∷ es) e p r is (λ h. absurd (omega arith)))

  -- what stands at a place that there is
  pub one_there : (m : List (ℕ × V)) (p : ℕ) (d e : ℕ × V) → p < length m → get_or m p d ≡ get_or m p e
  one_there [] p d e lt = absurd (omega arith)
  one_there (x ∷ xs) zero d e lt = refl
  one_there (x ∷ xs) (suc p) d e lt = one_there xs p d e (shorter p (length xs) lt)

  -- the key of what stands at a place is there
  pub in_at : (k : ℕ) (m : List (ℕ × V)) (p : ℕ) (e : ℕ × V) → p < length m → e ≡ get_or m p e → e.0 ≡ k → true ≡ is_in k m
  in_at k [] p e lt here same = absurd (omega arith)
  in_at k (x ∷ xs) zero e lt here same = sym (is_in_first k x xs (sym same ∙ ap (λ (y : ℕ × V). y.0) here))
  in_at k (x ∷ xs) (suc p) e lt here same = sym (is_in_later k x xs (sym (in_at k xs p e (shorter p (length xs) lt) here same)))

  -- a key that is not there goes in at its place
  pub put_absent : (k : ℕ) (v : V) (m : List (ℕ × V)) (p : ℕ) → p ≡ place k m → is_in k m ≡ false → insert {X = ℕ × V} m p (k, v) ≡ put k v m
  put_absent k v [] p is h = subst (λ n. insert {X = ℕ × V} [] n (k, v) ≡ (k, v) ∷ []) (sym is) refl
  put_absent k v (e ∷ es) p is h =
      elim (cases_order k e.0) [
        | inl same ↦ absurd (false≢true (sym h ∙ ap is_some (at_here k e es (sym same))))
        | inr (inl lt) ↦ subst (λ n. insert {X = ℕ × V} (e ∷ es) n (k, v) ≡ put k v (e ∷ es)) (sym (is ∙ place_here k e es (omega arith))) (sym (put_less k v e es lt))
        | inr (inr gt) ↦ subst (λ n. insert {X = ℕ × V} (e ∷ es) n (k, v) ≡ put k v (e ∷ es)) (sym (is ∙ place_low k e es gt))
            (ap (λ xs. e ∷ xs) (put_absent k v es (place k es) refl (ap is_some (sym (at_later k e es (λ s. omega (arith, s, gt)))) ∙ h)) ∙ sym (put_more k v e es gt))
      ]

  -- an entry whose place is behind all others
  pub put_behind : (k : ℕ) (v : V) (m : List (ℕ × V)) (p : ℕ) → p ≡ place k m → is_in k m ≡ false → length m ≤ p → m ++ (k, v) ∷ [] ≡ put k v m
  put_behind k v [] p is h le = refl
  put_behind k v (e ∷ es) p is h le =
      elim (cases_order k e.0) [
        | inl same ↦ absurd (false≢true (sym h ∙ ap is_some (at_here k e es (sym same))))
        | inr (inl lt) ↦ absurd (omega (arith, is, place_here k e es (omega arith), le))
        | inr (inr gt) ↦ ap (λ xs. e ∷ xs) (put_behind k v es (place k es) refl (ap is_some (sym (at_later k e es (λ s. omega (arith, s, gt)))) ∙ h) (omega (arith, is, place_low k e es gt, le)))
            ∙ sym (put_more k v e es gt)
      ]

  -- a key that was taken away is not there
  pub absent_after : (n k : ℕ) (m : List (ℕ × V)) → RisesFrom n m → is_in k (without k m) ≡ false
  absent_after n k [] r = refl
  absent_after n k (e ∷ es) r =
      elim (cases_eq e.0 k) [
        | inl same ↦ ap (is_in k) (without_here k e es same) ∙ ap is_some (none_below k (suc e.0) es (omega (arith, same)) r.1)
        | inr other ↦ ap (is_in k) (without_later k e es other) ∙ ap is_some (at_later k e (without k es) other) ∙ absent_after (suc e.0) k es r.1
      ]

  -- a place is behind no more than all entries
  pub place_le : (k : ℕ) (m : List (ℕ × V)) → place k m ≤ length m
  place_le k [] = omega arith
  place_le k (e ∷ es) =
      elim (cases_order k e.0) [
        | inl same ↦ omega (arith, place_here k e es (omega (arith, same)))
        | inr (inl less) ↦ omega (arith, place_here k e es (omega (arith, less)))
        | inr (inr more) ↦ omega (arith, place_low k e es more, place_le k es)
      ]

  -- a key of a rising map, from its first bound on
  rise_at : (n : ℕ) (m : List (ℕ × V)) (i : ℕ) (d : ℕ × V) → RisesFrom n m → i < length m → n ≤ (get_or m i d).0
  rise_at n [] i d r lt = absurd (omega arith)
  rise_at n (e ∷ es) zero d r lt = r.0
  rise_at n (e ∷ es) (suc i) d r lt = omega (arith, r.0, rise_at (suc e.0) es i d r.1 (shorter i (length es) lt))

  -- the place of a key is behind each lower one, and not behind one that is no lower
  pub place_above : (n k : ℕ) (m : List (ℕ × V)) (i : ℕ) (d : ℕ × V) → RisesFrom n m → i < length m → (get_or m i d).0 < k → i < place k m
  place_above n k [] i d r lt low = absurd (omega arith)
  place_above n k (e ∷ es) zero d r lt low = omega (arith, place_low k e es low)
  place_above n k (e ∷ es) (suc i) d r lt low =
      let less : i < length es = shorter i (length es) lt in
      omega (arith, place_low k e es (omega (arith, low, rise_at (suc e.0) es i d r.1 less)), place_above (suc e.0) k es i d r.1 less low)

  pub place_below : (k : ℕ) (m : List (ℕ × V)) (i : ℕ) (d : ℕ × V) → i < length m → k ≤ (get_or m i d).0 → place k m ≤ i
  place_below k [] i d lt high = absurd (omega arith)
  place_below k (e ∷ es) zero d lt high = omega (arith, place_here k e es high)
  place_below k (e ∷ es) (suc i) d lt high =
      elim (cases_order k e.0) [
        | inl same ↦ omega (arith, place_here k e es (omega (arith, same)))
        | inr (inl less) ↦ omega (arith, place_here k e es (omega (arith, less)))
        | inr (inr more) ↦ omega (arith, place_low k e es more, place_below k es i d (shorter i (length es) lt) high)
      ]

  -- what a map has at a key that stands at its place
  pub at_place : (k : ℕ) (m : List (ℕ × V)) (p : ℕ) (e : ℕ × V) → p ≡ place k m → p < length m → e ≡ get_or m p e → e.0 ≡ k → Some e.1 ≡ at k m
  at_place k [] p e is lt here same = absurd (omega arith)
  at_place k (x ∷ xs) p e is lt here same =
      elim (cases_order k x.0) [
        | inl first ↦
            let found : e ≡ x = subst (λ n. e ≡ get_or (x ∷ xs) n e) (is ∙ place_here k x xs (omega arith)) here in
            ap (λ (y : ℕ × V). Some y.1) found ∙ sym (at_here k x xs (sym first))
        | inr (inl less) ↦
            let found : e ≡ x = subst (λ n. e ≡ get_or (x ∷ xs) n e) (is ∙ place_here k x xs (omega arith)) here in
            absurd (differ x.0 k (ap (λ (y : ℕ × V). y.0) (sym found) ∙ same) less)
        | inr (inr more) ↦
            at_place k xs (place k xs) e refl (shorter (place k xs) (length xs) (subst (λ n. n < length (x ∷ xs)) (is ∙ place_low k x xs more) lt))
            (subst (λ n. e ≡ get_or (x ∷ xs) n e) (is ∙ place_low k x xs more) here) same
            ∙ sym (at_later k x xs (λ s. omega (arith, s, more)))
      ]

  -- and what is left of the map without that
  remove_place : (k : ℕ) (m : List (ℕ × V)) (p : ℕ) (e : ℕ × V) → p ≡ place k m → p < length m → e ≡ get_or m p e → e.0 ≡ k → remove m p ≡ without k m
  remove_place k [] p e is lt here same = absurd (omega arith)
  remove_place k (x ∷ xs) p e is lt here same =
      elim (cases_order k x.0) [
        | inl first ↦ subst (λ n. remove (x ∷ xs) n ≡ without k (x ∷ xs)) (sym (is ∙ place_here k x xs (omega arith))) (sym (without_here k x xs (sym first)))
        | inr (inl less) ↦
            let found : e ≡ x = subst (λ n. e ≡ get_or (x ∷ xs) n e) (is ∙ place_here k x xs (omega arith)) here in
            absurd (differ x.0 k (ap (λ (y : ℕ × V). y.0) (sym found) ∙ same) less)
        | inr (inr more) ↦ subst (λ n. remove (x ∷ xs) n ≡ without k (x ∷ xs)) (sym (is ∙ place_low k x xs more))
            (ap (λ ys. x ∷ ys) (remove_place k xs (place k xs) e refl (shorter (place k xs) (length xs) (subst (λ n. n < length (x ∷ xs)) (is ∙ place_low k x xs more) lt))
            (subst (λ n. e ≡ get_or (x ∷ xs) n e) (is ∙ place_low k x xs more) here) same)
            ∙ sym (without_later k x xs (λ s. omega (arith, s, more))))
      ]

  pub rest_place : (k : ℕ) (m n : List (ℕ × V)) (p : ℕ) (e : ℕ × V) → p ≡ place k m → p < length m → e ≡ get_or m p e → e.0 ≡ k → n ≡ remove m p → n ≡ without k m
  rest_place k m n p e is lt here same left = left ∙ remove_place k m p e is lt here same

  -- a map without a key that is not there
  pub without_absent : (k : ℕ) (m : List (ℕ × V)) → is_in k m ≡ false → m ≡ without k m
  without_absent k [] h = refl
  without_absent k (x ∷ xs) h =
      elim (cases_eq x.0 k) [
        | inl same ↦ absurd (false≢true (sym h ∙ ap is_some (at_here k x xs same)))
        | inr other ↦ ap (λ ys. x ∷ ys) (without_absent k xs (ap is_some (sym (at_later k x xs other)) ∙ h)) ∙ sym (without_later k x xs other)
      ]

  -- what is left of a rising map rises
  pub rises_remove : (n : ℕ) (m : List (ℕ × V)) (p : ℕ) → RisesFrom n m → RisesFrom n (remove m p)
  rises_remove n [] zero r = tt
  rises_remove n [] (suc p) r = tt
  rises_remove n (e ∷ es) zero r = rises_weaker n (suc e.0) es (omega (arith, r.0)) r.1
  rises_remove n (e ∷ es) (suc p) r = (r.0, rises_remove (suc e.0) es p r.1)

  -- a map rises with another value at a place
  pub rises_replaced : (n : ℕ) (v : V) (m : List (ℕ × V)) (i : ℕ) (e : ℕ × V) → RisesFrom n m → e ≡ get_or m i e → RisesFrom n (set {A = ℕ × V} m i (e.0, v))
  rises_replaced n v [] zero e r here = tt
  rises_replaced n v [] (suc i) e r here = tt
  rises_replaced n v (x ∷ xs) zero e r here = subst (λ (k : ℕ). (n ≤ k) × RisesFrom (suc k) xs) (ap (λ (y : ℕ × V). y.0) (sym here)) r
  rises_replaced n v (x ∷ xs) (suc i) e r here = (r.0, rises_replaced (suc x.0) v xs i e r.1 here)
