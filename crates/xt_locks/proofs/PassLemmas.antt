-- The entries of a transaction's blocks, passed on one by one.
use Rattle.std.proofs.Common.{◌≡◌, ◌∙◌, ◌+◌, ◌<◌, ◌≤◌, ◌++◌, ◌∷◌, Bool, List, None, Option, Some, [], add-one, ap, append_assoc, arith, drop, false, length, not, refl, subst, suc, sym, take, true, zero, ℕ}
use Rattle.std.specs.List.{cons_option}
use Rattle.std.specs.Prelude.{IfSome, filter_map, if◌then◌else◌, option_map, slice_get}
use Rattle.xt_base.specs.Legs.{owned_by}
use Rattle.xt_base.specs.declared.steps.Owner.{Owner}
use Rattle.xt_locks.specs.Locking.{IsPassedAt, Owners, passed}

-- the element at a place, and the list from there on
place_is : {X : Type 0} (P : X → Type 0) (xs : List X) (i : ℕ) → i < length xs → IfSome (slice_get xs i) P → (e : X) × (drop i xs ≡ e ∷ drop (suc i) xs) × P e
place_is P [] i lt holds = absurd (omega arith)
place_is P (x ∷ xs) zero lt holds = (x, refl, holds)
place_is P (x ∷ xs) (suc i) lt holds = place_is P xs i (omega arith) holds

-- a list up to a place, with others behind it
take_before : {X : Type 0} (xs : List X) (i : ℕ) (ys : List X) → i ≤ length xs → take i (take i xs ++ ys) ≡ take i xs
take_before [] zero ys le = refl
take_before [] (suc i) ys le = absurd (omega arith)
take_before (x ∷ xs) zero ys le = refl
take_before (x ∷ xs) (suc i) ys le = ap (λ zs. x ∷ zs) (take_before xs i ys (omega arith))

drop_before : {X : Type 0} (xs : List X) (i : ℕ) (ys : List X) → i ≤ length xs → drop i (take i xs ++ ys) ≡ ys
drop_before [] zero ys le = refl
drop_before [] (suc i) ys le = absurd (omega arith)
drop_before (x ∷ xs) zero ys le = refl
drop_before (x ∷ xs) (suc i) ys le = drop_before xs i ys (omega arith)

-- the same with one more
take_next : {X : Type 0} (xs : List X) (i : ℕ) (y : X) (ys : List X) → i ≤ length xs → take (suc i) (take i xs ++ (y ∷ ys)) ≡ take i xs ++ (y ∷ [])
take_next [] zero y ys le = refl
take_next [] (suc i) y ys le = absurd (omega arith)
take_next (x ∷ xs) zero y ys le = refl
take_next (x ∷ xs) (suc i) y ys le = ap (λ zs. x ∷ zs) (take_next xs i y ys (omega arith))

drop_next : {X : Type 0} (xs : List X) (i : ℕ) (y : X) (ys : List X) → i ≤ length xs → drop (suc i) (take i xs ++ (y ∷ ys)) ≡ ys
drop_next [] zero y ys le = refl
drop_next [] (suc i) y ys le = absurd (omega arith)
drop_next (x ∷ xs) zero y ys le = refl
drop_next (x ∷ xs) (suc i) y ys le = drop_next xs i y ys (omega arith)

-- ---- one entry
module _ (t : ℕ) (f : ℕ → Option Owner) (m : Owners) (i : ℕ) (e : ℕ × Owner) (here : slice_get m i ≡ Some e) where
  whole_again : m ≡ take i m ++ (e ∷ drop (i + 1) m)
  whole_again = whole m i e here ∙ ap (λ k. take i m ++ (e ∷ drop k m)) (sym (add-one i))
    where
      whole : (xs : Owners) (j : ℕ) (x : ℕ × Owner) → slice_get xs j ≡ Some x → xs ≡ take j xs ++ (x ∷ drop (suc j) xs)
      whole [] j x is = absurd (cc)
      whole (y ∷ ys) zero x is = ap (λ o. cons_option o ys) is
      whole (y ∷ ys) (suc j) x is = ap (λ zs. y ∷ zs) (whole ys j x is)

  here_if : (P : ℕ × Owner → Type 0) → P e → IfSome (slice_get m i) P
  here_if P h = subst (λ o. IfSome o P) (sym here) h

  -- one of another owner stays
  pub stays : owned_by t e.1 ≡ false → IfSome (slice_get m i) (λ x. IsPassedAt i (passed t f x) true m m)
  stays other =
      let same : passed t f e ≡ Some e = ap (λ b. if not b then Some e else option_map (λ o. (e.0, o)) (f e.0)) other in
      here_if (λ x. IsPassedAt i (passed t f x) true m m) (subst (λ o. IsPassedAt i o true m m) (sym same) (record { stays = refl; list = whole_again }))

-- ---- all of them
module _ (t : ℕ) (f : ℕ → Option Owner) where
  -- what stands before a place was passed on, and what stands from there on will be
  abbrev pub Passes : ℕ → Owners → Owners → Type 0
  Passes i old now = take i now ++ filter_map (passed t f) (drop i now) ≡ filter_map (passed t f) old

  passed_some : (e x : ℕ × Owner) (es : Owners) → passed t f e ≡ Some x → filter_map (passed t f) (e ∷ es) ≡ x ∷ filter_map (passed t f) es
  passed_some e x es h = ap (λ o. cons_option o (filter_map (passed t f) es)) h

  passed_none : (e : ℕ × Owner) (es : Owners) → passed t f e ≡ None → filter_map (passed t f) (e ∷ es) ≡ filter_map (passed t f) es
  passed_none e es h = ap (λ o. cons_option o (filter_map (passed t f) es)) h

  module _ (old now new : Owners) (i : ℕ) (lt : i < length now) where
    passes_by : (e : ℕ × Owner) (o : Option (ℕ × Owner)) (kept : Bool) → passed t f e ≡ o → drop i now ≡ e ∷ drop (suc i) now → IsPassedAt i o kept new now → Passes i old now
        → Passes (if kept then i + 1 else i) old new
    passes_by e (Some x) true is rest at before =
        let le : i ≤ length now = omega (arith, lt) in
        let list : new ≡ take i now ++ (x ∷ drop (suc i) now) = at.list ∙ ap (λ k. take i now ++ (x ∷ drop k now)) (add-one i) in
        subst (λ k. Passes k old new) (sym (add-one i))
        (ap (λ n. take (suc i) n ++ filter_map (passed t f) (drop (suc i) n)) list
        ∙ ap (λ xs. xs ++ filter_map (passed t f) (drop (suc i) (take i now ++ (x ∷ drop (suc i) now)))) (take_next now i x (drop (suc i) now) le)
        ∙ ap (λ xs. (take i now ++ (x ∷ [])) ++ filter_map (passed t f) xs) (drop_next now i x (drop (suc i) now) le)
        ∙ append_assoc (take i now) (x ∷ []) (filter_map (passed t f) (drop (suc i) now))
        ∙ ap (λ xs. take i now ++ xs) (sym (passed_some e x (drop (suc i) now) is)) ∙ ap (λ xs. take i now ++ filter_map (passed t f) xs) (sym rest) ∙ before)
    passes_by e (Some x) false is rest at before = absurd (let stays = at.stays in cc)
    passes_by e None true is rest at before = absurd (let stays = at.stays in cc)
    passes_by e None false is rest at before =
        let le : i ≤ length now = omega (arith, lt) in
        let list : new ≡ take i now ++ drop (suc i) now = at.list ∙ ap (λ k. take i now ++ drop k now) (add-one i) in
        ap (λ n. take i n ++ filter_map (passed t f) (drop i n)) list
        ∙ ap (λ xs. xs ++ filter_map (passed t f) (drop i (take i now ++ drop (suc i) now))) (take_before now i (drop (suc i) now) le)
        ∙ ap (λ xs. take i now ++ filter_map (passed t f) xs) (drop_before now i (drop (suc i) now) le)
        ∙ ap (λ xs. take i now ++ xs) (sym (passed_none e (drop (suc i) now) is)) ∙ ap (λ xs. take i now ++ filter_map (passed t f) xs) (sym rest) ∙ before

    -- one entry more
    pub passes_more : (kept : Bool) → IfSome (slice_get now i) (λ e. IsPassedAt i (passed t f e) kept new now) → Passes i old now → Passes (if kept then i + 1 else i) old new
    passes_more kept at before =
        let found = place_is (λ e. IsPassedAt i (passed t f e) kept new now) now i lt at in
        passes_by found.0 (passed t f found.0) kept refl found.1 found.2 before
