-- The first entries of the active list in the order of (number, block), built up entry by entry.
use Rattle.std.proofs.Common.{◌≡◌, ◌∙◌, ◌+◌, ◌<◌, ◌≤◌, ◌∷◌, ◌++◌, Bool, List, [], add-one, ap, arith, drop, false, get_or, inl, inr, length, refl, subst, suc, sym, take, true, zero, ℕ}
use Rattle.std.proofs.Math.ListN.{drop_of_length-le, set}
use Rattle.std.proofs.Math.Seq.{drop-cons}
use Rattle.std.proofs.lemmas.List.{append-nil, length-take-le, take_all, take_more}
use Rattle.std.proofs.lemmas.List.Elements.{filter-append}
use Rattle.std.proofs.lemmas.Bool.{cases_Bool, cases_lt, le-leb, le-ltb, lt-leb, lt-ltb, ltb-false, or_parts}
use Rattle.std.proofs.lemmas.Bool.Decides.{nat_tests}
use Rattle.std.specs.Prelude.{filter, if◌then◌else◌, nat_lt, not, ◌==◌, ⊤}
use Rattle.xt_base.proofs.RisingLemmas.{filter_drop, filter_pass}
use Rattle.xt_base.specs.Jobs.{by_number, placed}
use Rattle.xt_base.specs.Sound.{Each}
use Rattle.xt_items.specs.Plans.{inserted, placed_last, rank, takes}

-- ---- one entry more
-- an entry is placed behind those of no higher number
placed_last_by : (b : Bool) (e x : ℕ × ℕ) (xs : List (ℕ × ℕ)) → inserted (rank e.1 xs) e xs ≡ placed_last e xs
    → inserted (if b then 0 else suc (rank e.1 xs)) e (x ∷ xs) ≡ (if b then e ∷ x ∷ xs else x ∷ placed_last e xs)
placed_last_by true e x xs h = refl
placed_last_by false e x xs h = ap (λ ys. x ∷ ys) h

pub placed_last_is : (e : ℕ × ℕ) (xs : List (ℕ × ℕ)) → inserted (rank e.1 xs) e xs ≡ placed_last e xs
placed_last_is e [] = refl
placed_last_is e (x ∷ xs) = placed_last_by (nat_lt e.1 x.1) e x xs (placed_last_is e xs)

-- what is cut has no more
few : (n : ℕ) (xs : List (ℕ × ℕ)) → length (take n xs) ≤ n
few zero xs = omega arith
few (suc n) [] = omega arith
few (suc n) (x ∷ xs) = omega (arith, few n xs)

-- what is cut twice
take_twice : (n : ℕ) (xs : List (ℕ × ℕ)) → take n (take (suc n) xs) ≡ take n xs
take_twice zero xs = refl
take_twice (suc n) [] = refl
take_twice (suc n) (x ∷ xs) = ap (λ ys. x ∷ ys) (take_twice n xs)

take_behind : (n : ℕ) (x : ℕ × ℕ) (xs : List (ℕ × ℕ)) → take n (x ∷ take n xs) ≡ take n (x ∷ xs)
take_behind zero x xs = refl
take_behind (suc n) x xs = ap (λ ys. x ∷ ys) (take_twice n xs)

-- of the first n with one entry more, only the first n before it matter
take_placed_by : (b : Bool) (n : ℕ) (e x : ℕ × ℕ) (xs : List (ℕ × ℕ)) → take n (placed_last e (take n xs)) ≡ take n (placed_last e xs)
    → take (suc n) (if b then e ∷ x ∷ take n xs else x ∷ placed_last e (take n xs)) ≡ take (suc n) (if b then e ∷ x ∷ xs else x ∷ placed_last e xs)
take_placed_by true n e x xs h = ap (λ ys. e ∷ ys) (take_behind n x xs)
take_placed_by false n e x xs h = ap (λ ys. x ∷ ys) h

take_placed : (n : ℕ) (e : ℕ × ℕ) (xs : List (ℕ × ℕ)) → take n (placed_last e (take n xs)) ≡ take n (placed_last e xs)
take_placed zero e xs = refl
take_placed (suc n) e [] = refl
take_placed (suc n) e (x ∷ xs) = take_placed_by (nat_lt e.1 x.1) n e x xs (take_placed n e xs)

-- ---- in an array
-- an entry put in place of another, which goes behind it
shifted : (i n : ℕ) (xs : List (ℕ × ℕ)) (e d : ℕ × ℕ) → i < n → n ≤ length xs → inserted (suc i) (get_or xs i d) (take n (set {A = ℕ × ℕ} xs i e)) ≡ inserted i e (take n xs)
shifted i n [] e d lt le = absurd (omega arith)
shifted i zero (y ∷ ys) e d lt le = absurd (omega arith)
shifted zero (suc n) (y ∷ ys) e d lt le = refl
shifted (suc i) (suc n) (y ∷ ys) e d lt le = ap (λ zs. y ∷ zs) (shifted i n ys e d (omega arith) (omega arith))

pub shifted_more : (i n : ℕ) (xs whole : List (ℕ × ℕ)) (e d : ℕ × ℕ) → i < n → n ≤ length xs → inserted i e (take n xs) ≡ whole → inserted (i + 1) (get_or xs i d) (take n (set {A = ℕ × ℕ} xs i e)) ≡ whole
shifted_more i n xs whole e d lt le before = ap (λ k. inserted k (get_or xs i d) (take n (set {A = ℕ × ℕ} xs i e))) (add-one i) ∙ shifted i n xs e d lt le ∙ before

-- the last one, where there is room
appended : (n : ℕ) (xs : List (ℕ × ℕ)) (e : ℕ × ℕ) → n < length xs → take (suc n) (set {A = ℕ × ℕ} xs n e) ≡ inserted n e (take n xs)
appended n [] e lt = absurd (omega arith)
appended zero (y ∷ ys) e lt = refl
appended (suc n) (y ∷ ys) e lt = ap (λ zs. y ∷ zs) (appended n ys e (omega arith))

-- how long the list is then
length_inserted : (n : ℕ) (xs : List (ℕ × ℕ)) (e : ℕ × ℕ) → length (inserted n e xs) ≡ suc (length xs)
length_inserted zero xs e = refl
length_inserted (suc n) [] e = refl
length_inserted (suc n) (x ∷ xs) e = ap suc (length_inserted n xs e)

pub room_left : (room n : ℕ) (xs whole : List (ℕ × ℕ)) (e : ℕ × ℕ) → n < room → n < length xs → inserted n e (take n xs) ≡ whole → take (n + 1) (set {A = ℕ × ℕ} xs n e) ≡ take room whole
room_left room n xs whole e lt fits before =
    let is : take (suc n) (set {A = ℕ × ℕ} xs n e) ≡ whole = appended n xs e fits ∙ before in
    let few : length whole ≤ room = omega (arith, ap length before, length_inserted n (take n xs) e, length-take-le n xs (omega arith)) in
    ap (λ k. take k (set {A = ℕ × ℕ} xs n e)) (add-one n) ∙ is ∙ sym (take_all room whole few)

-- the last one, where there is none
none_behind : (n : ℕ) (xs : List (ℕ × ℕ)) (e : ℕ × ℕ) → n ≤ length xs → take n (inserted n e (take n xs)) ≡ take n xs
none_behind zero xs e le = refl
none_behind (suc n) [] e le = absurd (omega arith)
none_behind (suc n) (x ∷ xs) e le = ap (λ zs. x ∷ zs) (none_behind n xs e (omega arith))

pub room_ends : (room n : ℕ) (xs whole : List (ℕ × ℕ)) (e : ℕ × ℕ) → n ≡ room → n ≤ length xs → inserted n e (take n xs) ≡ whole → take n xs ≡ take room whole
room_ends room n xs whole e same fits before = sym (none_behind n xs e fits) ∙ ap (take n) before ∙ ap (λ k. take k whole) same

-- ---- from the front
-- each way of placing an entry, before a first one and behind it
placed_before : (e x : ℕ × ℕ) (xs : List (ℕ × ℕ)) → e.1 ≤ x.1 → placed e (x ∷ xs) ≡ e ∷ x ∷ xs
placed_before e x xs le = ap (λ b. if b then e ∷ x ∷ xs else x ∷ placed e xs) (le-leb e.1 x.1 le)

placed_behind : (e x : ℕ × ℕ) (xs : List (ℕ × ℕ)) → x.1 < e.1 → placed e (x ∷ xs) ≡ x ∷ placed e xs
placed_behind e x xs lt = ap (λ b. if b then e ∷ x ∷ xs else x ∷ placed e xs) (lt-leb e.1 x.1 lt)

last_before : (e x : ℕ × ℕ) (xs : List (ℕ × ℕ)) → e.1 < x.1 → placed_last e (x ∷ xs) ≡ e ∷ x ∷ xs
last_before e x xs lt = ap (λ b. if b then e ∷ x ∷ xs else x ∷ placed_last e xs) (lt-ltb e.1 x.1 lt)

last_behind : (e x : ℕ × ℕ) (xs : List (ℕ × ℕ)) → x.1 ≤ e.1 → placed_last e (x ∷ xs) ≡ x ∷ placed_last e xs
last_behind e x xs le = ap (λ b. if b then e ∷ x ∷ xs else x ∷ placed_last e xs) (le-ltb e.1 x.1 le)

-- an entry put before and one put behind, in either order
module _ (x e y : ℕ × ℕ) (ys : List (ℕ × ℕ)) where
  between : e.1 < y.1 → x.1 ≤ y.1 → placed x (e ∷ y ∷ ys) ≡ placed_last e (x ∷ y ∷ ys)
  between behind before =
      elim (cases_lt e.1 x.1) [
        | inl lt ↦ placed_behind x e (y ∷ ys) lt ∙ ap (λ zs. e ∷ zs) (placed_before x y ys before) ∙ sym (last_before e x (y ∷ ys) lt)
        | inr le ↦ placed_before x e (y ∷ ys) le ∙ ap (λ zs. x ∷ zs) (sym (last_before e y ys behind)) ∙ sym (last_behind e x (y ∷ ys) le)
      ]

  either_order : placed x (placed_last e ys) ≡ placed_last e (placed x ys) → placed x (placed_last e (y ∷ ys)) ≡ placed_last e (placed x (y ∷ ys))
  either_order h =
      elim (cases_lt e.1 y.1) [
        | inl behind ↦
            elim (cases_lt y.1 x.1) [
              | inl lt ↦ ap (placed x) (last_before e y ys behind) ∙ placed_behind x e (y ∷ ys) (omega arith) ∙ ap (λ zs. e ∷ zs) (placed_behind x y ys lt)
                  ∙ sym (last_before e y (placed x ys) behind) ∙ ap (placed_last e) (sym (placed_behind x y ys lt))
              | inr le ↦ ap (placed x) (last_before e y ys behind) ∙ between behind le ∙ ap (placed_last e) (sym (placed_before x y ys le))
            ]
        | inr before ↦
            elim (cases_lt y.1 x.1) [
              | inl lt ↦ ap (placed x) (last_behind e y ys before) ∙ placed_behind x y (placed_last e ys) lt ∙ ap (λ zs. y ∷ zs) h
                  ∙ sym (last_behind e y (placed x ys) before) ∙ ap (placed_last e) (sym (placed_behind x y ys lt))
              | inr le ↦ ap (placed x) (last_behind e y ys before) ∙ placed_before x y (placed_last e ys) le ∙ ap (λ zs. x ∷ zs) (sym (last_behind e y ys before))
                  ∙ sym (last_behind e x (y ∷ ys) (omega arith)) ∙ ap (placed_last e) (sym (placed_before x y ys le))
            ]
      ]

placed_both : (x e : ℕ × ℕ) (ys : List (ℕ × ℕ)) → placed x (placed_last e ys) ≡ placed_last e (placed x ys)
placed_both x e [] =
    elim (cases_lt e.1 x.1) [
      | inl lt ↦ placed_behind x e [] lt ∙ sym (last_before e x [] lt)
      | inr le ↦ placed_before x e [] le ∙ sym (last_behind e x [] le)
    ]
placed_both x e (y ∷ ys) = either_order x e y ys (placed_both x e ys)

-- the last of entries by rising block is placed behind
by_number_last : (e : ℕ × ℕ) (xs : List (ℕ × ℕ)) → by_number (xs ++ e ∷ []) ≡ placed_last e (by_number xs)
by_number_last e [] = refl
by_number_last e (x ∷ xs) = ap (placed x) (by_number_last e xs) ∙ placed_both x e (by_number xs)

-- ---- no number is lower than one before it
abbrev IsOrdered : List (ℕ × ℕ) → Type 0
IsOrdered [] = ⊤
IsOrdered (x ∷ xs) = Each (λ y. x.1 ≤ y.1) xs × IsOrdered xs

each_no_lower : (m n : ℕ) (xs : List (ℕ × ℕ)) → m ≤ n → Each (λ y. n ≤ y.1) xs → Each (λ y. m ≤ y.1) xs
each_no_lower m n [] le all = tt
each_no_lower m n (x ∷ xs) le all = (omega (arith, all.0), each_no_lower m n xs le all.1)

each_placed : (n : ℕ) (e : ℕ × ℕ) (xs : List (ℕ × ℕ)) → n ≤ e.1 → Each (λ y. n ≤ y.1) xs → Each (λ y. n ≤ y.1) (placed e xs)
each_placed n e [] here all = (here, tt)
each_placed n e (x ∷ xs) here all =
    elim (cases_lt x.1 e.1) [
      | inl lt ↦ subst (Each (λ y. n ≤ y.1)) (sym (placed_behind e x xs lt)) (all.0, each_placed n e xs here all.1)
      | inr le ↦ subst (Each (λ y. n ≤ y.1)) (sym (placed_before e x xs le)) (here, all)
    ]

ordered_placed : (e : ℕ × ℕ) (xs : List (ℕ × ℕ)) → IsOrdered xs → IsOrdered (placed e xs)
ordered_placed e [] all = (tt, tt)
ordered_placed e (x ∷ xs) all =
    elim (cases_lt x.1 e.1) [
      | inl lt ↦ subst IsOrdered (sym (placed_behind e x xs lt)) (each_placed x.1 e xs (omega arith) all.0, ordered_placed e xs all.1)
      | inr le ↦ subst IsOrdered (sym (placed_before e x xs le)) ((le, each_no_lower e.1 x.1 xs le all.0), all)
    ]

ordered_by_number : (xs : List (ℕ × ℕ)) → IsOrdered (by_number xs)
ordered_by_number [] = tt
ordered_by_number (x ∷ xs) = ordered_placed x (by_number xs) (ordered_by_number xs)

each_front : (n k : ℕ) (xs : List (ℕ × ℕ)) → Each (λ y. k ≤ y.1) xs → Each (λ y. k ≤ y.1) (take n xs)
each_front zero k xs all = tt
each_front (suc n) k [] all = tt
each_front (suc n) k (x ∷ xs) all = (all.0, each_front n k xs all.1)

ordered_front : (n : ℕ) (xs : List (ℕ × ℕ)) → IsOrdered xs → IsOrdered (take n xs)
ordered_front zero xs all = tt
ordered_front (suc n) [] all = tt
ordered_front (suc n) (x ∷ xs) all = (each_front n x.1 xs all.0, ordered_front n xs all.1)

-- one whose number is no lower than the last one's comes behind all
each_at : (k n : ℕ) (d : ℕ × ℕ) (xs : List (ℕ × ℕ)) → Each (λ y. k ≤ y.1) xs → n < length xs → k ≤ (get_or xs n d).1
each_at k n d [] all lt = absurd (omega arith)
each_at k zero d (x ∷ xs) all lt = all.0
each_at k (suc n) d (x ∷ xs) all lt = each_at k n d xs all.1 (omega arith)

behind_all : (n : ℕ) (e d : ℕ × ℕ) (xs : List (ℕ × ℕ)) → IsOrdered xs → length xs ≡ suc n → (get_or xs n d).1 ≤ e.1 → take (suc n) (placed_last e xs) ≡ xs
behind_all n e d [] all len le = absurd (omega arith)
behind_all zero e d (x ∷ []) all len le = ap (take 1) (last_behind e x [] le)
behind_all zero e d (x ∷ y ∷ ys) all len le = absurd (omega arith)
behind_all (suc n) e d (x ∷ xs) all len le =
    let first : x.1 ≤ e.1 = omega (arith, each_at x.1 n d xs all.0 (omega arith)) in
    ap (take (suc (suc n))) (last_behind e x xs first) ∙ ap (λ ys. x ∷ ys) (behind_all n e d xs all.1 (omega arith) le)

-- ---- over the active list
module _ (n : ℕ) (p : ℕ × ℕ → Bool) (xs : List (ℕ × ℕ)) (d : ℕ × ℕ) (lt : n < length xs) where
  -- with one entry that passes
  pub passed_more : (room : ℕ) (old new : List (ℕ × ℕ)) → p (get_or xs n d) ≡ true
      → old ≡ take room (by_number (filter p (take n xs))) → new ≡ take room (placed_last (get_or xs n d) old) → new ≡ take room (by_number (filter p (take (n + 1) xs)))
  passed_more room old new passes before now =
      let e : ℕ × ℕ = get_or xs n d in
      let front : List (ℕ × ℕ) = filter p (take n xs) in
      let more : filter p (take (n + 1) xs) ≡ front ++ e ∷ [] = ap (filter p) (take_more xs n d lt) ∙ filter-append p (take n xs) (e ∷ []) ∙ ap (λ ys. front ++ ys) (filter_pass p e [] passes) in
      now ∙ ap (λ ys. take room (placed_last e ys)) before ∙ take_placed room e (by_number front)
      ∙ ap (take room) (sym (by_number_last e front)) ∙ ap (λ ys. take room (by_number ys)) (sym more)

  -- with one that does not
  pub passed_by : (room : ℕ) (old : List (ℕ × ℕ)) → p (get_or xs n d) ≡ false
      → old ≡ take room (by_number (filter p (take n xs))) → old ≡ take room (by_number (filter p (take (n + 1) xs)))
  passed_by room old fails before =
      let e : ℕ × ℕ = get_or xs n d in
      let front : List (ℕ × ℕ) = filter p (take n xs) in
      let same : filter p (take (n + 1) xs) ≡ front =
      ap (filter p) (take_more xs n d lt) ∙ filter-append p (take n xs) (e ∷ []) ∙ ap (λ ys. front ++ ys) (filter_drop p e [] fails) ∙ append-nil front in
      before ∙ ap (λ ys. take room (by_number ys)) (sym same)

  -- with one that would come ninth, whether it passes or not
  pub not_taken : (old : List (ℕ × ℕ)) → takes (get_or xs n d).1 old ≡ false
      → old ≡ take 8 (by_number (filter p (take n xs))) → old ≡ take 8 (by_number (filter p (take (n + 1) xs)))
  not_taken old late before =
      let e : ℕ × ℕ = get_or xs n d in
      let whole : List (ℕ × ℕ) = by_number (filter p (take n xs)) in
      let off = or_parts (nat_lt (length old) 8) (nat_lt e.1 (get_or old 7 (0, 0)).1) late in
      let ordered : IsOrdered old = subst IsOrdered (sym before) (ordered_front 8 whole (ordered_by_number (filter p (take n xs)))) in
      let eight : length old ≡ 8 = omega (arith, ltb-false (length old) 8 off.0, ap length before, few 8 whole) in
      let stays : take 8 (placed_last e old) ≡ old = behind_all 7 e (0, 0) old ordered eight (ltb-false e.1 (get_or old 7 (0, 0)).1 off.1) in
      elim (cases_Bool (p e)) [
        | inl passes ↦ passed_more 8 old old passes before (sym stays)
        | inr fails ↦ passed_by 8 old fails before
      ]

-- ---- whether there is a block to write
-- past one that does not pass
pub none_yet : (n : ℕ) (p : ℕ × ℕ → Bool) (xs whole : List (ℕ × ℕ)) (d : ℕ × ℕ) → n < length xs → p (get_or xs n d) ≡ false → whole ≡ filter p (drop n xs) → whole ≡ filter p (drop (n + 1) xs)
none_yet n p xs whole d lt fails before =
    before ∙ ap (filter p) (drop-cons xs n d lt) ∙ filter_drop p (get_or xs n d) (drop (suc n) xs) fails ∙ ap (λ k. filter p (drop k xs)) (sym (add-one n))

some_due : (x : ℕ × ℕ) (xs : List (ℕ × ℕ)) → true ≡ not (length (x ∷ xs) == 0)
some_due x xs = grind (arith, nat_tests)

-- at one that passes
pub one_due : (n : ℕ) (p : ℕ × ℕ → Bool) (xs whole : List (ℕ × ℕ)) (d : ℕ × ℕ) → n < length xs → p (get_or xs n d) ≡ true → whole ≡ filter p (drop n xs) → true ≡ not (length whole == 0)
one_due n p xs whole d lt passes before =
    let rest : List (ℕ × ℕ) = drop (suc n) xs in
    some_due (get_or xs n d) (filter p rest)
    ∙ ap (λ (ys : List (ℕ × ℕ)). not (length ys == 0)) (sym (before ∙ ap (filter p) (drop-cons xs n d lt) ∙ filter_pass p (get_or xs n d) rest passes))

-- at the end
pub none_due : (n : ℕ) (p : ℕ × ℕ → Bool) (xs whole : List (ℕ × ℕ)) → length xs ≤ n → whole ≡ filter p (drop n xs) → false ≡ not (length whole == 0)
none_due n p xs whole le before = ap (λ (ys : List (ℕ × ℕ)). not (length ys == 0)) (sym (before ∙ ap (filter p) (drop_of_length-le xs le)))
