-- How many chunks a union of two sets has.
use Rattle.std.proofs.Common.{◌≡◌, ◌∙◌, ◌⊎◌, ◌+◌, ◌<◌, ◌≤◌, ◌∷◌, ◌++◌, Bool, List, [], ap, arith, cond, false, inl, inr, length, refl, subst, suc, sym, true, zero, ℕ}
use Rattle.std.proofs.lemmas.Bool.{cases_Bool, cases_eq, eq-eqb, eqb-true, or_cases, or_right}
use Rattle.std.proofs.lemmas.Bool.Decides.{nat_tests}
use Rattle.std.proofs.lemmas.Map.Made.{is_member-filter}
use Rattle.std.specs.Cmp.{nat_eq_equiv}
use Rattle.std.proofs.lemmas.List.Sums.{length-filter, sum_by-append, sum_by-cons}
use Rattle.std.specs.Prelude.{count_by, nat_lt, not, ◌&&◌, ◌==◌, ◌||◌}
use Rattle.xt_base.specs.Chunks.{below, chunks_where, union}
use Rattle.xt_base.specs.Maps.{has}
use Rattle.xt_base.specs.Sound.{Each}

-- one of three tests holds only where one of the others does
weigh_either : (p q r : Bool) → (p ≡ true → (q ≡ true) ⊎ (r ≡ true)) → cond p 1 0 ≤ cond q 1 0 + cond r 1 0
weigh_either false q r h = omega arith
weigh_either true true r h = omega arith
weigh_either true false true h = omega arith
weigh_either true false false h = elim (h refl) [ inl a ↦ absurd (cc) | inr a ↦ absurd (cc) ]

-- a test that holds only where one of two others does counts no more than both
pub count_by_either : (p q r : ℕ → Bool) (xs : List ℕ) → ((k : ℕ) → p k ≡ true → (q k ≡ true) ⊎ (r k ≡ true)) → count_by p xs ≤ count_by q xs + count_by r xs
count_by_either p q r [] h = omega arith
count_by_either p q r (x ∷ xs) h =
    omega (
      arith,
      count_by_either p q r xs h,
      weigh_either (p x) (q x) (r x) (h x),
      sum_by-cons (λ k. cond (p k) 1 0) x xs,
      sum_by-cons (λ k. cond (q k) 1 0) x xs,
      sum_by-cons (λ k. cond (r k) 1 0) x xs,
    )

weigh_split : (p q : Bool) → cond (p || q) 1 0 ≡ cond p 1 0 + cond (q && not p) 1 0
weigh_split false false = omega arith
weigh_split false true = omega arith
weigh_split true false = omega arith
weigh_split true true = omega arith

-- the elements of either test: those of the first, and those of the second alone
pub count_by_split : (p q : ℕ → Bool) (xs : List ℕ) → count_by (λ k. p k || q k) xs ≡ count_by p xs + count_by (λ k. q k && not (p k)) xs
count_by_split p q [] = omega arith
count_by_split p q (x ∷ xs) =
    omega (
      arith,
      count_by_split p q xs,
      weigh_split (p x) (q x),
      sum_by-cons (λ k. cond (p k || q k) 1 0) x xs,
      sum_by-cons (λ k. cond (p k) 1 0) x xs,
      sum_by-cons (λ k. cond (q k && not (p k)) 1 0) x xs,
    )

-- tests that agree on each element count alike
pub count_by_same : (p q : ℕ → Bool) (xs : List ℕ) → Each (λ k. p k ≡ q k) xs → count_by p xs ≡ count_by q xs
count_by_same p q [] all = refl
count_by_same p q (x ∷ xs) all =
    omega (arith, count_by_same p q xs all.1, ap {B = ℕ} (λ b. cond b 1 0) all.0, sum_by-cons (λ k. cond (p k) 1 0) x xs, sum_by-cons (λ k. cond (q k) 1 0) x xs)

count_below_more : (p : ℕ → Bool) (n : ℕ) → count_by p (below (suc n)) ≡ count_by p (below n) + cond (p n) 1 0
count_below_more p n = omega (arith, sum_by-append (λ k. cond (p k) 1 0) (below n) (n ∷ []))

step_equal : (x n : ℕ) → cond (nat_lt x n) 1 0 + cond (n == x) 1 0 ≡ cond (nat_lt x (suc n)) 1 0
step_equal x n = grind (arith, nat_tests)

count_equal : (x n : ℕ) → count_by (λ k. k == x) (below n) ≡ cond (nat_lt x n) 1 0
count_equal x zero = grind (arith, nat_tests)
count_equal x (suc n) = omega (arith, count_below_more (λ k. k == x) n, count_equal x n, step_equal x n)

count_equal_le : (x n : ℕ) → count_by (λ k. k == x) (below n) ≤ 1
count_equal_le x n = elim (cases_Bool (nat_lt x n)) [
  | inl lt ↦ omega (arith, count_equal x n, ap {B = ℕ} (λ b. cond b 1 0) lt)
  | inr ge ↦ omega (arith, count_equal x n, ap {B = ℕ} (λ b. cond b 1 0) ge)
]

none_counted : (xs : List ℕ) → count_by (λ k. false) xs ≡ 0
none_counted [] = refl
none_counted (x ∷ xs) = omega (arith, none_counted xs, sum_by-cons (λ (k : ℕ). cond false 1 0) x xs)

-- a list has at most as many numbers below n as it has elements
pub count_has-le : (xs : List ℕ) (n : ℕ) → count_by (has xs) (below n) ≤ length xs
count_has-le [] n = omega (arith, none_counted (below n))
count_has-le (x ∷ xs) n =
    omega (arith, count_by_either (has (x ∷ xs)) (λ k. k == x) (has xs) (below n) (λ k h. or_cases (k == x) (has xs k) h), count_equal_le x n, count_has-le xs n)

length-chunks_where : (p : ℕ → Bool) → length (chunks_where p) ≡ count_by p (below 32)
unfolding chunks_where
length-chunks_where p = length-filter p (below 32)

-- a union with a set counts no more than with one that covers it
pub length-union_within : (a b c : List ℕ) → ((k : ℕ) → has b k ≡ true → has c k ≡ true) → length (union a b) ≤ length a + length c
length-union_within a b c within =
    let either : (k : ℕ) → (has a k || has b k) ≡ true → (has a k ≡ true) ⊎ (has c k ≡ true) =
    λ k h. elim (or_cases (has a k) (has b k) h) [ inl first ↦ inl first | inr second ↦ inr (within k second) ] in
    omega (arith, length-chunks_where (λ k. has a k || has b k), count_by_either (λ k. has a k || has b k) (has a) (has c) (below 32) either, count_has-le a 32, count_has-le c 32)

-- the chunks of a set that another lacks
abbrev pub newly : List ℕ → List ℕ → List ℕ
newly old more = chunks_where (λ k. has more k && not (has old k))

each_append : (P : ℕ → Type 0) (xs : List ℕ) (y : ℕ) → Each P xs → P y → Each P (xs ++ y ∷ [])
each_append P [] y all h = (h, tt)
each_append P (x ∷ xs) y all h = (all.0, each_append P xs y all.1 h)

-- what holds of each number below n holds of each in their list
pub each_below : (P : ℕ → Type 0) (n : ℕ) → ((k : ℕ) → k < n → P k) → Each P (below n)
each_below P zero h = tt
each_below P (suc n) h = each_append P (below n) n (each_below P n (λ k lt. h k (omega (arith, lt)))) (h n (omega arith))

has_append : (xs : List ℕ) (y k : ℕ) → has xs k ≡ true → has (xs ++ y ∷ []) k ≡ true
has_append [] y k h = absurd (cc)
has_append (x ∷ xs) y k h =
    elim (or_cases (k == x) (has xs k) h) [
      | inl first ↦ ap (λ b. b || has (xs ++ y ∷ []) k) first
      | inr later ↦ or_right (k == x) (has (xs ++ y ∷ []) k) (has_append xs y k later)
    ]

has_last : (xs : List ℕ) (k : ℕ) → has (xs ++ k ∷ []) k ≡ true
has_last [] k = ap (λ b. b || false) (eq-eqb k k refl)
has_last (x ∷ xs) k = or_right (k == x) (has (xs ++ k ∷ []) k) (has_last xs k)

has_below : (k n : ℕ) → k < n → has (below n) k ≡ true
has_below k zero lt = absurd (omega (arith, lt))
has_below k (suc n) lt =
    elim (cases_eq k n) [
      | inl same ↦ subst (λ (x : ℕ). has (below n ++ n ∷ []) x ≡ true) (sym same) (has_last (below n) n)
      | inr other ↦ has_append (below n) n k (has_below k n (omega (arith, lt, other)))
    ]

-- the set of the chunks that a test holds of has a chunk exactly if the test holds of it
pub has-chunks_where : (p : ℕ → Bool) (k : ℕ) → k < 32 → has (chunks_where p) k ≡ p k
unfolding chunks_where
has-chunks_where p k lt =
    is_member-filter nat_eq_equiv p k (λ x same. ap p (eqb-true k x same)) (below 32) ∙ ap (λ b. b && p k) (has_below k 32 lt)

-- the chunks of a union: those of the first, and those that it lacks
pub length-union_newly : (p : ℕ → Bool) (more : List ℕ) → length (union (chunks_where p) more) ≡ length (chunks_where p) + length (newly (chunks_where p) more)
length-union_newly p more =
    let old : List ℕ = chunks_where p in
    omega (
      arith,
      length-chunks_where (λ k. has old k || has more k),
      length-chunks_where p,
      length-chunks_where (λ k. has more k && not (has old k)),
      count_by_split (has old) (has more) (below 32),
      count_by_same (has old) p (below 32) (each_below (λ k. has old k ≡ p k) 32 (has-chunks_where p)),
    )

has-chunks : (p : ℕ → Bool) (k : ℕ) → has (chunks_where p) k ≡ (has (below 32) k && p k)
unfolding chunks_where
has-chunks p k = is_member-filter nat_eq_equiv p k (λ x same. ap p (eqb-true k x same)) (below 32)

and_either : (n a b c : Bool) → (a ≡ true → b ≡ true) → (n && (a || c)) ≡ true → (n && (b || c)) ≡ true
and_either false a b c h both = both
and_either true true b c h both = ap (λ x. x || c) (h refl)
and_either true false false c h both = both
and_either true false true c h both = refl

-- a larger set has a larger union
pub has-union_within : (a b c : List ℕ) → ((k : ℕ) → has a k ≡ true → has b k ≡ true) → (k : ℕ) → has (union a c) k ≡ true → has (union b c) k ≡ true
has-union_within a b c within k h =
    has-chunks (λ q. has b q || has c q) k ∙ and_either (has (below 32) k) (has a k) (has b k) (has c k) (within k) (sym (has-chunks (λ q. has a q || has c q) k) ∙ h)
