-- Sectors that are in doubt, and a content of another length.
use Rattle.std.proofs.Common.{Bool, List, [], ap, arith, cond, false, get_or, refl, subst, sym, take, true, ℕ, ◌+◌, ◌++◌, ◌<◌, ◌≤◌, ◌∷◌, ◌≡◌, ◌∙◌}
use Rattle.std.proofs.lemmas.Bool.{cases_lt, eqb-true}
use Rattle.std.proofs.lemmas.Cmp.{nat_eq_equiv}
use Rattle.std.proofs.lemmas.List.Folds.{list_any-append, list_any_more}
use Rattle.std.proofs.lemmas.Map.Keys.{IsDistinct-cons, IsDistinct-head, IsDistinct-push, IsDistinct-tail}
use Rattle.xt_dev.specs.Devices.{as_asked}
use Rattle.xt_dev.specs.Doubting.{HasAmong, is_among}
use Rattle.std.specs.List.{AllByRecursion, IsDistinct, list_any}
use Rattle.std.specs.Prelude.{filter, if◌then◌else◌, length, nat_eq, ◌==◌, ◌||◌}
use Rattle.xt_base.specs.Text.{zeros}
use mathlib.Core.Logic.{⊎_elim}

-- one sector more is not in doubt
pub none_more : (xs : List ℕ) (first k : ℕ) → ((j : ℕ) → j < k → is_among xs (first + j) ≡ false) → is_among xs (first + k) ≡ false → (j : ℕ) → j < k + 1 → is_among xs (first + j) ≡ false
none_more xs first k before this j low = ⊎_elim
    (λ less. before j less)
    (λ high. let at : j ≡ k = omega (arith, low, high) in subst (λ m. is_among xs (first + m) ≡ false) (sym at) this)
    (cases_lt j k)

-- where none is in doubt, none is among them
pub none_among : (xs : List ℕ) (first count k : ℕ) → count ≤ k → ((j : ℕ) → j < k → is_among xs (first + j) ≡ false) → HasAmong xs first count → false ≡ true
none_among xs first count k all before one = sym (before one.0 (omega (arith, one.1, all))) ∙ one.2

-- ---- sectors joined to those in doubt
turned : (xs : List ℕ) (s : ℕ) → list_any (nat_eq s) xs ≡ is_among xs s
turned [] s = refl
turned (x ∷ xs) s = ap (λ b. b || list_any (nat_eq s) xs) (nat_eq_equiv.symm s x) ∙ ap (λ b. (x == s) || b) (turned xs s)

-- where there is none, none is noted twice
pub none_twice : IsDistinct nat_eq []
unfolding IsDistinct
none_twice = tt

-- a sector that is not among them goes behind them
pub one_more : (xs : List ℕ) (s : ℕ) → IsDistinct nat_eq xs → is_among xs s ≡ false → IsDistinct nat_eq (xs ++ s ∷ [])
one_more xs s once absent = IsDistinct-push nat_eq_equiv xs s once (turned xs s ∙ absent)

grouped : (a b y : Bool) → ((a || b) || (y || false)) ≡ (a || (b || y))
grouped true b y = refl
grouped false true y = refl
grouped false false true = refl
grouped false false false = refl

settled : (p a b y : Bool) → p ≡ (a || b) → (y ≡ true → p ≡ true) → p ≡ (a || (b || y))
settled p true b y h there = h
settled p false true y h there = h
settled p false false true h there = there refl
settled p false false false h there = h

-- with the next sector behind them they are as many more
pub joined_more : (d e s : List ℕ) (i q : ℕ) → i < length s → is_among d q ≡ (is_among e q || is_among (take i s) q) → is_among (d ++ get_or s i 0 ∷ []) q ≡ (is_among e q || is_among (take (i + 1) s) q)
joined_more d e s i q low before =
    list_any-append (λ c. c == q) d (get_or s i 0 ∷ [])
    ∙ ap (λ p. p || ((get_or s i 0 == q) || false)) before
    ∙ grouped (is_among e q) (is_among (take i s) q) (get_or s i 0 == q)
    ∙ sym (ap (λ b. is_among e q || b) (list_any_more (λ c. c == q) s i 0 low))

-- where the next sector is among them they are the same
pub joined_already : (d e s : List ℕ) (i q : ℕ) → i < length s → is_among d (get_or s i 0) ≡ true → is_among d q ≡ (is_among e q || is_among (take i s) q) → is_among d q ≡ (is_among e q || is_among (take (i + 1) s) q)
joined_already d e s i q low there before =
    settled (is_among d q) (is_among e q) (is_among (take i s) q) (get_or s i 0 == q) before (λ same. subst (λ r. is_among d r ≡ true) (eqb-true (get_or s i 0) q same) there)
    ∙ sym (ap (λ b. is_among e q || b) (list_any_more (λ c. c == q) s i 0 low))

-- ---- sectors that are in doubt no more
apart_kept : (p : ℕ → Bool) (x : ℕ) (xs : List ℕ) → AllByRecursion (λ y. nat_eq x y ≡ false) xs → AllByRecursion (λ y. nat_eq x y ≡ false) (filter p xs)
apart_kept p x [] apart = apart
apart_kept p x (y ∷ ys) apart = elim (p y) as (λ b. AllByRecursion (λ z. nat_eq x z ≡ false) (cond b (y ∷ filter p ys) (filter p ys))) [
  | true ↦ (apart.0, apart_kept p x ys apart.1)
  | false ↦ apart_kept p x ys apart.1
]

-- those that a filter keeps are noted once
pub once_kept : (p : ℕ → Bool) (xs : List ℕ) → IsDistinct nat_eq xs → IsDistinct nat_eq (filter p xs)
once_kept p [] once = once
once_kept p (x ∷ xs) once = elim (p x) as (λ b. IsDistinct nat_eq (cond b (x ∷ filter p xs) (filter p xs))) [
  | true ↦ IsDistinct-cons nat_eq x (filter p xs) (apart_kept p x xs (IsDistinct-head nat_eq x xs once)) (once_kept p xs (IsDistinct-tail nat_eq x xs once))
  | false ↦ once_kept p xs (IsDistinct-tail nat_eq x xs once)
]

-- zeros are read as zeros
pub zeros_asked : (size : ℕ) → as_asked size (zeros size) ≡ zeros size
zeros_asked size = elim (length (zeros size) == size) as (λ b. (if b then zeros size else zeros size) ≡ zeros size) [ true ↦ refl | false ↦ refl ]
