-- A block that has no entry, by the entries between which it would stand.
use Rattle.std.proofs.Common.{◌≡◌, ◌∙◌, ◌<◌, ◌≤◌, ◌-◌, ◌∷◌, List, None, [], ap, arith, false, length, refl, subst, suc, true, zero, ℕ}
use Rattle.std.proofs.lemmas.Bool.Decides.{nat_tests}
use Rattle.std.specs.Prelude.{is_some, nat_lt, slice_index_or}
use Rattle.xt_base.proofs.MapLemmas.{at_later}
use Rattle.xt_base.proofs.RisingLemmas.{none_below}
use Rattle.xt_base.specs.Maps.{at, is_in}
use Rattle.xt_base.specs.Sound.{IsRising, RisesFrom}

abbrev Entries : Type 0
Entries = List (ℕ × ℕ)

less : (a b : ℕ) → nat_lt a b ≡ true → a < b
less a b h = grind (arith, nat_tests)

-- a key at a place is no lower than the first bound
above : (n : ℕ) (m : Entries) (p : ℕ) → RisesFrom n m → p < length m → n ≤ (slice_index_or m p (0, 0)).0
above n [] p r lt = absurd (omega arith)
above n (e ∷ es) zero r lt = r.0
above n (e ∷ es) (suc p) r lt = omega (arith, r.0, above (suc e.0) es p r.1 (omega arith))

-- it would stand before the first entry
first : (n k : ℕ) (m : Entries) → RisesFrom n m → 0 < length m → k < (slice_index_or m 0 (0, 0)).0 → at k m ≡ None
first n k [] r lt high = absurd (omega arith)
first n k (e ∷ es) r lt high = none_below k (suc k) (e ∷ es) (omega arith) (omega (arith, high), r.1)

-- it would stand between two entries
between : (n k : ℕ) (m : Entries) (p : ℕ) → RisesFrom n m → suc p < length m → (slice_index_or m p (0, 0)).0 < k → k < (slice_index_or m (suc p) (0, 0)).0 → at k m ≡ None
between n k [] p r lt low high = absurd (omega arith)
between n k (e ∷ es) zero r lt low high = at_later k e es (λ s. omega (arith, s, low)) ∙ first (suc e.0) k es r.1 (omega arith) high
between n k (e ∷ es) (suc p) r lt low high =
    let le : suc e.0 ≤ (slice_index_or es p (0, 0)).0 = above (suc e.0) es p r.1 (omega arith) in
    at_later k e es (λ s. omega (arith, s, low, le)) ∙ between (suc e.0) k es p r.1 (omega arith) low high

pub none_before : (k : ℕ) (m : Entries) (p : ℕ) → IsRising m → p < length m → k < (slice_index_or m p (0, 0)).0 → p ≡ 0 → is_in k m ≡ false
none_before k m zero rises lt high none = ap is_some (first 0 k m rises lt high)
none_before k m (suc p) rises lt high none = absurd (omega (arith, none))

pub none_between : (k : ℕ) (m : Entries) (p : ℕ) → IsRising m → p < length m → k < (slice_index_or m p (0, 0)).0 → (p ≡ 0 → ⊥) → nat_lt (slice_index_or m (p - 1) (0, 0)).0 k ≡ true → is_in k m ≡ false
none_between k m zero rises lt high more low = absurd (more refl)
none_between k m (suc p) rises lt high more low =
    let one_less : suc p - 1 ≡ p = omega arith in
    ap is_some (between 0 k m p rises lt (less (slice_index_or m p (0, 0)).0 k (subst (λ q. nat_lt (slice_index_or m q (0, 0)).0 k ≡ true) one_less low)) high)
