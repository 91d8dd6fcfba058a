-- Bits of a number of marks: tests, and bits that are set and cleared.
use Rattle.std.proofs.Common.{◌≡◌, ◌∙◌, ◌*◌, ◌-◌, ◌<◌, ◌^◌, ap, arith, refl, suc, zero, ℕ}
use Rattle.std.proofs.lemmas.Bool.Decides.{nat_tests}
use Rattle.std.proofs.lemmas.Nat.{pow_pos}
use Rattle.std.proofs.lemmas.Nat.Bits.{and_pow, bit_at-lt, bit_at_and, bit_at_not, bit_at_or}
use Rattle.std.specs.Int.{bit_at, w8}
use Rattle.std.specs.Prelude.{bit_and, bit_or, max, min, not, ◌&&◌, ◌==◌, ◌||◌}
use Rattle.bitflags.specs.Sets.{without}
use Rattle.xt_base.specs.Marks.{and_marks, but_marks, marks_in}

times_test : (b p : ℕ) → b < 2 → 0 < p → (b * p == p) ≡ (b == 1)
times_test zero p h pos = grind (arith, nat_tests)
times_test (suc zero) p h pos = grind (arith, nat_tests)
times_test (suc (suc b)) p h pos = absurd (omega (arith, h))

-- a number has all of a mark's bits exactly if it has its one bit
pub test_is : (n k : ℕ) → (bit_and n (2 ^ k) == 2 ^ k) ≡ (bit_at n k == 1)
test_is n k = ap (λ x. x == 2 ^ k) (and_pow n k) ∙ times_test (bit_at n k) (2 ^ k) (bit_at-lt n k) (pow_pos k)

max_test : (a b : ℕ) → a < 2 → b < 2 → (max a b == 1) ≡ ((b == 1) || (a == 1))
max_test zero zero ha hb = refl
max_test zero (suc zero) ha hb = refl
max_test (suc zero) zero ha hb = refl
max_test (suc zero) (suc zero) ha hb = refl
max_test (suc (suc a)) b ha hb = absurd (omega (arith, ha))
max_test zero (suc (suc b)) ha hb = absurd (omega (arith, hb))
max_test (suc zero) (suc (suc b)) ha hb = absurd (omega (arith, hb))

set_bit : (a b k : ℕ) → (bit_at (bit_or a b) k == 1) ≡ ((bit_at b k == 1) || (bit_at a k == 1))
set_bit a b k = ap (λ x. x == 1) (bit_at_or a b k) ∙ max_test (bit_at a k) (bit_at b k) (bit_at-lt a k) (bit_at-lt b k)

-- the marks of two numbers' bits together
pub marks_or : (a b : ℕ) → marks_in (bit_or a b) ≡ and_marks (marks_in b) (marks_in a)
marks_or a b = λ i. record { hold = set_bit a b 0 i; stale = set_bit a b 1 i; dirty = set_bit a b 2 i; fresh = set_bit a b 3 i }

min_test : (a b : ℕ) → a < 2 → b < 2 → (min a (1 - b) == 1) ≡ (not (b == 1) && (a == 1))
min_test zero zero ha hb = refl
min_test zero (suc zero) ha hb = refl
min_test (suc zero) zero ha hb = refl
min_test (suc zero) (suc zero) ha hb = refl
min_test (suc (suc a)) b ha hb = absurd (omega (arith, ha))
min_test zero (suc (suc b)) ha hb = absurd (omega (arith, hb))
min_test (suc zero) (suc (suc b)) ha hb = absurd (omega (arith, hb))

left_bit : (a b k : ℕ) → b < 2 ^ 8 → k < 8 → (bit_at (without 8 a b) k == 1) ≡ (not (bit_at b k == 1) && (bit_at a k == 1))
left_bit a b k h within =
    ap (λ x. x == 1) (bit_at_and a (2 ^ 8 - 1 - b) k ∙ ap (min (bit_at a k)) (bit_at_not w8 b k h within)) ∙ min_test (bit_at a k) (bit_at b k) (bit_at-lt a k) (bit_at-lt b k)

-- the marks of a number's bits without another's
pub marks_without : (a b : ℕ) → b < 2 ^ 8 → marks_in (without 8 a b) ≡ but_marks (marks_in b) (marks_in a)
marks_without a b h = λ i. record {
  hold = left_bit a b 0 h (omega arith) i;
  stale = left_bit a b 1 h (omega arith) i;
  dirty = left_bit a b 2 h (omega arith) i;
  fresh = left_bit a b 3 h (omega arith) i;
}
