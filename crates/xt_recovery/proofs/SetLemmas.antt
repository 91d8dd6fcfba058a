-- Sets of chunks are those of words.
use Rattle.std.proofs.Common.{◌≡◌, ◌∙◌, ◌*◌, ◌+◌, ◌^◌, ◌%◌, ◌≤◌, ◌<◌, Bool, [], ap, arith, false, inl, inr, refl, subst, suc, sym, true, zero, ℕ}
use Rattle.std.proofs.lemmas.Bool.{cases_Bool, cases_eq}
use Rattle.std.proofs.lemmas.Bool.Decides.{nat_tests}
use Rattle.std.proofs.lemmas.Nat.{or_lt}
use Rattle.std.proofs.Math.Nat.{mod-lt}
use Rattle.std.specs.Int.{bit_at}
use Rattle.std.specs.Int.Bits.{bit_or}
use Rattle.std.specs.Prelude.{nat_lt, ◌&&◌, ◌==◌}
use Rattle.xt_base.proofs.ChunkLemmas.{HasBelow, alike, has_none, has_set, places_of-zero}
use Rattle.xt_base.specs.Chunks.{chunks_where}
use Rattle.xt_recovery.proofs.Formed.{IsChunkSet}

-- a number that is not tested adds none
skip : (i k : ℕ) (p : ℕ → Bool) → p k ≡ false → (nat_lt i k && p i) ≡ (nat_lt i (k + 1) && p i)
skip i k p off =
    elim (cases_eq i k) [
      | inl same ↦ ap (λ x. nat_lt x k && p x) same ∙ both_off (nat_lt k k) (nat_lt k (k + 1)) (p k) off ∙ sym (ap (λ x. nat_lt x (k + 1) && p x) same)
      | inr other ↦ ap (λ t. t && p i) (grind (arith, nat_tests))
    ]
  where
    both_off : (x y z : Bool) → z ≡ false → (x && z) ≡ (y && z)
    both_off true true z h = refl
    both_off false false z h = refl
    both_off true false z h = h
    both_off false true z h = sym h

power_small : (k : ℕ) → 1 * 2 ^ k % 2 ^ 32 < 2 ^ 32
power_small k = mod-lt (1 * 2 ^ k) (omega arith)

next : (p : ℕ → Bool) (bits k : ℕ) → HasBelow p bits (k + 1) → HasBelow p bits (suc k)
next p bits k h = subst (HasBelow p bits) (omega arith) h

-- a word whose bits below k are those that pass a test
word_for : (p : ℕ → Bool) (k : ℕ) → k ≤ 32 → (bits : ℕ) × (bits < 2 ^ 32) × HasBelow p bits k
word_for p zero h = (0, omega arith, has_none p 0 (λ i less. absurd (omega (arith, less))))
word_for p (suc k) h =
    let before = word_for p k (omega (arith, h)) in
    elim (cases_Bool (p k)) [
      | inl on ↦ (bit_or before.0 (1 * 2 ^ k % 2 ^ 32), or_lt 32 before.0 (1 * 2 ^ k % 2 ^ 32) before.1 (power_small k), next p (bit_or before.0 (1 * 2 ^ k % 2 ^ 32)) k (has_set p before.0 k (omega (arith, h)) on before.2))
      | inr off ↦ let has = before.2 in (before.0, before.1, next p before.0 k (record { tests = λ i. has.tests i ∙ skip i k p off }))
    ]

-- chunks that pass a test are a set
pub set_where : (p : ℕ → Bool) → IsChunkSet (chunks_where p)
set_where p =
    let word = word_for p 32 (omega arith) in
    let has = word.2 in
    let same : (i : ℕ) → i < 32 → p i ≡ (bit_at word.0 i == 1) = λ i less.
    let below : nat_lt i 32 ≡ true = grind (arith, nat_tests, less) in
    sym (has.tests i ∙ ap (λ t. t && p i) below) in
    (word.0, word.1, alike p (λ i. bit_at word.0 i == 1) same)

pub set_none : IsChunkSet []
set_none = (0, omega arith, sym places_of-zero)
