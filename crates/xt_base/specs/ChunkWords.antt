-- A word of bits and the set of chunks that it stands for say the same.
use Rattle.std.proofs.Common.{◌≡◌, ◌∙◌, ℕ, zero, suc, ◌+◌, ◌*◌, ◌%◌, ◌^◌, ◌<◌, [], ◌∷◌, sym, ap, refl, arith, inl, inr, ◌⊎◌, subst}
use Rattle.std.specs.Prelude.{filter, sum_by, ◌==◌}
use Rattle.std.specs.Int.{bit_at}
use Rattle.std.proofs.lemmas.List.Elements.{filter-append}
use Rattle.std.proofs.lemmas.List.Sums.{sum_by-append}
use Rattle.std.proofs.lemmas.Nat.{mod-pow-add}
use Rattle.std.proofs.lemmas.Nat.Bits.{bit_at-lt}
use Rattle.std.proofs.Math.Nat.{mod-eq_of_lt}
use Rattle.xt_base.specs.Chunks.{below, chunks_where, places_of, word_of}

-- one more bit of a number
bit_more : (n bits : ℕ) → bits % 2 ^ suc n ≡ bit_at bits n * 2 ^ n + bits % 2 ^ n
bit_more n bits = ap (λ k. bits % 2 ^ k) (omega arith) ∙ mod-pow-add bits 1 n

-- a number below 2
zero_or_one : (b : ℕ) → b < 2 → (b ≡ 0) ⊎ (b ≡ 1)
zero_or_one zero h = inl refl
zero_or_one (suc b) h = inr (omega arith)

-- what one bit adds to a sum of powers
one_bit : (b k : ℕ) → b < 2 → sum_by (λ k. 2 ^ k) (filter (λ _. b == 1) (k ∷ [])) ≡ b * 2 ^ k
one_bit b k h =
    elim (zero_or_one b h) [
      | inl e ↦ subst (λ v. sum_by (λ k. 2 ^ k) (filter (λ _. v == 1) (k ∷ [])) ≡ v * 2 ^ k) (sym e) (omega arith)
      | inr e ↦ subst (λ v. sum_by (λ k. 2 ^ k) (filter (λ _. v == 1) (k ∷ [])) ≡ v * 2 ^ k) (sym e) (omega arith)
    ]

-- the powers of the bits below n make the number's low n bits
word_below : (n bits : ℕ) → sum_by (λ k. 2 ^ k) (filter (λ k. bit_at bits k == 1) (below n)) ≡ bits % 2 ^ n
word_below zero bits = omega arith
word_below (suc n) bits =
    let cut = filter-append (λ k. bit_at bits k == 1) (below n) (n ∷ []) in
    let both = sum_by-append (λ k. 2 ^ k) (filter (λ k. bit_at bits k == 1) (below n)) (filter (λ k. bit_at bits k == 1) (n ∷ [])) in
    ap (sum_by (λ k. 2 ^ k)) cut ∙ both ∙ omega (arith, word_below n bits, one_bit (bit_at bits n) n (bit_at-lt bits n), bit_more n bits)

-- a word of 32 bits is that of its set
pub word_back : (bits : ℕ) → bits < 2 ^ 32 → word_of (places_of bits) ≡ bits
unfolding chunks_where
word_back bits h = word_below 32 bits ∙ mod-eq_of_lt h
