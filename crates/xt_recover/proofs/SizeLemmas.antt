-- Chunks that a block of a size has, and the words of their sets.
use Rattle.std.proofs.Common.{◌≡◌, ◌≢◌, ◌∙◌, ◌*◌, ◌+◌, ◌^◌, ◌≤◌, ◌<◌, None, Option, Some, arith, inl, inr, refl, subst, suc, sym, true, zero, ℕ}
use Rattle.std.proofs.lemmas.Bool.{cases_Bool, eq-eqb, eqb-true, false≢true, ltb-false, ltb-true}
use Rattle.std.proofs.lemmas.Nat.Bits.{bit_at-lt, bit_at-suc, bit_at-zero, bit_at_above, same_from_bits}
use Rattle.std.specs.Int.{bit_at}
use Rattle.std.specs.Prelude.{nat_lt, ◌/◌, ◌==◌}
use Rattle.xt_base.proofs.ChunkCounts.{has-chunks_where}
use Rattle.xt_base.proofs.KeyLemmas.{each_has}
use Rattle.xt_base.proofs.RisingLemmas.{each_map, each_passes}
use Rattle.xt_base.specs.Chunks.{below, chunks_where, places_of}
use Rattle.xt_base.specs.Form.{form_of, is_size}
use Rattle.xt_base.specs.Sized.{IsWithin}
use Rattle.xt_ckpt.specs.Grammar.{map_limit}
use Rattle.xt_recover.specs.Sizes.{block_size, said_size}

-- ---- sizes
-- the bytes of a block are one of the four sizes
pub block_is_size : (size : Option ℕ) (n : ℕ) → is_size size ≡ true → n ≡ block_size size → is_size (Some n) ≡ true
block_is_size None n one_of is = subst (λ m. is_size (Some m) ≡ true) (sym is) refl
block_is_size (Some k) n one_of is = subst (λ m. is_size (Some m) ≡ true) (sym is) one_of

-- the texts of a form by a size say that size
pub said_back : (size : Option ℕ) → said_size (form_of size) ≡ size
said_back None = refl
said_back (Some n) = refl

-- ---- words
-- a number without a bit from a place on is below its power
small_bits : (m n : ℕ) → ((i : ℕ) → m ≤ i → bit_at n i ≡ 0) → n < 2 ^ m
small_bits zero n none =
    let same : n ≡ 0 = same_from_bits n 0 (λ i. none i (omega arith) ∙ sym (bit_at-zero i)) in
    omega (arith, same)
small_bits (suc m) n none =
    let half : n / 2 < 2 ^ m = small_bits m (n / 2) (λ i low. sym (bit_at-suc n i) ∙ none (suc i) (omega (arith, low))) in
    omega (arith, half)

-- a bit is 0 where it is not 1
no_bit : (n i : ℕ) → (bit_at n i ≡ 1 → bit_at n i ≡ 0) → bit_at n i ≡ 0
no_bit n i never =
    elim (cases_Bool (bit_at n i == 1)) [
      | inl on ↦ never (eqb-true (bit_at n i) 1 on)
      | inr off ↦
          let less : bit_at n i < 2 = bit_at-lt n i in
          let other : bit_at n i ≢ 1 = λ is. false≢true (sym off ∙ eq-eqb (bit_at n i) 1 is) in
          omega (arith, less, other)
    ]

-- the word of a set of chunks that a block has is one that its texts may say
pub map_fits : (size : Option ℕ) (bits : ℕ) → bits < 2 ^ 32 → IsWithin (block_size size) (places_of bits) → bits < map_limit size
map_fits None bits word within = word
map_fits (Some n) bits word within = small_bits (n / 128) bits (λ i low. no_bit bits i (λ on. above i low on))
  where
    above : (i : ℕ) → n / 128 ≤ i → bit_at bits i ≡ 1 → bit_at bits i ≡ 0
    above i low on =
        elim (cases_Bool (nat_lt i 32)) [
          | inl small ↦
              let less : i < 32 = ltb-true i 32 small in
              let there = has-chunks_where (λ k. bit_at bits k == 1) i less ∙ eq-eqb (bit_at bits i) 1 on in
              let fits : 128 * i + 128 ≤ n = each_has (λ k. 128 * k + 128 ≤ n) i (places_of bits) there within in
              absurd (omega (arith, low, fits))
          | inr large ↦ bit_at_above bits 32 i word (ltb-false i 32 large)
        ]

-- and the other way round
places_within : (bits m size : ℕ) → bits < 2 ^ m → 128 * m ≤ size → IsWithin size (places_of bits)
unfolding chunks_where
places_within bits m size word room =
    each_map (λ k. (bit_at bits k == 1) ≡ true) (λ k. 128 * k + 128 ≤ size) (places_of bits) (λ k on. fits k (eqb-true (bit_at bits k) 1 on)) (each_passes (λ k. bit_at bits k == 1) (below 32))
  where
    fits : (k : ℕ) → bit_at bits k ≡ 1 → 128 * k + 128 ≤ size
    fits k on =
        elim (cases_Bool (nat_lt k m)) [
          | inl below_m ↦ let less : k < m = ltb-true k m below_m in omega (arith, less, room)
          | inr above ↦ let none : bit_at bits k ≡ 0 = bit_at_above bits m k word (ltb-false k m above) in absurd (omega (arith, on, none))
        ]

pub within_map : (size : Option ℕ) (bits : ℕ) → bits < map_limit size → IsWithin (block_size size) (places_of bits)
within_map None bits word = places_within bits 32 4096 word (omega arith)
within_map (Some n) bits word = places_within bits (n / 128) n word (omega arith)
