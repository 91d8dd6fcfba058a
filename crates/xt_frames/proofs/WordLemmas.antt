-- Sets of chunks, by their words of bits.
use Rattle.std.proofs.Common.{◌≡◌, ◌∙◌, ◌-◌, ◌<◌, ◌≤◌, ◌^◌, List, ap, arith, [], false, length, min, not, refl, suc, sym, true, zero, ℕ}
use Rattle.std.proofs.lemmas.Bool.{eqb-true}
use Rattle.std.proofs.lemmas.Bool.Decides.{nat_tests}
use Rattle.std.proofs.lemmas.List.{nil_from_length}
use Rattle.std.proofs.lemmas.Nat.{leading_length}
use Rattle.std.proofs.lemmas.Nat.Bits.{bit_at-lt, bit_at-trailing_zeros, bit_at-zero, bit_at_above, bit_at_and, bit_at_not}
use Rattle.std.specs.Int.{bit_at, bit_not, leading_zeros, trailing_zeros, w32}
use Rattle.std.specs.Prelude.{bit_and, ◌&&◌, ◌==◌, ◌||◌}
use Rattle.xt_base.proofs.ChunkCounts.{has-chunks_where}
use Rattle.xt_base.proofs.ChunkLemmas.{alike}
use Rattle.xt_base.specs.Chunks.{below, chunks_where, marks, places_of, touches, union}
use Rattle.xt_base.specs.Maps.{has}

-- no chunk
pub no_chunk : (set : List ℕ) → (length set == 0) ≡ true → set ≡ []
no_chunk set is = nil_from_length set (eqb-true (length set) 0 is)

-- all chunks
pub all_places : places_of 4294967295 ≡ below 32
unfolding chunks_where
all_places = refl

-- the chunks of some bytes beside none
pub union_none : (first n : ℕ) → union [] (marks first n) ≡ marks first n
union_none first n = alike (λ k. has [] k || has (marks first n) k) (touches first n) (λ k lt. has-chunks_where (touches first n) k lt)

-- a chunk of a set, by the set's word
pub has_bit : (word : ℕ) (set : List ℕ) (k : ℕ) → places_of word ≡ set → k < 32 → has set k ≡ (bit_at word k == 1)
has_bit word set k is lt = sym (ap (λ s. has s k) is) ∙ has-chunks_where (λ j. bit_at word j == 1) k lt

has_no_bit : (word : ℕ) (set : List ℕ) (k : ℕ) → places_of word ≡ set → k < 32 → bit_at word k ≡ 0 → has set k ≡ false
has_no_bit word set k is lt none = has_bit word set k is lt ∙ ap (λ n. n == 1) none

-- no bit stands below the lowest one
below_lowest : (word k : ℕ) → word < 2 ^ 32 → k < trailing_zeros w32 word → bit_at word k ≡ 0
below_lowest zero k fits lt = bit_at-zero k
below_lowest (suc n) k fits lt = (bit_at-trailing_zeros w32 (suc n) (omega arith) fits).2 k lt

pub none_before : (word : ℕ) (set : List ℕ) (k : ℕ) → places_of word ≡ set → word < 2 ^ 32 → k < trailing_zeros w32 word → k < 32 → has set k ≡ false
none_before word set k is fits before lt = has_no_bit word set k is lt (below_lowest word k fits before)

-- nor above the highest one
above_highest : (word k : ℕ) → word < 2 ^ 32 → 32 - leading_zeros w32 word ≤ k → bit_at word k ≡ 0
above_highest word k fits le =
    let top = leading_length 32 word fits in
    bit_at_above word top.0 k top.2 (omega (arith, le, top.1))

pub none_from : (word : ℕ) (set : List ℕ) (k : ℕ) → places_of word ≡ set → word < 2 ^ 32 → 32 - leading_zeros w32 word ≤ k → k < 32 → has set k ≡ false
none_from word set k is fits from lt = has_no_bit word set k is lt (above_highest word k fits from)

-- a bit of one word, and not of another
one_and_not : (a b : ℕ) → a < 2 → b < 2 → (min a (1 - b) == 1) ≡ ((a == 1) && not (b == 1))
one_and_not a b ha hb = grind (arith, nat_tests)

bit_without : (a b k : ℕ) → b < 2 ^ 32 → k < 32 → (bit_at (bit_and a (bit_not w32 b)) k == 1) ≡ ((bit_at a k == 1) && not (bit_at b k == 1))
bit_without a b k fits lt =
    ap (λ n. n == 1) (bit_at_and a (bit_not w32 b) k) ∙ ap (λ n. min (bit_at a k) n == 1) (bit_at_not w32 b k fits lt) ∙ one_and_not (bit_at a k) (bit_at b k) (bit_at-lt a k) (bit_at-lt b k)

-- the chunks of one set that another lacks
pub has_without : (a b : ℕ) (set other found : List ℕ) → places_of a ≡ set → places_of b ≡ other → b < 2 ^ 32 → found ≡ places_of (bit_and a (bit_not w32 b)) → (k : ℕ) → k < 32
    → has found k ≡ (has set k && not (has other k))
has_without a b set other found is_set is_other fits is k lt =
    has_bit (bit_and a (bit_not w32 b)) found k (sym is) lt ∙ bit_without a b k fits lt ∙ sym (ap (λ x. x && not (bit_at b k == 1)) (has_bit a set k is_set lt))
    ∙ sym (ap (λ x. has set k && not x) (has_bit b other k is_other lt))
