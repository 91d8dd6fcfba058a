-- The chunks of a word of bits, one by one.
use Rattle.std.proofs.Common.{◌≡◌, ◌∙◌, ◌+◌, ◌-◌, ◌*◌, ◌^◌, ◌<◌, ◌≤◌, ◌⊎◌, inl, inr, ℕ, List, [], ◌∷◌, ◌++◌, Bool, true, false, ap, refl, length, arith, filter, if◌then◌else◌, add-one, append-nil, length-append, suc, sym, take, zero}
use Rattle.std.proofs.Math.Seq.{take-add, take-length}
use Rattle.std.specs.Prelude.{◌==◌, flat_map}
use Rattle.std.specs.Int.{bit_at, leading_zeros, trailing_zeros, w32}
use Rattle.std.proofs.lemmas.Nat.{leading_length}
use Rattle.std.proofs.lemmas.Nat.Bits.{bit_at-trailing_zeros, bit_at-zero, bit_at_above}
use Rattle.std.proofs.lemmas.List.Concat.{flat_map-append}
use Rattle.std.proofs.lemmas.List.Elements.{filter-append}
use Rattle.xt_base.proofs.ChunkLemmas.{has-places_of}
use Rattle.xt_base.proofs.KeyLemmas.{each_has}
use Rattle.xt_base.specs.Chunks.{below, chunks_where, places_of}
use Rattle.xt_base.specs.Maps.{has}
use Rattle.xt_base.specs.Sized.{IsWithin}
use Rattle.xt_base.specs.Text.{chunk, chunk_bytes}

-- one number more below
marked_one : (p : ℕ → Bool) (k : ℕ) → filter p (below (k + 1)) ≡ filter p (below k) ++ filter p (k ∷ [])
marked_one p k = ap (λ n. filter p (below n)) (add-one k) ∙ filter-append p (below k) (k ∷ [])

one_chunk : (f : ℕ → List ℕ) (b : Bool) (k : ℕ) → flat_map f (filter (λ _. b) (k ∷ [])) ≡ (if b then f k else [])
one_chunk f true k = append-nil (f k)
one_chunk f false k = refl

pub marked_step : (f : ℕ → List ℕ) (p : ℕ → Bool) (k : ℕ) → flat_map f (filter p (below (k + 1))) ≡ flat_map f (filter p (below k)) ++ (if p k then f k else [])
marked_step f p k = ap (flat_map f) (marked_one p k) ∙ flat_map-append f (filter p (below k)) (filter p (k ∷ [])) ∙ ap (λ xs. flat_map f (filter p (below k)) ++ xs) (one_chunk f (p k) k)

one_count : (b : Bool) (k : ℕ) → 128 * length (filter (λ _. b) (k ∷ [])) ≡ (if b then 128 else 0)
one_count true k = refl
one_count false k = refl

pub marked_count : (p : ℕ → Bool) (k : ℕ) → 128 * length (filter p (below (k + 1))) ≡ 128 * length (filter p (below k)) + (if p k then 128 else 0)
marked_count p k = omega (arith, ap length (marked_one p k), length-append (filter p (below k)) (filter p (k ∷ [])), one_count (p k) k)

unmarked_one : (b : Bool) (k : ℕ) → b ≡ false → filter (λ _. b) (k ∷ []) ≡ []
unmarked_one true k e = cc
unmarked_one false k e = refl

-- numbers that are not marked add nothing
unmarked : (p : ℕ → Bool) (k n m : ℕ) → m ≡ k + n → ((i : ℕ) → k ≤ i → i < m → p i ≡ false) → filter p (below m) ≡ filter p (below k)
unmarked p k zero m is none =
    let same : m ≡ k = omega arith in
    ap (λ i. filter p (below i)) same
unmarked p k (suc n) m is none =
    let more : m ≡ k + n + 1 = omega arith in
    ap (λ i. filter p (below i)) more ∙ marked_one p (k + n)
    ∙ ap (λ xs. filter p (below (k + n)) ++ xs) (unmarked_one (p (k + n)) (k + n) (none (k + n) (omega arith) (omega arith)))
    ∙ append-nil (filter p (below (k + n))) ∙ unmarked p k n (k + n) refl (λ i le lt. none i le (omega arith))

not_one : (b : ℕ) → b ≡ 0 → (b == 1) ≡ false
not_one b e = ap (λ v. v == 1) e

zero_or_more : (n : ℕ) → (n ≡ 0) ⊎ (0 < n)
zero_or_more zero = inl refl
zero_or_more (suc n) = inr (omega arith)

-- no bit below the lowest, and none above the highest
below_lowest : (word i : ℕ) → word < 2 ^ 32 → i < trailing_zeros w32 word → bit_at word i ≡ 0
below_lowest word i fits lt =
    elim (zero_or_more word) [
      | inl none ↦ ap (λ n. bit_at n i) none ∙ bit_at-zero i
      | inr some ↦ (bit_at-trailing_zeros w32 word some fits).2 i lt
    ]

above_highest : (word i : ℕ) → word < 2 ^ 32 → 32 ≤ i + leading_zeros w32 word → bit_at word i ≡ 0
above_highest word i fits le = let h = leading_length 32 word fits in bit_at_above word h.0 i h.2 (omega (arith, h.1))

-- no number of a word yet
pub marked_none : (word : ℕ) → word < 2 ^ 32 → [] ≡ filter (λ i. bit_at word i == 1) (below (trailing_zeros w32 word))
marked_none word fits =
    sym (unmarked (λ i. bit_at word i == 1) 0 (trailing_zeros w32 word) (trailing_zeros w32 word) (omega arith) (λ i le lt. not_one (bit_at word i) (below_lowest word i fits lt)))

-- all numbers of a word
marked_more : (word k n : ℕ) → word < 2 ^ 32 → 32 ≤ k + leading_zeros w32 word → k ≤ n → filter (λ i. bit_at word i == 1) (below n) ≡ filter (λ i. bit_at word i == 1) (below k)
marked_more word k n fits all le =
    unmarked (λ i. bit_at word i == 1) k (n - k) n (omega arith) (λ i from to. not_one (bit_at word i) (above_highest word i fits (omega arith)))

pub marked_all : (word k : ℕ) (set : List ℕ) → word < 2 ^ 32 → 32 ≤ k + leading_zeros w32 word → places_of word ≡ set → filter (λ i. bit_at word i == 1) (below k) ≡ set
unfolding chunks_where
marked_all word k set fits all is =
    sym (marked_more word k (k + 32) fits all (omega arith)) ∙ marked_more word 32 (k + 32) fits (omega arith) (omega arith) ∙ is

-- a chunk is appended, or none
pub one_more : (b : Bool) → (if b then 128 else 0) ≤ 128
one_more true = omega arith
one_more false = omega arith

-- a word of all bits has all numbers
pub all_marked : places_of 4294967295 ≡ below 32
unfolding chunks_where
all_marked = refl

-- the first n chunks of a content
first_chunks : (n : ℕ) (xs : List ℕ) → flat_map (chunk xs) (below n) ≡ take (128 * n) xs
first_chunks zero xs = refl
first_chunks (suc n) xs =
    let more : 128 * n + 128 ≡ 128 * suc n = omega arith in
    flat_map-append (chunk xs) (below n) (n ∷ []) ∙ ap (λ ys. ys ++ flat_map (chunk xs) (n ∷ [])) (first_chunks n xs) ∙ ap (λ ys. take (128 * n) xs ++ ys) (append-nil (chunk xs n))
    ∙ sym (take-add (128 * n) 128 xs) ∙ ap (λ m. take m xs) more

-- all chunks of a content are its bytes
pub whole_content : (word : ℕ) (set xs : List ℕ) → word ≡ 4294967295 → places_of word ≡ set → length xs ≡ 4096 → xs ≡ chunk_bytes xs set
whole_content word set xs all is whole =
    sym (take-length xs) ∙ ap (λ n. take n xs) whole ∙ sym (first_chunks 32 xs) ∙ ap (flat_map (chunk xs)) (sym all_marked ∙ ap places_of (sym all) ∙ is)

pub whole_count : (word : ℕ) (set : List ℕ) → word ≡ 4294967295 → places_of word ≡ set → 4096 ≡ 128 * length set
whole_count word set all is = ap (λ (xs : List ℕ). 128 * length xs) (sym all_marked ∙ ap places_of (sym all) ∙ is)

-- a chunk that the word has lies within the content, where those of its set do
pub marked_within : (word : ℕ) (set : List ℕ) (size : ℕ) → places_of word ≡ set → IsWithin size set → (k : ℕ) → k < 32 → (bit_at word k == 1) ≡ true → 128 * k + 128 ≤ size
marked_within word set size is within k lt there =
    each_has (λ j. 128 * j + 128 ≤ size) k set (ap (λ s. has s k) (sym is) ∙ has-places_of word k lt ∙ there) within

-- a word of all bits has the last one
pub last_bit : (word : ℕ) → word ≡ 4294967295 → (bit_at word 31 == 1) ≡ true
last_bit word is = ap (λ w. bit_at w 31 == 1) is
