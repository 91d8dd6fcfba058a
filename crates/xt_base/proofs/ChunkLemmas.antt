-- Sets of chunks, by their tests.
use Rattle.std.proofs.Common.{◌≡◌, ◌∙◌, ℕ, zero, suc, ◌+◌, ◌*◌, ◌-◌, ◌/◌, ◌%◌, ◌^◌, ◌<◌, ◌≤◌, List, [], ◌∷◌, ◌++◌, Bool, true, false, sym, ap, refl, length, arith, inl, inr, ◌⊎◌, subst, length-append}
use Rattle.std.specs.Prelude.{filter, ◌==◌, ◌&&◌, ◌||◌, nat_lt, nat_eq, max, min, bit_and, bit_or, count_ones}
use Rattle.std.specs.Set.{is_member}
use Rattle.std.specs.Int.{bit_at, w32}
use Rattle.std.specs.Cmp.{nat_eq_equiv}
use Rattle.std.proofs.lemmas.List.Elements.{filter-append}
use Rattle.std.proofs.lemmas.Map.Made.{is_member-filter}
use Rattle.std.proofs.lemmas.Nat.{mod-pow-add, ones_cat, mod_below, pow_pos}
use Rattle.std.proofs.lemmas.Nat.Bits.{bit_at-lt, bit_at_and, bit_at_mask_below, bit_at_mask_inside, bit_at_ones, bit_at_ones_above, bit_at_or, bit_at_set_other, bit_at_set_same, bit_at-zero, ones_shl, ones_shr}
use Rattle.std.proofs.lemmas.Bool.Decides.{nat_tests}
use Rattle.std.proofs.lemmas.Bool.{cases_eq, cases_lt}
use Rattle.std.proofs.Math.Nat.{mod-eq_of_lt, mod-one}
use Rattle.xt_base.specs.Chunks.{below, chunks_where, marks, places_of, touches, union}
use Rattle.xt_base.specs.Maps.{has}
use lib.Count.{ones}

-- tests that agree below n keep the same numbers
alike_below : (n : ℕ) (p q : ℕ → Bool) → ((k : ℕ) → k < n → p k ≡ q k) → filter p (below n) ≡ filter q (below n)
alike_below zero p q same = refl
alike_below (suc n) p q same =
    filter-append p (below n) (n ∷ []) ∙ ap (λ xs. xs ++ filter p (n ∷ [])) (alike_below n p q (λ k h. same k (omega arith)))
    ∙ ap (λ b. filter q (below n) ++ filter (λ _. b) (n ∷ [])) (same n (omega arith)) ∙ sym (filter-append q (below n) (n ∷ []))

-- sets whose tests agree are one set
pub alike : (p q : ℕ → Bool) → ((k : ℕ) → k < 32 → p k ≡ q k) → chunks_where p ≡ chunks_where q
unfolding chunks_where
alike p q same = alike_below 32 p q same

or_assoc : (a b c : Bool) → (a || (b || c)) ≡ ((a || b) || c)
or_assoc true b c = refl
or_assoc false b c = refl

-- one number more
any-append : (k n : ℕ) (xs : List ℕ) → is_member nat_eq (xs ++ n ∷ []) k ≡ (is_member nat_eq xs k || (k == n))
any-append k n [] = grind (arith, nat_tests)
any-append k n (x ∷ xs) =
    ap (λ b. (k == x) || b) (any-append k n xs) ∙ or_assoc (k == x) (is_member nat_eq xs k) (k == n)

-- the numbers below n
pub has-below : (n k : ℕ) → has (below n) k ≡ nat_lt k n
has-below zero k = grind (arith, nat_tests)
has-below (suc n) k = any-append k n (below n) ∙ ap (λ b. b || (k == n)) (has-below n k) ∙ grind (arith, nat_tests)

same_number : (k x : ℕ) → nat_eq k x ≡ true → k ≡ x
same_number k x e = grind (arith, nat_tests)

less : (k : ℕ) → k < 32 → nat_lt k 32 ≡ true
less k h = grind (arith, nat_tests)

-- a chunk is in the set exactly where the test holds
pub has-chunks_where : (p : ℕ → Bool) (k : ℕ) → has (chunks_where p) k ≡ (nat_lt k 32 && p k)
unfolding chunks_where
has-chunks_where p k =
    is_member-filter nat_eq_equiv p k (λ x e. ap p (same_number k x e)) (below 32) ∙ ap (λ b. b && p k) (has-below 32 k)

-- the chunks of bytes first to first + n - 1 are those from first / 128 to (first + n - 1) / 128
untouched_below : (first n k : ℕ) → k < first / 128 → touches first n k ≡ false
untouched_below first n k lt = grind (arith, nat_tests)

untouched_above : (first n k : ℕ) → 0 < n → (first + n - 1) / 128 + 1 ≤ k → touches first n k ≡ false
untouched_above first n k some le = grind (arith, nat_tests)

pub touched : (first n k : ℕ) → 0 < n → first / 128 ≤ k → k < (first + n - 1) / 128 + 1 → touches first n k ≡ true
touched first n k some low high = grind (arith, nat_tests)

-- no chunk
pub places_of-zero : places_of 0 ≡ []
unfolding chunks_where
places_of-zero = refl

-- a bit of either word
bit_test : (a b : ℕ) → a < 2 → b < 2 → (max a b == 1) ≡ ((a == 1) || (b == 1))
bit_test a b ha hb = grind (arith, nat_tests)

-- a chunk of a word's set
pub has-places_of : (bits k : ℕ) → k < 32 → has (places_of bits) k ≡ (bit_at bits k == 1)
has-places_of bits k h = has-chunks_where (λ k. bit_at bits k == 1) k ∙ ap (λ b. b && (bit_at bits k == 1)) (less k h)

-- the bits of either word are the chunks of either set
pub places_of-or : (a b : ℕ) → places_of (bit_or a b) ≡ union (places_of a) (places_of b)
places_of-or a b =
    alike (λ k. bit_at (bit_or a b) k == 1) (λ k. has (places_of a) k || has (places_of b) k)
    (λ k h. ap (λ v. v == 1) (bit_at_or a b k) ∙ bit_test (bit_at a k) (bit_at b k) (bit_at-lt a k) (bit_at-lt b k)
    ∙ sym (ap (λ t. t || has (places_of b) k) (has-places_of a k h) ∙ ap (λ t. (bit_at a k == 1) || t) (has-places_of b k h)))

-- a number below 2
zero_or_one : (b : ℕ) → b < 2 → (b ≡ 0) ⊎ (b ≡ 1)
zero_or_one zero h = inl refl
zero_or_one (suc b) h = inr (omega arith)

-- what one bit adds to a count
one_bit : (b k : ℕ) → b < 2 → length (filter (λ _. b == 1) (k ∷ [])) ≡ ones b
unfolding count_ones
one_bit b k h =
    elim (zero_or_one b h) [
      | inl e ↦ subst (λ v. length (filter (λ _. v == 1) (k ∷ [])) ≡ ones v) (sym e) refl
      | inr e ↦ subst (λ v. length (filter (λ _. v == 1) (k ∷ [])) ≡ ones v) (sym e) refl
    ]

-- the ones among the low n bits
count_below : (n bits : ℕ) → length (filter (λ k. bit_at bits k == 1) (below n)) ≡ ones (bits % 2 ^ n)
unfolding count_ones
count_below zero bits = ap ones (sym (mod-one bits))
count_below (suc n) bits =
    let cut = filter-append (λ k. bit_at bits k == 1) (below n) (n ∷ []) in
    let more : bits % 2 ^ suc n ≡ bit_at bits n * 2 ^ n + bits % 2 ^ n = ap (λ k. bits % 2 ^ k) (omega arith) ∙ mod-pow-add bits 1 n in
    let split = ones_cat n (bit_at bits n) (bits % 2 ^ n) (mod_below bits (2 ^ n) (pow_pos n)) in
    ap length cut ∙ length-append (filter (λ k. bit_at bits k == 1) (below n)) (filter (λ k. bit_at bits k == 1) (n ∷ []))
    ∙ omega (arith, count_below n bits, one_bit (bit_at bits n) n (bit_at-lt bits n), ap ones more, split)

-- how many chunks a word stands for
pub length-places_of : (bits : ℕ) → bits < 2 ^ 32 → length (places_of bits) ≡ ones bits
unfolding chunks_where
length-places_of bits h = count_below 32 bits ∙ ap ones (mod-eq_of_lt h)

-- ---- number by number
-- the tests of all numbers below k, and none from there on
pub record HasBelow (test : ℕ → Bool) (bits k : ℕ) : Type 0 where
  pub tests : (i : ℕ) → (bit_at bits i == 1) ≡ (nat_lt i k && test i)

is_below : (i k : ℕ) → nat_lt i k ≡ true → i < k
is_below i k e = grind (arith, nat_tests)

both_fail : (a b : Bool) → (a ≡ true → b ≡ false) → (a && b) ≡ false
both_fail true b h = h refl
both_fail false b h = refl

-- no number below k
pub has_none : (test : ℕ → Bool) (k : ℕ) → ((i : ℕ) → i < k → test i ≡ false) → HasBelow test 0 k
has_none test k none =
    record { tests = λ i. ap (λ v. v == 1) (bit_at-zero i) ∙ sym (both_fail (nat_lt i k) (test i) (λ e. none i (is_below i k e))) }

-- below one number more
below_same : (k : ℕ) (b : Bool) → b ≡ true → (nat_lt k (k + 1) && b) ≡ true
below_same k true e = grind (arith, nat_tests)
below_same k false e = cc

below_other : (i k : ℕ) (b : Bool) → (i ≡ k → ⊥) → (nat_lt i k && b) ≡ (nat_lt i (k + 1) && b)
below_other i k b n = ap (λ t. t && b) (grind (arith, nat_tests))

-- a number that is tested and set
pub has_set : (test : ℕ → Bool) (bits k : ℕ) → k < 32 → test k ≡ true → HasBelow test bits k → HasBelow test (bit_or bits (1 * 2 ^ k % 2 ^ 32)) (k + 1)
has_set test bits k lt holds before =
    record {
      tests = λ i. elim (cases_eq i k) [
        | inl e ↦ subst (λ j. (bit_at (bit_or bits (1 * 2 ^ k % 2 ^ 32)) j == 1) ≡ (nat_lt j (k + 1) && test j)) (sym e)
            (ap (λ v. v == 1) (bit_at_set_same w32 bits k lt) ∙ sym (below_same k (test k) holds))
        | inr n ↦ ap (λ v. v == 1) (bit_at_set_other w32 bits k lt i n) ∙ before.tests i ∙ below_other i k (test i) n
      ];
    }

-- ---- a run of chunks
-- the ones from low on, and up to high
abbrev pub run : ℕ → ℕ → ℕ
run low high = bit_and ((2 ^ 32 - 1) / 2 ^ (31 - high)) ((2 ^ 32 - 1) * 2 ^ low % 2 ^ 32)

bit_at_run : (low high k : ℕ) → low ≤ 31 → high ≤ 31 → bit_at (run low high) k ≡ min (bit_at (2 ^ (32 - (31 - high)) - 1) k) (bit_at (2 ^ 32 - 2 ^ low) k)
bit_at_run low high k small top =
    bit_at_and ((2 ^ 32 - 1) / 2 ^ (31 - high)) ((2 ^ 32 - 1) * 2 ^ low % 2 ^ 32) k
    ∙ ap (λ a. min (bit_at a k) (bit_at ((2 ^ 32 - 1) * 2 ^ low % 2 ^ 32) k)) (ones_shr 32 (31 - high) (omega arith))
    ∙ ap (λ b. min (bit_at (2 ^ (32 - (31 - high)) - 1) k) (bit_at b k)) (ones_shl 32 low (omega (arith, small)))

-- a bit from low to high is set, and no other
run_inside : (low high k : ℕ) → low ≤ k → k ≤ high → high ≤ 31 → (bit_at (run low high) k == 1) ≡ true
run_inside low high k le ge top =
    let is = bit_at_run low high k (omega (arith, le, ge, top)) top in
    let set : bit_at (run low high) k ≡ 1 = omega (arith, is, bit_at_ones (32 - (31 - high)) k (omega (arith, ge, top)), bit_at_mask_inside low 32 k le (omega (arith, ge, top))) in
    ap (λ b. b == 1) set

run_below : (low high k : ℕ) → k < low → low ≤ 31 → high ≤ 31 → (bit_at (run low high) k == 1) ≡ false
run_below low high k lt small top =
    let clear : bit_at (run low high) k ≡ 0 = omega (arith, bit_at_run low high k small top, bit_at_mask_below low 32 k lt) in
    ap (λ b. b == 1) clear

run_above : (low high k : ℕ) → high < k → low ≤ 31 → high ≤ 31 → (bit_at (run low high) k == 1) ≡ false
run_above low high k lt small top =
    let clear : bit_at (run low high) k ≡ 0 = omega (arith, bit_at_run low high k small top, bit_at_ones_above (32 - (31 - high)) k (omega (arith, lt, top))) in
    ap (λ b. b == 1) clear

-- the bytes first to first + n - 1 mark the run of chunks from that of the first to that of the last
pub run_marks : (first n : ℕ) → 0 < n → first + n ≤ 4096 → places_of (run (first / 128) ((first + n - 1) / 128)) ≡ marks first n
run_marks first n some room =
    let low : ℕ = first / 128 in
    let high : ℕ = (first + n - 1) / 128 in
    let small : low ≤ 31 = omega arith in
    let top : high ≤ 31 = omega arith in
    alike (λ k. bit_at (run low high) k == 1) (touches first n)
    (λ k h. elim (cases_lt k low) [
      | inl lt ↦ run_below low high k lt small top ∙ sym (untouched_below first n k lt)
      | inr le ↦
          elim (cases_lt high k) [
            | inl lt ↦ run_above low high k lt small top ∙ sym (untouched_above first n k some (omega (arith, lt)))
            | inr ge ↦ run_inside low high k le ge top ∙ sym (touched first n k some le (omega (arith, ge)))
          ]
    ])
