-- The four sizes of a block, and the chunks that one of a size has.
use Rattle.std.proofs.Common.{◌≡◌, ℕ, zero, suc, ◌+◌, ◌*◌, ◌^◌, ◌<◌, ◌≤◌, ◌⊎◌, ◌++◌, ◌∷◌, [], Bool, List, true, false, Some, arith, eqb-true, inl, inr, refl, subst}
use Rattle.std.proofs.Math.Nat.{two-pow-succ}
use Rattle.std.proofs.Math.Pow.{pow_mono}
use Rattle.std.proofs.lemmas.List.Sums.{sum_by-cons}
use Rattle.std.specs.Int.{bit_at}
use Rattle.std.specs.Prelude.{◌/◌, ◌==◌, ◌||◌}
use Rattle.xt_base.proofs.ChunkCounts.{each_below}
use Rattle.xt_base.proofs.KeyLemmas.{rises_keys_filter}
use Rattle.xt_base.proofs.RisingLemmas.{each_map}
use Rattle.xt_base.specs.Chunks.{below, chunks_where, places_of, word_of}
use Rattle.xt_base.specs.Form.{is_size}
use Rattle.xt_base.specs.Sized.{IsWithin}
use Rattle.xt_base.specs.Sound.{Each, RisesFromKeys}
use Rattle.xt_ckpt.specs.Entries.{Fits, IsStored}
use Rattle.xt_ckpt.specs.Grammar.{Entry}

-- one of two tests holds
or_is : (a b : Bool) → (a || b) ≡ true → (a ≡ true) ⊎ (b ≡ true)
or_is true b h = inl refl
or_is false b h = inr h

-- a size is at most 4,096
pub size_small : (n : ℕ) → is_size (Some n) ≡ true → n ≤ 4096
size_small n h =
    elim (or_is (n == 512 || n == 1024 || n == 2048) (n == 4096) h) [
      | inr d ↦ omega (arith, eqb-true n 4096 d)
      | inl abc ↦ elim (or_is (n == 512 || n == 1024) (n == 2048) abc) [
        | inr c ↦ omega (arith, eqb-true n 2048 c)
        | inl ab ↦ elim (or_is (n == 512) (n == 1024) ab) [
          | inr b ↦ omega (arith, eqb-true n 1024 b)
          | inl a ↦ omega (arith, eqb-true n 512 a)
        ]
      ]
    ]

-- and below 2 ^ 32
pub size_below : (n : ℕ) → is_size (Some n) ≡ true → n < 2 ^ 32
size_below n h = omega (arith, size_small n h)

-- ---- the chunks of a block
-- numbers that rise, and a greater one behind them
rises_append : (m n : ℕ) (ks : List ℕ) → m ≤ n → RisesFromKeys m ks → Each (λ k. k < n) ks → RisesFromKeys m (ks ++ n ∷ [])
rises_append m n [] room rises small = (room, tt)
rises_append m n (k ∷ ks) room rises small = (rises.0, rises_append (suc k) n ks small.0 rises.1 small.1)

rises_below : (n : ℕ) → RisesFromKeys 0 (below n)
rises_below zero = tt
rises_below (suc n) = rises_append 0 n (below n) (omega arith) (rises_below n) (each_below (λ k. k < n) n (λ k h. h))

-- the set of a word rises
rises_places : (bits : ℕ) → RisesFromKeys 0 (places_of bits)
unfolding chunks_where
rises_places bits = rises_keys_filter 0 (λ k. bit_at bits k == 1) (below 32) (rises_below 32)

-- the powers of numbers that rise from m on, each below n
powers_small : (m n : ℕ) (ks : List ℕ) → m ≤ n → RisesFromKeys m ks → Each (λ k. k < n) ks → word_of ks + 2 ^ m ≤ 2 ^ n
powers_small m n [] room rises small = omega (arith, pow_mono room)
powers_small m n (k ∷ ks) room rises small =
    omega (arith, sum_by-cons (λ j. 2 ^ j) k ks, two-pow-succ k, pow_mono rises.0, powers_small (suc k) n ks small.0 rises.1 small.1)

-- an item whose chunks a block of a size has fits that size
pub within_fits : (size : ℕ) (item : Entry) → IsStored item → IsWithin size item.chunks → Fits (Some size) item
within_fits size item stored within =
    let rises : RisesFromKeys 0 item.chunks = subst (RisesFromKeys 0) stored.back (rises_places (word_of item.chunks)) in
    let small : Each (λ k. k < size / 128) item.chunks = each_map (λ k. 128 * k + 128 ≤ size) (λ k. k < size / 128) item.chunks (λ k h. omega (arith, h)) within in
    omega (arith, powers_small 0 (size / 128) item.chunks (omega arith) rises small)
