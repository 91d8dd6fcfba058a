-- Shares at the places of their slots.
use Rattle.std.proofs.Common.{◌≡◌, ◌≢◌, ◌∙◌, ◌+◌, ◌<◌, ◌≤◌, ◌++◌, ◌∷◌, IfSome, List, None, Option, Some, [], ap, arith, inl, inr, length, refl, subst, suc, sym, zero, ℕ}
use Rattle.std.proofs.lemmas.Bool.{cases_eq, cases_lt}
use Rattle.std.specs.Prelude.{slice_set}
use Rattle.xt_frames.specs.Shares.{AreOwn, AreThere, no_contents, share_at}
use Rattle.xt_frames.specs.declared.share.FrameShare.{FrameShare}

abbrev Shares : Type 0
Shares = List (Option FrameShare)

-- ---- one more at the end
at_end : (xs : Shares) (x : Option FrameShare) → share_at (length xs) (xs ++ x ∷ []) ≡ x
at_end [] x = refl
at_end (y ∷ xs) x = at_end xs x

before_end : (xs : Shares) (x : Option FrameShare) (n : ℕ) → n < length xs → share_at n (xs ++ x ∷ []) ≡ share_at n xs
before_end [] x n lt = absurd (omega arith)
before_end (y ∷ xs) x zero lt = refl
before_end (y ∷ xs) x (suc n) lt = before_end xs x n (omega arith)

length_more : (xs : Shares) (x : Option FrameShare) → length (xs ++ x ∷ []) ≡ length xs + 1
length_more [] x = refl
length_more (y ∷ xs) x = let more : length (xs ++ x ∷ []) ≡ length xs + 1 = length_more xs x in omega (arith, more)

pub there_none : AreThere 0 0 []
there_none = record { there = λ n le lt. absurd (omega (arith, lt)) }

pub there_more : (xs new : Shares) (n slot : ℕ) (share : FrameShare) → length xs ≡ n → AreThere 0 n xs → slot ≡ n → share ≡ no_contents slot → new ≡ xs ++ Some share ∷ []
    → (length new ≡ n + 1) × AreThere 0 (n + 1) new
there_more xs new n slot share count there same is put = (
  ap (λ (ys : Shares). length ys) put ∙ length_more xs (Some share) ∙ ap (λ k. k + 1) count,
  record {
    there = λ k le lt. elim (cases_lt k n) [
      | inl below ↦ ap (share_at k) put ∙ before_end xs (Some share) k (omega (arith, below, count)) ∙ there.there k le below
      | inr above ↦
          let here : k ≡ n = omega (arith, above, lt) in
          ap (share_at k) put ∙ ap (λ j. share_at j (xs ++ Some share ∷ [])) (here ∙ sym count) ∙ at_end xs (Some share)
          ∙ ap (λ s. Some s) (is ∙ ap no_contents (same ∙ sym here))
    ];
  },
)

-- ---- shares of their own slots
past_end : (xs : Shares) (n : ℕ) → length xs ≤ n → share_at n xs ≡ None
past_end [] n le = refl
past_end (x ∷ xs) zero le = absurd (omega arith)
past_end (x ∷ xs) (suc n) le = past_end xs n (omega arith)

pub own_there : (xs : Shares) (n : ℕ) → length xs ≡ n → AreThere 0 n xs → AreOwn xs
own_there xs n count there = record {
  own = λ k. elim (cases_lt k n) [
    | inl below ↦ subst (λ o. IfSome o (λ share. share.slot ≡ k)) (sym (there.there k (omega arith) below)) refl
    | inr above ↦ subst (λ o. IfSome o (λ share. share.slot ≡ k)) (sym (past_end xs k (omega (arith, above, count)))) tt
  ];
}

-- ---- another at a place
set_here : (xs : Shares) (n : ℕ) (x : Option FrameShare) → n < length xs → share_at n (slice_set xs n x) ≡ x
set_here [] n x lt = absurd (omega arith)
set_here (y ∷ xs) zero x lt = refl
set_here (y ∷ xs) (suc n) x lt = set_here xs n x (omega arith)

set_past : (xs : Shares) (n : ℕ) (x : Option FrameShare) → length xs ≤ n → slice_set xs n x ≡ xs
set_past [] n x le = refl
set_past (y ∷ xs) zero x le = absurd (omega arith)
set_past (y ∷ xs) (suc n) x le = ap (λ ys. y ∷ ys) (set_past xs n x (omega arith))

set_other : (xs : Shares) (n k : ℕ) (x : Option FrameShare) → k ≢ n → share_at k (slice_set xs n x) ≡ share_at k xs
set_other [] n k x other = refl
set_other (y ∷ xs) zero zero x other = absurd (other refl)
set_other (y ∷ xs) zero (suc k) x other = refl
set_other (y ∷ xs) (suc n) zero x other = refl
set_other (y ∷ xs) (suc n) (suc k) x other = set_other xs n k x (λ s. other (ap suc s))

pub own_set : (xs : Shares) (n : ℕ) (x : Option FrameShare) → n < length xs → IfSome x (λ share. share.slot ≡ n) → AreOwn xs → AreOwn (slice_set xs n x)
own_set xs n x lt mine own = record {
  own = λ k. elim (cases_eq k n) [
    | inl same ↦
        subst (λ j. IfSome (share_at j (slice_set xs n x)) (λ share. share.slot ≡ j)) (sym same) (subst (λ o. IfSome o (λ share. share.slot ≡ n)) (sym (set_here xs n x lt)) mine)
    | inr other ↦ subst (λ o. IfSome o (λ share. share.slot ≡ k)) (sym (set_other xs n k x other)) (own.own k)
  ];
}

pub none_past : (xs : Shares) (n : ℕ) → length xs ≤ n → (None ≡ share_at n xs) × (xs ≡ slice_set xs n None)
none_past xs n le = (sym (past_end xs n le), sym (set_past xs n None le))

-- the shares of greater slots are still there
pub there_after : (xs new : Shares) (n m : ℕ) → AreThere n m xs → new ≡ slice_set xs n None → AreThere (n + 1) m new
there_after xs new n m there is = record {
  there = λ k le lt. ap (share_at k) is ∙ set_other xs n k None (λ s. omega (arith, s, le)) ∙ there.there k (omega (arith, le)) lt;
}

-- and those of lesser ones
pub there_before : (xs new : Shares) (n m : ℕ) → AreThere n (m + 1) xs → new ≡ slice_set xs m None → AreThere n m new
there_before xs new n m there is = record {
  there = λ k le lt. ap (share_at k) is ∙ set_other xs m k None (λ s. omega (arith, s, lt)) ∙ there.there k le (omega (arith, lt));
}
