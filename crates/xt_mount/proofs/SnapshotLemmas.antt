-- A list that is copied place by place.
use Rattle.std.proofs.Common.{◌≡◌, ◌∙◌, ◌+◌, ◌++◌, ◌∷◌, List, None, Some, [], ap, arith, inl, inr, suc, sym, take, ℕ}
use Rattle.std.proofs.Math.Seq.{take-suc}
use Rattle.std.proofs.lemmas.List.{take_all}
use Rattle.std.proofs.lemmas.Option.{slice_get-get_or, slice_get_cases, slice_get_within}
use Rattle.std.specs.Prelude.{slice_get}
use Rattle.xt_base.proofs.MapLemmas.{some_same}

module _ {X : Type 0} where
  -- one place more
  pub taken_more : (xs : List X) (i : ℕ) (x : X) → slice_get xs i ≡ Some x → take (i + 1) xs ≡ take i xs ++ x ∷ []
  taken_more xs i x is =
      let within = slice_get_within xs i x is in
      let next : i + 1 ≡ suc i = omega arith in
      ap (λ n. take n xs) next ∙ take-suc xs i x within ∙ ap (λ y. take i xs ++ y ∷ []) (some_same _ x (sym (slice_get-get_or xs i x within) ∙ is))

  some_none_not : (x : X) → Some x ≡ None → ⊥
  some_none_not x is = cc

  -- all places
  pub taken_all : (xs : List X) (i : ℕ) → slice_get xs i ≡ None → take i xs ≡ xs
  taken_all xs i none =
      elim ((slice_get_cases xs i).1) [
        | inl there ↦ absurd (some_none_not there.0 (sym there.2 ∙ none))
        | inr past ↦ take_all i xs past.0
      ]
