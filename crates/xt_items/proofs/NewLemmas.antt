-- Whether a block is new to the log vectors, and whether its item stays.
use Rattle.std.proofs.Common.{◌≡◌, ◌∙◌, ◌∷◌, List, Some, [], ap, arith, inl, inr, refl, suc, sym, true, ℕ}
use Rattle.std.proofs.lemmas.Bool.{cases_eq, cases_order, false≢true, ne_eqb}
use Rattle.std.specs.Prelude.{if◌then◌else◌, is_some, nat_lt, ◌==◌}
use Rattle.xt_base.proofs.MapLemmas.{at_first, at_later, put_more, put_same, some_none, some_same}
use Rattle.xt_base.proofs.RisingLemmas.{none_below}
use Rattle.xt_base.specs.Maps.{at, is_in, put}
use Rattle.xt_base.specs.Places.{place}
use Rattle.xt_base.specs.Sound.{IsRising, RisesFrom}
use Rattle.xt_vectors.proofs.VectorLemmas.{chunks_put}
use Rattle.xt_vectors.specs.Vectors.{Vector, chunks_of}

-- a block has a log vector where it has an item
pub in_chunks : (k : ℕ) (vs : List (ℕ × Vector)) → is_in k (chunks_of vs) ≡ is_in k vs
in_chunks k [] = refl
in_chunks k (v ∷ vs) =
    elim (cases_eq k v.0) [
      | inl same ↦ ap is_some (at_first k (v.0, v.1.chunks) (chunks_of vs) same) ∙ sym (ap is_some (at_first k v vs same))
      | inr other ↦ ap is_some (at_later k (v.0, v.1.chunks) (chunks_of vs) other) ∙ in_chunks k vs ∙ sym (ap is_some (at_later k v vs other))
    ]

-- and it would stand at the same place among both
pub place_chunks : (k : ℕ) (vs : List (ℕ × Vector)) → place k vs ≡ place k (chunks_of vs)
place_chunks k [] = refl
place_chunks k (v ∷ vs) = ap (λ (n : ℕ). if nat_lt v.0 k then suc n else 0) (place_chunks k vs)

-- the chunks of the log vectors stay those of the items, where both have one more
pub chunks_stand : (k : ℕ) (v : Vector) (vs new : List (ℕ × Vector)) (cil after : List (ℕ × List ℕ)) → chunks_of vs ≡ cil → new ≡ put k v vs → after ≡ put k v.chunks cil → chunks_of new ≡ after
chunks_stand k v vs new cil after tied vectors items = ap chunks_of vectors ∙ chunks_put k v vs ∙ ap (put k v.chunks) tied ∙ sym items

-- numbers that a test finds equal
pub same_number : (a b : ℕ) → (a == b) ≡ true → a ≡ b
same_number a b is =
    elim (cases_eq a b) [
      | inl same ↦ same
      | inr other ↦ absurd (false≢true (sym (ne_eqb a b other) ∙ is))
    ]

module _ {V : Type 0} where
  standing : (n k : ℕ) (v : V) (es : List (ℕ × V)) → RisesFrom n es → at k es ≡ Some v → put k v es ≡ es
  standing n k v [] rises is = some_none v _ (sym is)
  standing n k v (e ∷ es) rises is =
      elim (cases_order k e.0) [
        | inl same ↦ put_same k v e es same ∙ ap (λ w. (e.0, w) ∷ es) (some_same v e.1 (sym is ∙ at_first k e es same))
        | inr (inl less) ↦ some_none v _ (sym is ∙ none_below k (suc k) (e ∷ es) (omega arith) (omega (arith, less), rises.1))
        | inr (inr more) ↦
            put_more k v e es more
            ∙ ap (λ xs. e ∷ xs) (standing (suc e.0) k v es rises.1 (sym (at_later k e es (λ same. omega (arith, same, more))) ∙ is))
      ]

  -- a value that is put where it stands changes nothing
  pub put_standing : (k : ℕ) (v : V) (es : List (ℕ × V)) → IsRising es → at k es ≡ Some v → put k v es ≡ es
  put_standing k v es rises is = standing 0 k v es rises is
