-- The log vectors of a commit list, where contents or the list change.
use Rattle.std.proofs.Common.{◌≡◌, ◌≢◌, ◌∙◌, ◌*◌, ◌+◌, ◌<◌, ◌≤◌, ◌∷◌, Bool, List, Option, [], ap, arith, false, filter, inl, inr, length, refl, suc, sym, true, unwrap_or, ℕ}
use Rattle.std.proofs.lemmas.Bool.{cases_eq, cases_order, false≢true}
use Rattle.std.specs.Prelude.{is_some, ◌||◌}
use Rattle.xt_base.proofs.ChunkCounts.{each_below}
use Rattle.xt_base.proofs.KeyLemmas.{at_filter_kept}
use Rattle.xt_base.proofs.MapLemmas.{at_first, at_later, put_less, put_more, put_same}
use Rattle.xt_base.proofs.RisingLemmas.{each_filter, each_map}
use Rattle.xt_base.specs.Chunks.{below, chunks_where, union}
use Rattle.xt_base.specs.Maps.{at, has, is_in, put}
use Rattle.xt_base.specs.Sized.{IsWithin}
use Rattle.xt_base.specs.Sound.{Each, RisesFrom}
use Rattle.xt_base.specs.Text.{content_at, zeros}
use Rattle.xt_vectors.specs.Vectors.{Vector, chunks_of, vector, vector_of, vectors_of}

-- a content of 32 chunks has each chunk of two sets
pub all_within : (a b content : List ℕ) → length content ≡ 4096 → IsWithin (length content) (union a b)
unfolding chunks_where
all_within a b content whole =
    each_filter (λ k. 128 * k + 128 ≤ length content) (λ k. has a k || has b k) (below 32) (each_below (λ k. 128 * k + 128 ≤ length content) 32 (λ k lt. omega (arith, lt, whole)))

-- ---- other contents n in the place of m, which are the same of each block but one
module _ (size b : ℕ) (m n : List (ℕ × List ℕ)) (same : (k : ℕ) → k ≢ b → at k n ≡ at k m) where
  -- the vector of another block
  vector_other : (e : ℕ × List ℕ) → e.0 ≢ b → vector_of size n e ≡ vector_of size m e
  vector_other e other = ap (λ (o : Option (List ℕ)). (e.0, vector (unwrap_or o (zeros size)) e.1)) (same e.0 other)

  -- those of blocks above it
  vectors_above : (k : ℕ) (es : List (ℕ × List ℕ)) → b < k → RisesFrom k es → vectors_of size n es ≡ vectors_of size m es
  vectors_above k [] lt rises = refl
  vectors_above k (e ∷ es) lt rises =
      ap (λ v. v ∷ vectors_of size n es) (vector_other e (λ is. omega (arith, is, lt, rises.0)))
      ∙ ap (λ vs. vector_of size m e ∷ vs) (vectors_above (suc e.0) es (omega (arith, lt, rises.0)) rises.1)

  -- those of a list that does not have it
  pub vectors_other : (es : List (ℕ × List ℕ)) → is_in b es ≡ false → vectors_of size n es ≡ vectors_of size m es
  vectors_other [] out = refl
  vectors_other (e ∷ es) out =
      elim (cases_eq b e.0) [
        | inl is ↦ absurd (false≢true (sym out ∙ ap is_some (at_first b e es is)))
        | inr other ↦ ap (λ v. v ∷ vectors_of size n es) (vector_other e (λ is. other (sym is)))
            ∙ ap (λ vs. vector_of size m e ∷ vs) (vectors_other es (sym (ap is_some (at_later b e es other)) ∙ out))
      ]

  -- its item has these chunks, and its vector is this
  pub vectors_put : (set : List ℕ) (v : Vector) → vector (content_at size b n) set ≡ v → (k : ℕ) (es : List (ℕ × List ℕ)) → RisesFrom k es → vectors_of size n (put b set es) ≡ put b v (vectors_of size m es)
  vectors_put set v here k [] rises = ap (λ x. (b, x) ∷ []) here
  vectors_put set v here k (e ∷ es) rises =
      elim (cases_order b e.0) [
        | inl is ↦
            ap (vectors_of size n) (put_same b set e es is) ∙ ap (λ i. (e.0, vector (content_at size i n) set) ∷ vectors_of size n es) (sym is) ∙ ap (λ x. (e.0, x) ∷ vectors_of size n es) here
            ∙ ap (λ vs. (e.0, v) ∷ vs) (vectors_above (suc e.0) es (omega (arith, is)) rises.1) ∙ sym (put_same b v (vector_of size m e) (vectors_of size m es) is)
        | inr (inl lt) ↦
            ap (vectors_of size n) (put_less b set e es lt) ∙ ap (λ x. (b, x) ∷ vectors_of size n (e ∷ es)) here
            ∙ ap (λ vs. (b, v) ∷ vs) (vectors_above e.0 (e ∷ es) lt (omega arith, rises.1)) ∙ sym (put_less b v (vector_of size m e) (vectors_of size m es) lt)
        | inr (inr lt) ↦
            ap (vectors_of size n) (put_more b set e es lt) ∙ ap (λ x. x ∷ vectors_of size n (put b set es)) (vector_other e (λ is. omega (arith, is, lt)))
            ∙ ap (λ vs. vector_of size m e ∷ vs) (vectors_put set v here (suc e.0) es rises.1) ∙ sym (put_more b v (vector_of size m e) (vectors_of size m es) lt)
      ]

-- ---- contents go
-- where those of listed blocks stay, the vectors do
pub vectors_kept : (size : ℕ) (keep : ℕ → Bool) (m es : List (ℕ × List ℕ)) → Each (λ e. keep e.0 ≡ true) es → vectors_of size (filter (λ e. keep e.0) m) es ≡ vectors_of size m es
vectors_kept size keep m [] kept = refl
vectors_kept size keep m (e ∷ es) kept =
    ap (λ (o : Option (List ℕ)). (e.0, vector (unwrap_or o (zeros size)) e.1) ∷ vectors_of size (filter (λ x. keep x.0) m) es) (at_filter_kept e.0 (λ x. keep x.0) m (λ v. kept.0))
    ∙ ap (λ vs. vector_of size m e ∷ vs) (vectors_kept size keep m es kept.1)

-- ---- entries
module _ {V : Type 0} where
  in_more : (k : ℕ) (x : ℕ × V) (es : List (ℕ × V)) → is_in k es ≡ true → is_in k (x ∷ es) ≡ true
  in_more k x es there =
      elim (cases_eq k x.0) [
        | inl is ↦ ap is_some (at_first k x es is)
        | inr other ↦ ap is_some (at_later k x es other) ∙ there
      ]

  -- each block of a map is in it
  pub each_there : (es : List (ℕ × V)) → Each (λ e. is_in e.0 es ≡ true) es
  each_there [] = tt
  each_there (e ∷ es) = (ap is_some (at_first e.0 e es refl), each_map (λ x. is_in x.0 es ≡ true) (λ x. is_in x.0 (e ∷ es) ≡ true) es (λ x there. in_more x.0 e es there) (each_there es))

-- the chunks of a vector that is put in
pub chunks_put : (k : ℕ) (v : Vector) (vs : List (ℕ × Vector)) → chunks_of (put k v vs) ≡ put k v.chunks (chunks_of vs)
chunks_put k v [] = refl
chunks_put k v (e ∷ es) =
    elim (cases_order k e.0) [
      | inl is ↦ ap chunks_of (put_same k v e es is) ∙ sym (put_same k v.chunks (e.0, e.1.chunks) (chunks_of es) is)
      | inr (inl lt) ↦ ap chunks_of (put_less k v e es lt) ∙ sym (put_less k v.chunks (e.0, e.1.chunks) (chunks_of es) lt)
      | inr (inr lt) ↦ ap chunks_of (put_more k v e es lt) ∙ ap (λ xs. (e.0, e.1.chunks) ∷ xs) (chunks_put k v es) ∙ sym (put_more k v.chunks (e.0, e.1.chunks) (chunks_of es) lt)
    ]
