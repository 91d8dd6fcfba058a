-- A write of bytes changes no chunk that it does not touch.
use Rattle.std.proofs.Common.{append_assoc, ◌≡◌, ◌∙◌, ◌⊎◌, ◌≤◌, ◌+◌, ◌*◌, ◌++◌, List, Option, ap, arith, false, inl, inr, length, sym, true, ℕ}
use Rattle.std.proofs.Math.Seq.{drop-append-add}
use Rattle.std.proofs.lemmas.Bool.{and_cases, ltb-false, or_parts}
use Rattle.std.proofs.lemmas.List.{drop-append-le, length-append, length-drop, length-take-le, take-append-drop, take-append-le}
use Rattle.std.specs.Prelude.{drop, is_some, nat_lt, take, unwrap_or, ◌&&◌, ◌-◌, ◌<◌}
use Rattle.xt_base.proofs.ChunkCounts.{has-chunks_where}
use Rattle.xt_base.specs.Calls.{overwritten}
use Rattle.xt_base.specs.Chunks.{marks, touches, union}
use Rattle.xt_base.specs.Maps.{has}
use Rattle.xt_base.specs.Text.{chunk, zeros}
use Rattle.xt_recovery.proofs.MatchLegs.{has_union}

-- a chunk within a front
front_chunk : (p r : List ℕ) (k : ℕ) → 128 * k + 128 ≤ length p → chunk (p ++ r) k ≡ chunk p k
front_chunk p r k fits =
    ap (take 128) (drop-append-le (128 * k) p r (omega (arith, fits))) ∙ take-append-le 128 (drop (128 * k) p) r (omega (arith, fits, length-drop (128 * k) p))

-- a chunk behind a front
behind_chunk : (p r : List ℕ) (k j : ℕ) → 128 * k ≡ length p + j → chunk (p ++ r) k ≡ take 128 (drop j r)
behind_chunk p r k j place = ap (λ n. take 128 (drop n (p ++ r))) place ∙ ap (take 128) (drop-append-add p r j)

-- a chunk before or behind the bytes that are written stays
pub chunk_overwritten : (first k : ℕ) (bytes old : List ℕ) → first + length bytes ≤ length old → (first + length bytes ≤ 128 * k) ⊎ (128 * k + 128 ≤ first) → chunk (overwritten first bytes old) k ≡ chunk old k
chunk_overwritten first k bytes old fits where_ =
    let front = length-take-le first old (omega (arith, fits)) in
    elim where_ [
      | inl behind ↦
          let a : ℕ = first + length bytes in
          let j : ℕ = 128 * k - a in
          let whole = length-take-le a old fits in
          behind_chunk (take first old ++ bytes) (drop a old) k j (omega (arith, behind, front, length-append (take first old) bytes))
          ∙ sym (behind_chunk (take a old) (drop a old) k j (omega (arith, behind, whole))) ∙ ap (λ xs. chunk xs k) (take-append-drop a old)
      | inr before ↦
          ap (λ xs. chunk xs k) (append_assoc (take first old) bytes (drop (first + length bytes) old))
          ∙ front_chunk (take first old) (bytes ++ drop (first + length bytes) old) k (omega (arith, before, front))
          ∙ sym (front_chunk (take first old) (drop first old) k (omega (arith, before, front))) ∙ ap (λ xs. chunk xs k) (take-append-drop first old)
    ]

-- a chunk that is not marked lies before or behind
untouched : (first n k : ℕ) → 0 < n → touches first n k ≡ false → (first + n ≤ 128 * k) ⊎ (128 * k + 128 ≤ first)
untouched first n k some h =
    elim (and_cases (nat_lt 0 n && nat_lt (128 * k) (first + n)) (nat_lt first (128 * k + 128)) h) [
      | inl early ↦
          elim (and_cases (nat_lt 0 n) (nat_lt (128 * k) (first + n)) early) [
            | inl none ↦ absurd (omega (arith, some, ltb-false 0 n none))
            | inr behind ↦ inl (ltb-false (128 * k) (first + n) behind)
          ]
      | inr late ↦ inr (ltb-false first (128 * k + 128) late)
    ]

-- an edit over what the leg saw, which was the committed content or an edit that told the truth, tells it too
pub agrees_logged : (size first k : ℕ) (committed : Option (List ℕ)) (old_marks bytes old : List ℕ) → k < 32 → 0 < length bytes → first + length bytes ≤ length old
    → (has old_marks k ≡ false → (is_some committed ≡ true) × (chunk old k ≡ chunk (unwrap_or committed (zeros size)) k))
    → has (union old_marks (marks first (length bytes))) k ≡ false
    → (is_some committed ≡ true) × (chunk (overwritten first bytes old) k ≡ chunk (unwrap_or committed (zeros size)) k)
agrees_logged size first k committed old_marks bytes old small some fits before absent =
    let neither = or_parts (has old_marks k) (has (marks first (length bytes)) k) (sym (has_union old_marks (marks first (length bytes)) k small) ∙ absent) in
    let place = untouched first (length bytes) k some (sym (has-chunks_where (touches first (length bytes)) k small) ∙ neither.1) in
    let was = before neither.0 in
    (was.0, chunk_overwritten first k bytes old fits place ∙ was.1)
