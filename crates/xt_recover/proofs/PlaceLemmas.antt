-- Bytes of chunks that are put at their places one by one.
use Rattle.std.proofs.Common.{add-one, ◌≡◌, ◌∙◌, ◌*◌, ◌+◌, ◌≤◌, ◌<◌, ◌∷◌, ◌++◌, Bool, List, [], ap, arith, append-nil, false, filter, length, length-append, refl, suc, sym, true, zero, ℕ}
use Rattle.std.proofs.lemmas.List.{drop-drop, take-append-drop}
use Rattle.std.proofs.lemmas.List.Elements.{filter-append}
use Rattle.std.specs.Int.{bit_at}
use Rattle.std.specs.Prelude.{drop, if◌then◌else◌, take, ◌-◌, ◌/◌, ◌==◌}
use Rattle.xt_base.specs.Calls.{overwritten}
use Rattle.xt_base.specs.Chunks.{below, chunks_where, places_of}
use Rattle.std.proofs.lemmas.List.Concat.{flat_map-cons}
use Rattle.xt_base.proofs.ChunkCounts.{has-chunks_where}
use Rattle.xt_base.proofs.KeyLemmas.{each_has}
use Rattle.xt_base.specs.Sized.{IsWithin}
use Rattle.xt_base.specs.Text.{chunk, chunk_bytes}
use Rattle.xt_recover.proofs.SaidLemmas.{drop_front, take_front}
use Rattle.xt_recover.specs.Chunks.{merged, with_chunks}
use Rattle.xt_recovery.proofs.LengthLemmas.{length_chunk}

-- one chunk more, behind the others
laid_more : (cs : List ℕ) (k : ℕ) (bytes old : List ℕ) → with_chunks (cs ++ k ∷ []) bytes old ≡ overwritten (128 * k) (take 128 (drop (128 * length cs) bytes)) (with_chunks cs bytes old)
laid_more [] k bytes old = refl
laid_more (c ∷ cs) k bytes old =
    let far : 128 + 128 * length cs ≡ 128 * length (c ∷ cs) = omega arith in
    laid_more cs k (drop 128 bytes) (overwritten (128 * c) (take 128 bytes) old)
    ∙ ap (λ xs. overwritten (128 * k) (take 128 xs) (with_chunks (c ∷ cs) bytes old)) (drop-drop (128 * length cs) 128 bytes ∙ ap (λ n. drop n bytes) far)

marked_one : (p : ℕ → Bool) (k : ℕ) → filter p (below (k + 1)) ≡ filter p (below k) ++ filter p (k ∷ [])
marked_one p k = ap (λ n. filter p (below n)) (add-one k) ∙ filter-append p (below k) (k ∷ [])

laid_if : (t : Bool) (k : ℕ) (cs bytes old : List ℕ) → with_chunks (cs ++ filter (λ _. t) (k ∷ [])) bytes old ≡ (if t then overwritten (128 * k) (take 128 (drop (128 * length cs) bytes)) (with_chunks cs bytes old) else with_chunks cs bytes old)
laid_if true k cs bytes old = laid_more cs k bytes old
laid_if false k cs bytes old = ap (λ xs. with_chunks xs bytes old) (append-nil cs)

-- the next number, if it is marked
pub laid_step : (p : ℕ → Bool) (k : ℕ) (bytes old : List ℕ)
    → with_chunks (filter p (below (k + 1))) bytes old ≡ (if p k then overwritten (128 * k) (take 128 (drop (128 * length (filter p (below k))) bytes)) (with_chunks (filter p (below k)) bytes old) else with_chunks (filter p (below k)) bytes old)
laid_step p k bytes old = ap (λ xs. with_chunks xs bytes old) (marked_one p k) ∙ laid_if (p k) k (filter p (below k)) bytes old

one_count : (t : Bool) (k : ℕ) → 128 * length (filter (λ _. t) (k ∷ [])) ≡ (if t then 128 else 0)
one_count true k = refl
one_count false k = refl

pub count_step : (p : ℕ → Bool) (k : ℕ) → 128 * length (filter p (below (k + 1))) ≡ 128 * length (filter p (below k)) + (if p k then 128 else 0)
count_step p k = omega (arith, ap length (marked_one p k), length-append (filter p (below k)) (filter p (k ∷ [])), one_count (p k) k)

-- fewer numbers have fewer marks
pub count_within : (p : ℕ → Bool) (k more : ℕ) → 128 * length (filter p (below k)) ≤ 128 * length (filter p (below (k + more)))
count_within p k zero = omega (arith, ap (λ n. length (filter p (below n))) (same k))
  where
    same : (k : ℕ) → k + 0 ≡ k
    same k = omega arith
count_within p k (suc n) =
    let next : k + suc n ≡ k + n + 1 = omega arith in
    omega (arith, count_within p k n, count_step p (k + n), ap (λ m. length (filter p (below m))) next, some (p (k + n)))
  where
    some : (t : Bool) → 0 ≤ (if t then 128 else 0)
    some t = omega arith

-- the set of a word, as its marks
pub places_are : (word : ℕ) → places_of word ≡ filter (λ k. bit_at word k == 1) (below 32)
unfolding chunks_where
places_are word = refl

-- a marked chunk has its bytes
pub within_bytes : (word k place len : ℕ) → k < 32 → place ≡ 128 * length (filter (λ k. bit_at word k == 1) (below k)) → len ≡ 128 * length (places_of word) → place + (if bit_at word k == 1 then 128 else 0) ≤ len
within_bytes word k place len small is all =
    let marked : ℕ → Bool = λ k. bit_at word k == 1 in
    let rest : k + 1 + (31 - k) ≡ 32 = omega (arith, small) in
    omega (arith, is, all, count_step marked k, count_within marked (k + 1) (31 - k), ap (λ n. length (filter marked (below n))) rest, ap length (places_are word))

-- all of them are put
pub laid_all : (word k : ℕ) (bytes old : List ℕ) → 32 ≤ k → k ≤ 32 → with_chunks (filter (λ k. bit_at word k == 1) (below k)) bytes old ≡ with_chunks (places_of word) bytes old
laid_all word k bytes old low high =
    let is : k ≡ 32 = omega (arith, low, high) in
    ap (λ n. with_chunks (filter (λ k. bit_at word k == 1) (below n)) bytes old) is ∙ ap (λ xs. with_chunks xs bytes old) (sym (places_are word))

-- the next number, of a content and a place that are so far
pub laid_next : (p : ℕ → Bool) (k place : ℕ) (bytes old content new : List ℕ) → content ≡ with_chunks (filter p (below k)) bytes old → place ≡ 128 * length (filter p (below k))
    → new ≡ (if p k then overwritten (128 * k) (take 128 (drop place bytes)) content else content) → new ≡ with_chunks (filter p (below (k + 1))) bytes old
laid_next p k place bytes old content new is at_ then_ =
    then_ ∙ ap (λ (x : List ℕ). if p k then overwritten (128 * k) (take 128 (drop place bytes)) x else x) is
    ∙ ap (λ (n : ℕ). if p k then overwritten (128 * k) (take 128 (drop n bytes)) (with_chunks (filter p (below k)) bytes old) else with_chunks (filter p (below k)) bytes old) at_
    ∙ sym (laid_step p k bytes old)

-- ---- chunks of a content in the place of others
merged_more : (cs : List ℕ) (k : ℕ) (new old : List ℕ) → merged (cs ++ k ∷ []) new old ≡ overwritten (128 * k) (chunk new k) (merged cs new old)
merged_more [] k new old = refl
merged_more (c ∷ cs) k new old = merged_more cs k new (overwritten (128 * c) (chunk new c) old)

merged_if : (t : Bool) (k : ℕ) (cs new old : List ℕ) → merged (cs ++ filter (λ _. t) (k ∷ [])) new old ≡ (if t then overwritten (128 * k) (chunk new k) (merged cs new old) else merged cs new old)
merged_if true k cs new old = merged_more cs k new old
merged_if false k cs new old = ap (λ xs. merged xs new old) (append-nil cs)

-- the next number, of a block that is so far
pub merged_next : (p : ℕ → Bool) (k : ℕ) (new old block next : List ℕ) → block ≡ merged (filter p (below k)) new old → next ≡ (if p k then overwritten (128 * k) (chunk new k) block else block)
    → next ≡ merged (filter p (below (k + 1))) new old
merged_next p k new old block next is then_ =
    then_ ∙ ap (λ (x : List ℕ). if p k then overwritten (128 * k) (chunk new k) x else x) is
    ∙ sym (ap (λ xs. merged xs new old) (marked_one p k) ∙ merged_if (p k) k (filter p (below k)) new old)

-- all of them
pub merged_all : (word k : ℕ) (new old : List ℕ) → 32 ≤ k → k ≤ 32 → merged (filter (λ k. bit_at word k == 1) (below k)) new old ≡ merged (places_of word) new old
merged_all word k new old low high =
    let is : k ≡ 32 = omega (arith, low, high) in
    ap (λ n. merged (filter (λ k. bit_at word k == 1) (below n)) new old) is ∙ ap (λ xs. merged xs new old) (sym (places_are word))

-- so their bytes stand at their places
pub merged_is : (size : ℕ) (set new old : List ℕ) → length new ≡ size → IsWithin size set → merged set new old ≡ with_chunks set (chunk_bytes new set) old
merged_is size [] new old whole within = refl
merged_is size (c ∷ cs) new old whole within =
    let len : length (chunk new c) ≡ 128 = length_chunk size new c whole within.0 in
    let bytes : chunk_bytes new (c ∷ cs) ≡ chunk new c ++ chunk_bytes new cs = flat_map-cons (chunk new) c cs in
    merged_is size cs new (overwritten (128 * c) (chunk new c) old) whole within.1
    ∙ ap (λ xs. with_chunks cs (chunk_bytes new cs) (overwritten (128 * c) xs old)) (sym (ap (take 128) bytes ∙ take_front (chunk new c) (chunk_bytes new cs) 128 len))
    ∙ ap (λ xs. with_chunks cs xs (overwritten (128 * c) (take 128 (chunk_bytes new (c ∷ cs))) old)) (sym (ap (drop 128) bytes ∙ drop_front (chunk new c) (chunk_bytes new cs) 128 len))

-- ---- blocks that have fewer chunks
-- a marked chunk lies in a content that has the chunks of the word
pub fits_marked : (word k size len : ℕ) → k < 32 → IsWithin size (places_of word) → len ≡ size → (if bit_at word k == 1 then 128 * k + 128 else 0) ≤ len
fits_marked word k size len small within is = by_mark (bit_at word k == 1) refl
  where
    by_mark : (t : Bool) → (bit_at word k == 1) ≡ t → (if t then 128 * k + 128 else 0) ≤ len
    by_mark false off = omega arith
    by_mark true on =
        let fits : 128 * k + 128 ≤ size = each_has (λ q. 128 * q + 128 ≤ size) k (places_of word) (has-chunks_where (λ q. bit_at word q == 1) k small ∙ on) within in
        omega (arith, fits, is)

none_behind : (n : ℕ) (xs : List ℕ) → length xs ≤ n → drop n xs ≡ []
none_behind zero [] h = refl
none_behind (suc n) [] h = refl
none_behind zero (x ∷ xs) h = absurd (omega (arith, h))
none_behind (suc n) (x ∷ xs) h = none_behind n xs (omega (arith, h))

-- a chunk behind the end of a block that has whole chunks is none, and to put it changes nothing
pub copied_beyond : (k : ℕ) (content block : List ℕ) → length content ≡ 128 * (length content / 128) → length content ≡ length block → length content < 128 * k + 128 → block ≡ overwritten (128 * k) (chunk content k) block
copied_beyond k content block whole same short =
    let none : chunk content k ≡ [] = ap (take 128) (none_behind (128 * k) content (omega (arith, whole, short))) in
    sym (ap (λ xs. overwritten (128 * k) xs block) none ∙ ap (λ xs. xs ++ drop (128 * k + 0) block) (append-nil (take (128 * k) block)) ∙ ap (λ n. take (128 * k) block ++ drop n block) (same_place (128 * k)) ∙ take-append-drop (128 * k) block)
  where
    same_place : (n : ℕ) → n + 0 ≡ n
    same_place n = omega arith
