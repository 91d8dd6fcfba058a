-- What is gathered gives what the texts give.
use mathlib.Core.List.{reverse_aux}
use Rattle.std.proofs.Common.{append_assoc, ◌≡◌, ◌≢◌, ◌∙◌, ◌⊎◌, ◌*◌, ◌+◌, ◌≤◌, ◌<◌, ◌∷◌, ◌++◌, Bool, Err, IfOk, List, None, Ok, Option, Result, Some, [], ap, arith, false, inl, inr, length, refl, subst, suc, sym, true, zero, ℕ}
use Rattle.std.proofs.lemmas.Bool.{cases_Bool, cases_eq, cases_order, eq-eqb, eqb-true, false≢true, ne_eqb, or_cases, or_left, or_parts, or_right}
use Rattle.std.proofs.lemmas.List.Elements.{filter-append}
use Rattle.std.proofs.lemmas.List.{length-drop, length-replicate, length-take-le}
use Rattle.std.specs.Int.{bit_at}
use Rattle.std.specs.Prelude.{drop, filter, if◌then◌else◌, replicate, reverse, take, unwrap_or, ◌==◌, ◌||◌}
use Rattle.xt_base.proofs.MapLemmas.{at_put_other, at_put_same, at_without_other, some_none}
use Rattle.xt_base.proofs.WrittenLemmas.{at_without_same}
use Rattle.xt_base.specs.Calls.{overwritten}
use Rattle.xt_base.proofs.RisingLemmas.{rises_put, rises_without}
use Rattle.xt_base.specs.Chunks.{below, chunks_where, union}
use Rattle.xt_base.specs.Maps.{at, has, put, without}
use Rattle.xt_base.proofs.FormLemmas.{form_is}
use Rattle.xt_base.proofs.SizedLemmas.{union_within}
use Rattle.xt_base.specs.Form.{form_of, is_size}
use Rattle.xt_base.specs.Sized.{IsWithin}
use Rattle.xt_base.specs.Sound.{IsRising}
use Rattle.xt_base.specs.Text.{chunk, content_at, zeros}
use Rattle.xt_ckpt.specs.Grammar.{AreItems, Entry, IsItem, IsTextIn}
use Rattle.xt_recover.proofs.PlaceLemmas.{places_are}
use Rattle.xt_recover.proofs.SizeLemmas.{within_map}
use Rattle.xt_recover.specs.Sizes.{block_size}
use Rattle.xt_recover.specs.Reading.{ReadsAs}
use Rattle.xt_recover.specs.Replay.{chunk_in, chunk_in_texts, chunk_over, entry_of, or_older}
use Rattle.xt_recover.proofs.SaidLemmas.{drop_front, take_front}
use Rattle.xt_recover.specs.Overlaid.{Overlaid, nothing, overlaid_chunk, with_item, with_items, with_texts}
use Rattle.xt_recover.specs.Chunks.{with_chunks}
use Rattle.xt_recovery.proofs.EditLemmas.{chunk_overwritten}
use Rattle.xt_recovery.proofs.MatchLegs.{chunk_small, has_union}
use Rattle.xt_recovery.specs.Log.{HasChunk}
use Rattle.xt_recovery.proofs.LogLemmas.{first_if, second_if}
use Rattle.xt_recovery.proofs.LiveLegs.{length_overwritten}
use Rattle.xt_recovery.proofs.RecoverLemmas.{at_without_back}
use Rattle.xt_recovery.proofs.ConsistentLemmas.{put_value}

-- zeros, where nothing is there
pub zeros_there : {E : Type 0} (r : Result (List ℕ) E) (size : ℕ) (o : Option (List ℕ)) → o ≡ None → IfOk r (λ c. c ≡ replicate size 0) → IfOk r (λ c. c ≡ unwrap_or o (replicate size 0))
zeros_there (Ok c) size o none h = h ∙ sym (ap (λ x. unwrap_or x (replicate size 0)) none)
zeros_there (Err e) size o none h = tt

-- which are a block's bytes
pub zeros_whole : {E : Type 0} (r : Result (List ℕ) E) (size : ℕ) → IfOk r (λ c. c ≡ replicate size 0) → IfOk r (λ c. length c ≡ size)
zeros_whole (Ok c) size h = ap length h ∙ length-replicate size 0
zeros_whole (Err e) size h = tt

-- ---- bytes at their places
-- no number stands twice
abbrev pub HasNoTwice : List ℕ → Type 0
HasNoTwice [] = Unit {0}
HasNoTwice (c ∷ cs) = (has cs c ≡ false) × HasNoTwice cs

-- a chunk that was written has its bytes
chunk_written : (k : ℕ) (bytes old : List ℕ) → length bytes ≡ 128 → 128 * k + 128 ≤ length old → chunk (overwritten (128 * k) bytes old) k ≡ bytes
chunk_written k bytes old whole fits =
    let front : length (take (128 * k) old) ≡ 128 * k = length-take-le (128 * k) old (omega (arith, fits)) in
    ap (λ xs. take 128 (drop (128 * k) xs)) (append_assoc (take (128 * k) old) bytes (drop (128 * k + length bytes) old))
    ∙ ap (take 128) (drop_front (take (128 * k) old) (bytes ++ drop (128 * k + length bytes) old) (128 * k) front) ∙ take_front bytes (drop (128 * k + length bytes) old) 128 whole

length_written : (first : ℕ) (bytes old : List ℕ) → first + length bytes ≤ length old → length (overwritten first bytes old) ≡ length old
length_written first bytes old fits = length_overwritten first bytes old fits

-- a chunk that a set does not have is not among its bytes
none_in : (set bytes : List ℕ) (k : ℕ) → has set k ≡ false → chunk_in set bytes k ≡ None
none_in [] bytes k h = refl
none_in (c ∷ cs) bytes k h =
    let parts = or_parts (k == c) (has cs k) h in
    second_if (k == c) (Some (take 128 bytes)) (chunk_in cs (drop 128 bytes) k) parts.0 ∙ none_in cs (drop 128 bytes) k parts.1

-- after bytes were put at their places each chunk has its own, or what it had
pub chunk_laid : (size : ℕ) (set bytes old : List ℕ) (k : ℕ) → HasNoTwice set → IsWithin size set → length bytes ≡ 128 * length set → length old ≡ size
    → (chunk (with_chunks set bytes old) k ≡ unwrap_or (chunk_in set bytes k) (chunk old k)) × (length (with_chunks set bytes old) ≡ size)
chunk_laid size [] bytes old k once within whole is = (refl, is)
chunk_laid size (c ∷ cs) bytes old k once within whole is =
    let first : 128 * c + 128 ≤ size = within.0 in
    let piece : List ℕ = take 128 bytes in
    let len : length piece ≡ 128 = length-take-le 128 bytes (omega (arith, whole)) in
    let next : List ℕ = overwritten (128 * c) piece old in
    let fits : 128 * c + length piece ≤ length old = omega (arith, first, is, len) in
    let rest = chunk_laid size cs (drop 128 bytes) next k once.1 within.1 (omega (arith, whole, length-drop 128 bytes)) (length_written (128 * c) piece old fits ∙ is) in (
      elim (cases_eq k c) [
        | inl same ↦
            rest.0
            ∙ ap (λ o. unwrap_or o (chunk next k)) (none_in cs (drop 128 bytes) k (ap (has cs) same ∙ once.0))
            ∙ ap (chunk next) same ∙ chunk_written c piece old len (omega (arith, fits, len))
            ∙ sym (ap (λ o. unwrap_or o (chunk old k)) (first_if (k == c) (Some piece) (chunk_in cs (drop 128 bytes) k) (eq-eqb k c same)))
        | inr other ↦
            let apart : (128 * c + length piece ≤ 128 * k) ⊎ (128 * k + 128 ≤ 128 * c) = elim (cases_order k c) [
              | inl e ↦ absurd (other e)
              | inr (inl lt) ↦ inr (omega (arith, lt))
              | inr (inr lt) ↦ inl (omega (arith, lt, len))
            ] in
            rest.0
            ∙ ap (unwrap_or (chunk_in cs (drop 128 bytes) k)) (chunk_overwritten (128 * c) k piece old fits apart)
            ∙ sym (ap (λ o. unwrap_or o (chunk old k)) (second_if (k == c) (Some piece) (chunk_in cs (drop 128 bytes) k) (ne_eqb k c other)))
      ],
      rest.1,
    )

-- ---- what is gathered
-- an item as it is read, of blocks of so many bytes
pub record IsEntry (size : ℕ) (e : Entry) : Type 0 where
  pub once : HasNoTwice e.chunks
  pub within : IsWithin size e.chunks
  pub form : length e.content ≡ 128 * length e.chunks

-- a set of chunks that such a block has
pub record IsGoodSet (size : ℕ) (set : List ℕ) : Type 0 where
  pub once : HasNoTwice set
  pub within : IsWithin size set

-- what holds of what is gathered
pub record IsWellLaid (l : Overlaid) : Type 0 where
  pub chunks_rise : IsRising l.chunks
  pub contents_rise : IsRising l.contents
  pub whole : (b : ℕ) (v : List ℕ) → at b l.contents ≡ Some v → length v ≡ block_size l.size
  pub both : (b : ℕ) → at b l.contents ≡ None → at b l.chunks ≡ None
  pub sets : (b : ℕ) (set : List ℕ) → at b l.chunks ≡ Some set → IsGoodSet (block_size l.size) set

content_whole : (b : ℕ) (l : Overlaid) (o : Option (List ℕ)) → at b l.contents ≡ o → IsWellLaid l → length (unwrap_or o (zeros (block_size l.size))) ≡ block_size l.size
content_whole b l None is h = length-replicate {A = ℕ} (block_size l.size) 0
content_whole b l (Some v) is h = h.whole b v is

-- the chunks that were gathered of a block
pub good_of : (l : Overlaid) (b : ℕ) (o : Option (List ℕ)) → at b l.chunks ≡ o → IsWellLaid l → IsGoodSet (block_size l.size) (unwrap_or o [])
good_of l b None is h = record { once = tt; within = tt }
good_of l b (Some set) is h = h.sets b set is

-- what an item takes out
abbrev taken_out : ℕ → Overlaid → Overlaid
taken_out b l = record { size = l.size; chunks = without b l.chunks; contents = without b l.contents }

-- what an item puts in
abbrev put_in : Entry → Overlaid → Overlaid
put_in e l = record {
  size = l.size;
  chunks = put e.block (union (unwrap_or (at e.block l.chunks) []) e.chunks) l.chunks;
  contents = put e.block (with_chunks e.chunks e.content (content_at (block_size l.size) e.block l.contents)) (without e.block l.contents);
}

-- where its maps have the same at a block, it gives the same
says_by : (l m : Overlaid) (b k : ℕ) → m.size ≡ l.size → at b m.chunks ≡ at b l.chunks → at b m.contents ≡ at b l.contents → overlaid_chunk m b k ≡ overlaid_chunk l b k
says_by l m b k size chunks contents =
    ap (λ s. if has (unwrap_or (at b m.chunks) []) k then Some (chunk (content_at (block_size s) b m.contents) k) else None) size
    ∙ ap (λ o. if has (unwrap_or o []) k then Some (chunk (content_at (block_size l.size) b m.contents) k) else None) chunks
    ∙ ap (λ o. if has (unwrap_or (at b l.chunks) []) k then Some (chunk (unwrap_or o (zeros (block_size l.size))) k) else None) contents

out_same : (e : Entry) (l : Overlaid) (k : ℕ) → IsWellLaid l → overlaid_chunk (taken_out e.block l) e.block k ≡ None
out_same e l k h = ap (λ o. if has (unwrap_or o []) k then Some (chunk (content_at (block_size l.size) e.block (without e.block l.contents)) k) else None) (at_without_same 0 e.block l.chunks h.chunks_rise)

-- a chunk of a union, over what was there
union_says : (here old : Bool) (o : Option (List ℕ)) (v w : List ℕ) → v ≡ unwrap_or o w → (here ≡ true → (x : List ℕ) × (o ≡ Some x)) → (here ≡ false → o ≡ None)
    → (if old || here then Some v else None) ≡ or_older o (if old then Some w else None)
union_says true true o v w is some none = let x = some refl in ap Some is ∙ ap (λ q. Some (unwrap_or q w)) x.1 ∙ sym (ap (λ q. or_older q (Some w)) x.1)
union_says true false o v w is some none = let x = some refl in ap Some is ∙ ap (λ q. Some (unwrap_or q w)) x.1 ∙ sym (ap (λ q. or_older q None) x.1)
union_says false true o v w is some none = let x = none refl in ap Some is ∙ ap (λ q. Some (unwrap_or q w)) x ∙ sym (ap (λ q. or_older q (Some w)) x)
union_says false false o v w is some none = let x = none refl in sym (ap (λ q. or_older q None) x)

some_in : (set bytes : List ℕ) (k : ℕ) → has set k ≡ true → (x : List ℕ) × (chunk_in set bytes k ≡ Some x)
some_in [] bytes k h = absurd (false≢true h)
some_in (c ∷ cs) bytes k h =
    elim (cases_Bool (k == c)) [
      | inl same ↦ (take 128 bytes, first_if (k == c) (Some (take 128 bytes)) (chunk_in cs (drop 128 bytes) k) same)
      | inr other ↦
          let rest = some_in cs (drop 128 bytes) k (sym (ap (λ x. x || has cs k) other) ∙ h) in
          (rest.0, second_if (k == c) (Some (take 128 bytes)) (chunk_in cs (drop 128 bytes) k) other ∙ rest.1)
    ]

in_same : (e : Entry) (l : Overlaid) (k : ℕ) → IsEntry (block_size l.size) e → IsWellLaid l → k < 32 → overlaid_chunk (put_in e l) e.block k ≡ or_older (chunk_in e.chunks e.content k) (overlaid_chunk l e.block k)
in_same e l k p h less =
    let b : ℕ = e.block in
    let old : List ℕ = content_at (block_size l.size) b l.contents in
    let set : List ℕ = unwrap_or (at b l.chunks) [] in
    let made = chunk_laid (block_size l.size) e.chunks e.content old k p.once p.within p.form (content_whole b l (at b l.contents) refl h) in
    ap (λ o. if has (unwrap_or o []) k then Some (chunk (content_at (block_size l.size) b (put_in e l).contents) k) else None) (at_put_same b (union set e.chunks) l.chunks)
    ∙ ap (λ o. if has (union set e.chunks) k then Some (chunk (unwrap_or o (zeros (block_size l.size))) k) else None) (at_put_same b (with_chunks e.chunks e.content old) (without b l.contents))
    ∙ ap (λ (t : Bool). if t then Some (chunk (with_chunks e.chunks e.content old) k) else None) (has_union set e.chunks k less)
    ∙ union_says (has e.chunks k) (has set k) (chunk_in e.chunks e.content k) (chunk (with_chunks e.chunks e.content old) k) (chunk old k) made.0 (some_in e.chunks e.content k) (none_in e.chunks e.content k)

-- one item
item_says : (e : Entry) (l : Overlaid) (b k : ℕ) → IsEntry (block_size l.size) e → IsWellLaid l → k < 32 → overlaid_chunk (with_item e l) b k ≡ (if b == e.block then chunk_over (Some e) k (overlaid_chunk l b k) else overlaid_chunk l b k)
item_says e l b k p h less = by_cancel (length e.chunks == 0) refl
  where
    other_block : (m : Overlaid) → b ≢ e.block → overlaid_chunk m b k ≡ overlaid_chunk l b k → overlaid_chunk m b k ≡ (if b == e.block then chunk_over (Some e) k (overlaid_chunk l b k) else overlaid_chunk l b k)
    other_block m other same = same ∙ sym (second_if (b == e.block) (chunk_over (Some e) k (overlaid_chunk l b k)) (overlaid_chunk l b k) (ne_eqb b e.block other))

    by_cancel : (t : Bool) → (length e.chunks == 0) ≡ t → overlaid_chunk (with_item e l) b k ≡ (if b == e.block then chunk_over (Some e) k (overlaid_chunk l b k) else overlaid_chunk l b k)
    by_cancel true cancels =
        ap (λ m. overlaid_chunk m b k) (first_if (length e.chunks == 0) (taken_out e.block l) (put_in e l) cancels)
        ∙ elim (cases_eq b e.block) [
          | inl same ↦
              ap (λ (x : ℕ). overlaid_chunk (taken_out e.block l) x k) same ∙ out_same e l k h
              ∙ sym (first_if (length e.chunks == 0) None (or_older (chunk_in e.chunks e.content k) (overlaid_chunk l b k)) cancels)
              ∙ sym (first_if (b == e.block) (chunk_over (Some e) k (overlaid_chunk l b k)) (overlaid_chunk l b k) (eq-eqb b e.block same))
          | inr other ↦ other_block (taken_out e.block l) other (says_by l (taken_out e.block l) b k refl (at_without_other e.block b l.chunks other) (at_without_other e.block b l.contents other))
        ]
    by_cancel false some =
        ap (λ m. overlaid_chunk m b k) (second_if (length e.chunks == 0) (taken_out e.block l) (put_in e l) some)
        ∙ elim (cases_eq b e.block) [
          | inl same ↦
              ap (λ (x : ℕ). overlaid_chunk (put_in e l) x k) same ∙ in_same e l k p h less ∙ ap (λ (x : ℕ). or_older (chunk_in e.chunks e.content k) (overlaid_chunk l x k)) (sym same)
              ∙ sym (second_if (length e.chunks == 0) None (or_older (chunk_in e.chunks e.content k) (overlaid_chunk l b k)) some)
              ∙ sym (first_if (b == e.block) (chunk_over (Some e) k (overlaid_chunk l b k)) (overlaid_chunk l b k) (eq-eqb b e.block same))
          | inr other ↦
              other_block (put_in e l) other
              (says_by l (put_in e l) b k refl (at_put_other e.block b (union (unwrap_or (at e.block l.chunks) []) e.chunks) l.chunks other)
              (at_put_other e.block b (with_chunks e.chunks e.content (content_at (block_size l.size) e.block l.contents)) (without e.block l.contents) other ∙ at_without_other e.block b l.contents other))
        ]

-- ---- sets
at_most : (n c : ℕ) → ((c == n) || false) ≡ true → c < suc n
at_most n c there = elim (or_cases (c == n) false there) [
  | inl same ↦ let is = eqb-true c n same in omega (arith, is)
  | inr bad ↦ absurd (false≢true bad)
]

not_more : (xs : List ℕ) (n : ℕ) (t : Bool) (x : ℕ) → has xs x ≡ false → x < n → has (xs ++ filter (λ _. t) (n ∷ [])) x ≡ false
not_more [] n true x absent less = ap (λ b. b || false) (ne_eqb x n (λ same. omega (arith, same, less)))
not_more [] n false x absent less = refl
not_more (y ∷ ys) n t x absent less =
    let parts = or_parts (x == y) (has ys x) absent in
    ap (λ b. b || has (ys ++ filter (λ _. t) (n ∷ [])) x) parts.0 ∙ not_more ys n t x parts.1 less

-- one number more, above the others
twice_more : (xs : List ℕ) (n : ℕ) (t : Bool) → HasNoTwice xs → ((c : ℕ) → has xs c ≡ true → c < n) → HasNoTwice (xs ++ filter (λ _. t) (n ∷ [])) × ((c : ℕ) → has (xs ++ filter (λ _. t) (n ∷ [])) c ≡ true → c < suc n)
twice_more [] n true once small = ((refl, tt), at_most n)
twice_more [] n false once small = (tt, λ c there. absurd (false≢true there))
twice_more (x ∷ xs) n t once small =
    let rest = twice_more xs n t once.1 (λ c there. small c (or_right (c == x) (has xs c) there)) in
    let less : x < n = small x (or_left (x == x) (has xs x) (eq-eqb x x refl)) in (
      (not_more xs n t x once.0 less, rest.0),
      λ c there. elim (or_cases (c == x) (has (xs ++ filter (λ _. t) (n ∷ [])) c) there) [
        | inl same ↦ let is = eqb-true c x same in omega (arith, is, less)
        | inr later ↦ rest.1 c later
      ],
    )

no_twice_below : (p : ℕ → Bool) (n : ℕ) → HasNoTwice (filter p (below n)) × ((c : ℕ) → has (filter p (below n)) c ≡ true → c < n)
no_twice_below p zero = (tt, λ c there. absurd (false≢true there))
no_twice_below p (suc n) =
    let before = no_twice_below p n in
    let more : filter p (below (suc n)) ≡ filter p (below n) ++ filter p (n ∷ []) = filter-append p (below n) (n ∷ []) in
    let both = twice_more (filter p (below n)) n (p n) before.0 before.1 in
    (subst HasNoTwice (sym more) both.0, λ c there. both.1 c (sym (ap (λ xs. has xs c) more) ∙ there))

once_where : (p : ℕ → Bool) → HasNoTwice (chunks_where p)
unfolding chunks_where
once_where p = (no_twice_below p 32).0

good_union : (size : ℕ) (a b : List ℕ) → IsWithin size a → IsWithin size b → IsGoodSet size (union a b)
good_union size a b ha hb = record { once = once_where (λ k. has a k || has b k); within = union_within size a b ha hb }

-- ---- a text
-- blocks rise
abbrev pub BlocksRise : ℕ → List Entry → Type 0
BlocksRise n [] = Unit {0}
BlocksRise n (e ∷ es) = (n ≤ e.block) × BlocksRise (suc e.block) es

abbrev pub AreEntries : ℕ → List Entry → Type 0
AreEntries size [] = Unit {0}
AreEntries size (e ∷ es) = IsEntry size e × AreEntries size es

none_before : (n b : ℕ) (es : List Entry) → b < n → BlocksRise n es → entry_of b es ≡ None
none_before n b [] less rise = refl
none_before n b (e ∷ es) less rise =
    second_if (b == e.block) (Some e) (entry_of b es) (ne_eqb b e.block (λ same. omega (arith, same, less, rise.0))) ∙ none_before (suc e.block) b es (omega (arith, less, rise.0)) rise.1

item_kept : (e : Entry) (l : Overlaid) → IsEntry (block_size l.size) e → IsWellLaid l → IsWellLaid (with_item e l)
item_kept e l p h = by_cancel (length e.chunks == 0)
  where
    by_cancel : (t : Bool) → IsWellLaid (if t then taken_out e.block l else put_in e l)
    by_cancel true = record {
      chunks_rise = rises_without 0 e.block l.chunks h.chunks_rise;
      contents_rise = rises_without 0 e.block l.contents h.contents_rise;
      whole = λ b v is. h.whole b v (at_without_back 0 b e.block v l.contents h.contents_rise is);
      both = λ b none.
          elim (cases_eq b e.block) [
            | inl same ↦ ap (λ (x : ℕ). at x (without e.block l.chunks)) same ∙ at_without_same 0 e.block l.chunks h.chunks_rise
            | inr other ↦ at_without_other e.block b l.chunks other ∙ h.both b (sym (at_without_other e.block b l.contents other) ∙ none)
          ];
      sets = λ b set is. h.sets b set (at_without_back 0 b e.block set l.chunks h.chunks_rise is);
    }
    by_cancel false =
        let old : List ℕ = content_at (block_size l.size) e.block l.contents in
        let made = chunk_laid (block_size l.size) e.chunks e.content old 0 p.once p.within p.form (content_whole e.block l (at e.block l.contents) refl h) in
        let before : List ℕ = unwrap_or (at e.block l.chunks) [] in
        let had : IsGoodSet (block_size l.size) before = good_of l e.block (at e.block l.chunks) refl h in
        record {
          chunks_rise = rises_put 0 e.block (union (unwrap_or (at e.block l.chunks) []) e.chunks) l.chunks (omega arith) h.chunks_rise;
          contents_rise = rises_put 0 e.block (with_chunks e.chunks e.content old) (without e.block l.contents) (omega arith) (rises_without 0 e.block l.contents h.contents_rise);
          whole = λ b v is.
              elim (cases_eq b e.block) [
                | inl same ↦ ap length (sym (put_value e.block b (with_chunks e.chunks e.content old) v (without e.block l.contents) same is)) ∙ made.1
                | inr other ↦ h.whole b v (at_without_back 0 b e.block v l.contents h.contents_rise (sym (at_put_other e.block b (with_chunks e.chunks e.content old) (without e.block l.contents) other) ∙ is))
              ];
          both = λ b none.
              elim (cases_eq b e.block) [
                | inl same ↦ some_none (with_chunks e.chunks e.content old) (at b (put_in e l).chunks ≡ None)
                    (sym (at_put_same e.block (with_chunks e.chunks e.content old) (without e.block l.contents)) ∙ sym (ap (λ (x : ℕ). at x (put_in e l).contents) same) ∙ none)
                | inr other ↦ at_put_other e.block b (union (unwrap_or (at e.block l.chunks) []) e.chunks) l.chunks other
                    ∙ h.both b (sym (at_without_other e.block b l.contents other) ∙ sym (at_put_other e.block b (with_chunks e.chunks e.content old) (without e.block l.contents) other) ∙ none)
              ];
          sets = λ b set is.
              elim (cases_eq b e.block) [
                | inl same ↦ subst (IsGoodSet (block_size l.size)) (put_value e.block b (union before e.chunks) set l.chunks same is) (good_union (block_size l.size) before e.chunks had.within p.within)
                | inr other ↦ h.sets b set (sym (at_put_other e.block b (union (unwrap_or (at e.block l.chunks) []) e.chunks) l.chunks other) ∙ is)
              ];
        }

-- items leave the size
item_size : (e : Entry) (l : Overlaid) → (with_item e l).size ≡ l.size
item_size e l = by_cancel (length e.chunks == 0)
  where
    by_cancel : (t : Bool) → (if t then taken_out e.block l else put_in e l).size ≡ l.size
    by_cancel true = refl
    by_cancel false = refl

pub items_size : (es : List Entry) (l : Overlaid) → (with_items es l).size ≡ l.size
items_size [] l = refl
items_size (e ∷ es) l = items_size es (with_item e l) ∙ item_size e l

-- the items of a text, one after another
pub items_say : (n : ℕ) (es : List Entry) (l : Overlaid) (b k : ℕ) → BlocksRise n es → AreEntries (block_size l.size) es → IsWellLaid l → k < 32 → (overlaid_chunk (with_items es l) b k ≡ chunk_over (entry_of b es) k (overlaid_chunk l b k)) × IsWellLaid (with_items es l)
items_say n [] l b k rise all h less = (refl, h)
items_say n (e ∷ es) l b k rise all h less =
    let next : Overlaid = with_item e l in
    let others : AreEntries (block_size next.size) es = subst (λ s. AreEntries (block_size s) es) (sym (item_size e l)) all.1 in
    let rest = items_say (suc e.block) es next b k rise.1 others (item_kept e l all.0 h) less in
    let one = item_says e l b k all.0 h less in (
      elim (cases_eq b e.block) [
        | inl same ↦
            rest.0 ∙ ap (λ o. chunk_over o k (overlaid_chunk next b k)) (none_before (suc e.block) b es (omega (arith, same)) rise.1)
            ∙ one ∙ first_if (b == e.block) (chunk_over (Some e) k (overlaid_chunk l b k)) (overlaid_chunk l b k) (eq-eqb b e.block same)
            ∙ sym (ap (λ o. chunk_over o k (overlaid_chunk l b k)) (first_if (b == e.block) (Some e) (entry_of b es) (eq-eqb b e.block same)))
        | inr other ↦
            rest.0 ∙ ap (chunk_over (entry_of b es) k) (one ∙ second_if (b == e.block) (chunk_over (Some e) k (overlaid_chunk l b k)) (overlaid_chunk l b k) (ne_eqb b e.block other))
            ∙ sym (ap (λ o. chunk_over o k (overlaid_chunk l b k)) (second_if (b == e.block) (Some e) (entry_of b es) (ne_eqb b e.block other)))
      ],
      rest.1,
    )

-- ---- a text of the grammar
-- what is read of an item
pub read_entry : (size : Option ℕ) (here : List ℕ) (e : Entry) → IsItem size here e → IsEntry (block_size size) e
read_entry size here e (inl cancel) =
    let none = cancel.chunks in
    record {
      once = subst HasNoTwice (sym none) tt;
      within = subst (IsWithin (block_size size)) (sym none) tt;
      form = ap length cancel.content ∙ ap (λ (xs : List ℕ). 128 * length xs) (sym none);
    }
read_entry size here e (inr logged) =
    let set : e.chunks ≡ filter (λ k. bit_at logged.bits k == 1) (below 32) = logged.chunks ∙ places_are logged.bits in
    record {
      once = subst HasNoTwice (sym set) (no_twice_below (λ k. bit_at logged.bits k == 1) 32).0;
      within = subst (IsWithin (block_size size)) (sym logged.chunks) (within_map size logged.bits logged.within);
      form = logged.content;
    }

read_entries : (size : Option ℕ) (n : ℕ) (bytes : List ℕ) (es : List Entry) → AreItems size n bytes es → BlocksRise n es × AreEntries (block_size size) es
read_entries size n bytes [] h = (tt, tt)
read_entries size n bytes (e ∷ es) h =
    let rest = read_entries size (suc e.block) h.1 es h.5 in
    ((h.3, rest.0), (read_entry size h.0 e h.4, rest.1))

-- ---- a log
-- a block of a size has no more than 32 chunks
chunk_below : (size : Option ℕ) (k : ℕ) → is_size size ≡ true → HasChunk (block_size size) k → k < 32
chunk_below size k one_of there = chunk_small (form_of size) (form_is size one_of) k there

-- texts of the grammar, which all say this of the size of a block
abbrev pub AreOfGrammar : Option ℕ → List (List Entry) → Type 0
AreOfGrammar size [] = Unit {0}
AreOfGrammar size (t ∷ ts) = (text : List ℕ) × (number : ℕ) × IsTextIn size text number t × AreOfGrammar size ts

pub read_of_grammar : (size : Option ℕ) (bytes : List ℕ) (ts : List (List Entry)) → ReadsAs size bytes ts → AreOfGrammar size ts
read_of_grammar size bytes [] read = tt
read_of_grammar size bytes (t ∷ ts) read = (read.0, read.2, read.3, read_of_grammar size read.1 ts read.5)

-- what is gathered of such texts gives what they give
texts_say : (ts done : List (List Entry)) (l : Overlaid) (b k : ℕ) → AreOfGrammar l.size ts → IsWellLaid l → HasChunk (block_size l.size) k → overlaid_chunk l b k ≡ chunk_in_texts done b k
    → (overlaid_chunk (with_texts ts l) b k ≡ chunk_in_texts (reverse_aux ts done) b k) × IsWellLaid (with_texts ts l)
texts_say [] done l b k texts h there same = (same, h)
texts_say (t ∷ ts) done l b k texts h there same =
    let text = texts.2 in
    let parts = read_entries l.size 0 text.body t text.each in
    let one = items_say 0 t l b k parts.0 parts.1 h (chunk_below l.size k text.sized there) in
    let next : Overlaid = with_items t l in
    let size : next.size ≡ l.size = items_size t l in
    texts_say ts (t ∷ done) next b k (subst (λ s. AreOfGrammar s ts) (sym size) texts.3) one.1 (subst (λ s. HasChunk (block_size s) k) (sym size) there) (one.0 ∙ ap (chunk_over (entry_of b t) k) same)

-- nothing is well laid
nothing_laid : (size : Option ℕ) → IsWellLaid (nothing size)
nothing_laid size = record { chunks_rise = tt; contents_rise = tt; whole = λ c v is. absurd (cc); both = λ c none. refl; sets = λ c set is. absurd (cc) }

pub gathered_says : (size : Option ℕ) (ts : List (List Entry)) (b k : ℕ) → AreOfGrammar size ts → HasChunk (block_size size) k → overlaid_chunk (with_texts ts (nothing size)) b k ≡ chunk_in_texts (reverse ts) b k
gathered_says size ts b k texts there = (texts_say ts [] (nothing size) b k texts (nothing_laid size) there refl).0

-- texts leave what is gathered well laid
texts_kept : (ts : List (List Entry)) (l : Overlaid) → AreOfGrammar l.size ts → IsWellLaid l → IsWellLaid (with_texts ts l)
texts_kept [] l texts h = h
texts_kept (t ∷ ts) l texts h =
    let text = texts.2 in
    let parts = read_entries l.size 0 text.body t text.each in
    let one = items_say 0 t l 0 0 parts.0 parts.1 h (omega arith) in
    texts_kept ts (with_items t l) (subst (λ s. AreOfGrammar s ts) (sym (items_size t l)) texts.3) one.1

-- contents that are gathered are whole, and both maps rise
pub gathered_kept : (size : Option ℕ) (ts : List (List Entry)) → AreOfGrammar size ts → IsWellLaid (with_texts ts (nothing size))
gathered_kept size ts texts = texts_kept ts (nothing size) texts (nothing_laid size)
