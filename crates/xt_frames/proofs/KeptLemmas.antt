-- Contents, chunk by chunk.
use Rattle.std.proofs.Common.{◌≡◌, ◌≢◌, ◌∙◌, ◌+◌, ◌*◌, ◌-◌, ◌<◌, ◌≤◌, ◌++◌, ◌∷◌, ◌⊎◌, Bool, IfSome, List, None, Option, Some, [], ap, append-nil, append_assoc, arith, drop, false, if◌then◌else◌, inl, inr, length, length-append, min, not, refl, suc, sym, take, take-append-drop, true, zero, ℕ}
use Rattle.std.proofs.Math.Seq.{drop-append-add, take-add, take-append_seam}
use Rattle.std.proofs.lemmas.Bool.{cases_order, false≢true}
use Rattle.std.proofs.lemmas.Bool.Decides.{nat_tests}
use Rattle.std.proofs.lemmas.List.{drop-append-le, drop_all, length-drop, length-take, length-take-le, take-append-le, take_all}
use Rattle.std.proofs.lemmas.List.Concat.{flat_map-append}
use Rattle.std.specs.Prelude.{flat_map, ◌&&◌, ◌||◌}
use Rattle.xt_base.proofs.ChunkCounts.{has-chunks_where}
use Rattle.xt_base.specs.Calls.{overwritten}
use Rattle.xt_base.specs.Chunks.{below, marks, touches, union}
use Rattle.xt_base.specs.Maps.{has}
use Rattle.xt_base.specs.Text.{chunk}
use Rattle.xt_frames.specs.Kept.{Kept, as_it_was, before_edits, clean_of, framed, none_kept, restored}

-- ---- all chunks
-- pieces that are the same below n
pub flat_same : (n : ℕ) (f g : ℕ → List ℕ) → ((k : ℕ) → k < n → f k ≡ g k) → flat_map f (below n) ≡ flat_map g (below n)
flat_same zero f g same = refl
flat_same (suc n) f g same =
    flat_map-append f (below n) (n ∷ []) ∙ ap (λ xs. xs ++ flat_map f (n ∷ [])) (flat_same n f g (λ k lt. same k (omega (arith, lt))))
    ∙ ap (λ x. flat_map g (below n) ++ (x ++ [])) (same n (omega arith)) ∙ sym (flat_map-append g (below n) (n ∷ []))

-- the first n chunks of a content
first_flat : (n : ℕ) (xs : List ℕ) → flat_map (chunk xs) (below n) ≡ take (128 * n) xs
first_flat zero xs = refl
first_flat (suc n) xs =
    let more : 128 * n + 128 ≡ 128 * suc n = omega arith in
    flat_map-append (chunk xs) (below n) (n ∷ []) ∙ ap (λ ys. ys ++ flat_map (chunk xs) (n ∷ [])) (first_flat n xs) ∙ ap (λ ys. take (128 * n) xs ++ ys) (append-nil (chunk xs n))
    ∙ sym (take-add (128 * n) 128 xs) ∙ ap (λ m. take m xs) more

-- a content is its chunks
pub whole_flat : (xs : List ℕ) → length xs ≤ 4096 → flat_map (chunk xs) (below 32) ≡ xs
whole_flat xs small = first_flat 32 xs ∙ take_all 4096 xs small

-- ---- lengths
-- one piece more
flat_more : (n : ℕ) (f : ℕ → List ℕ) → length (flat_map f (below (suc n))) ≡ length (flat_map f (below n)) + length (f n)
flat_more n f =
    ap length (flat_map-append f (below n) (n ∷ [])) ∙ length-append (flat_map f (below n)) (flat_map f (n ∷ [])) ∙ ap (λ xs. length (flat_map f (below n)) + length xs) (append-nil (f n))

-- pieces that are as long below n
flat_length : (n : ℕ) (f g : ℕ → List ℕ) → ((k : ℕ) → length (f k) ≡ length (g k)) → length (flat_map f (below n)) ≡ length (flat_map g (below n))
flat_length zero f g alike = refl
flat_length (suc n) f g alike =
    flat_more n f ∙ ap (λ m. m + length (f n)) (flat_length n f g alike) ∙ ap (λ m. length (flat_map g (below n)) + m) (alike n) ∙ sym (flat_more n g)

-- contents that are as long have chunks that are as long
chunk_length : (xs ys : List ℕ) (k : ℕ) → length xs ≡ length ys → length (chunk xs k) ≡ length (chunk ys k)
chunk_length xs ys k alike =
    length-take 128 (drop (128 * k) xs) ∙ ap (min 128) (length-drop (128 * k) xs ∙ ap (λ n. n - 128 * k) alike ∙ sym (length-drop (128 * k) ys)) ∙ sym (length-take 128 (drop (128 * k) ys))

either_length : (b : Bool) (old now : List ℕ) → length old ≡ length now → length (if b then old else now) ≡ length now
either_length true old now alike = alike
either_length false old now alike = refl

-- kept chunks that are put back change no length
restored_length : (kept : Kept) (content : List ℕ) → length kept.bytes ≡ length content → length content ≤ 4096 → length (restored kept content) ≡ length content
unfolding restored
restored_length kept content alike small =
    flat_length 32 (as_it_was kept content) (chunk content) (λ k. either_length (has kept.chunks k) (chunk kept.bytes k) (chunk content k) (chunk_length kept.bytes content k alike))
    ∙ ap length (whole_flat content small)

pub before_length : (o : Option Kept) (content : List ℕ) → IfSome o (λ k. length k.bytes ≡ length content) → length content ≤ 4096 → length (before_edits o content) ≡ length content
before_length None content alike small = refl
before_length (Some kept) content alike small = restored_length kept content alike small

-- ---- one chunk
-- in what stands in front
chunk_front : (xs ys : List ℕ) (k : ℕ) → 128 * k + 128 ≤ length xs → chunk (xs ++ ys) k ≡ chunk xs k
chunk_front xs ys k within =
    ap (take 128) (drop-append-le (128 * k) xs ys (omega (arith, within))) ∙ take-append-le 128 (drop (128 * k) xs) ys (omega (arith, within, length-drop (128 * k) xs))

-- in what stands behind
chunk_back : (xs ys : List ℕ) (k j : ℕ) → length xs + j ≡ 128 * k → chunk (xs ++ ys) k ≡ take 128 (drop j ys)
chunk_back xs ys k j is = ap (λ n. take 128 (drop n (xs ++ ys))) (sym is) ∙ ap (take 128) (drop-append-add xs ys j)

module _ (first : ℕ) (bytes old : List ℕ) (within : first + length bytes ≤ length old) where
  front : length (take first old) ≡ first
  front = length-take-le first old (omega (arith, within))

  -- before what is written
  chunk_before : (k : ℕ) → 128 * k + 128 ≤ first → chunk (overwritten first bytes old) k ≡ chunk old k
  chunk_before k lt =
      ap (λ xs. chunk xs k) (append_assoc (take first old) bytes (drop (first + length bytes) old))
      ∙ chunk_front (take first old) (bytes ++ drop (first + length bytes) old) k (omega (arith, front, lt))
      ∙ sym (chunk_front (take first old) (drop first old) k (omega (arith, front, lt))) ∙ ap (λ xs. chunk xs k) (take-append-drop first old)

  -- and behind it
  chunk_behind : (k j : ℕ) → first + length bytes + j ≡ 128 * k → chunk (overwritten first bytes old) k ≡ chunk old k
  chunk_behind k j is =
      let upto : ℕ = first + length bytes in
      chunk_back (take first old ++ bytes) (drop upto old) k j (omega (arith, is, front, length-append (take first old) bytes))
      ∙ sym (chunk_back (take upto old) (drop upto old) k j (omega (arith, is, length-take-le upto old within))) ∙ ap (λ xs. chunk xs k) (take-append-drop upto old)

  pub chunk_other : (k : ℕ) → (128 * k + 128 ≤ first) ⊎ (first + length bytes ≤ 128 * k) → chunk (overwritten first bytes old) k ≡ chunk old k
  chunk_other k apart =
      elim apart [
        | inl lt ↦ chunk_before k lt
        | inr le ↦ chunk_behind k (128 * k - (first + length bytes)) (omega (arith, le))
      ]

  -- a chunk that is written whole
  pub chunk_written : (k : ℕ) → first ≡ 128 * k → length bytes ≡ 128 → chunk (overwritten first bytes old) k ≡ bytes
  chunk_written k here whole =
      let rest : List ℕ = drop (first + length bytes) old in
      ap (λ xs. chunk xs k) (append_assoc (take first old) bytes rest) ∙ chunk_back (take first old) (bytes ++ rest) k 0 (omega (arith, front, here))
      ∙ ap (λ n. take n (bytes ++ rest)) (sym whole) ∙ take-append_seam bytes rest

-- written bytes change no length
pub written_length : (first : ℕ) (bytes old : List ℕ) → first + length bytes ≤ length old → length (overwritten first bytes old) ≡ length old
written_length first bytes old within =
    omega (arith, within, length-append (take first old ++ bytes) (drop (first + length bytes) old), length-append (take first old) bytes, length-take-le first old (omega (arith, within)), length-drop (first + length bytes) old)

-- chunks that are not touched lie apart
pub untouched : (first n k : ℕ) → 0 < n → touches first n k ≡ false → (128 * k + 128 ≤ first) ⊎ (first + n ≤ 128 * k)
untouched first n k some not_touched =
    elim (cases_order (first + n) (128 * k)) [
      | inl same ↦ inr (omega (arith, same))
      | inr (inl less) ↦ inr (omega (arith, less))
      | inr (inr more) ↦
          elim (cases_order (128 * k + 128) first) [
            | inl same ↦ inl (omega (arith, same))
            | inr (inl less) ↦ inl (omega (arith, less))
            | inr (inr below_end) ↦ absurd (let touched : touches first n k ≡ true = grind (arith, nat_tests) in false≢true (sym not_touched ∙ touched))
          ]
    ]

-- ---- what is kept
-- a chunk more is kept, as it is
kept_by : (s c : Bool) (new old now : List ℕ) → new ≡ (if c && not s then now else old) → (if s || c then new else now) ≡ (if s then old else now)
kept_by true true new old now is = is
kept_by true false new old now is = is
kept_by false true new old now is = is
kept_by false false new old now is = refl

pub restored_kept : (set more new old now : List ℕ) → ((k : ℕ) → k < 32 → chunk new k ≡ (if has more k && not (has set k) then chunk now k else chunk old k))
    → restored (record { chunks = union set more; bytes = new }) now ≡ restored (record { chunks = set; bytes = old }) now
unfolding restored
restored_kept set more new old now copied =
    flat_same 32 (as_it_was (record { chunks = union set more; bytes = new }) now) (as_it_was (record { chunks = set; bytes = old }) now)
    (λ k lt. ap (λ b. if b then chunk new k else chunk now k) (has-chunks_where (λ j. has set j || has more j) k lt) ∙ kept_by (has set k) (has more k) (chunk new k) (chunk old k) (chunk now k) (copied k lt))

-- kept chunks are put back
back_by : (s : Bool) (old now : List ℕ) → (if s && true then old else now) ≡ (if s then old else now)
back_by true old now = refl
back_by false old now = refl

pub put_back_is : (kept : Kept) (new now : List ℕ) → length new ≤ 4096 → ((k : ℕ) → k < 32 → chunk new k ≡ (if has kept.chunks k && true then chunk kept.bytes k else chunk now k)) → new ≡ restored kept now
unfolding restored
put_back_is kept new now whole copied =
    sym (whole_flat new whole)
    ∙ flat_same 32 (chunk new) (as_it_was kept now) (λ k lt. copied k lt ∙ back_by (has kept.chunks k) (chunk kept.bytes k) (chunk now k))

-- bytes are written whose chunks are kept
written_by : (b : Bool) (old new now : List ℕ) → (b ≡ false → new ≡ now) → (if b then old else new) ≡ (if b then old else now)
written_by true old new now same = refl
written_by false old new now same = same refl

or_right : (a b : Bool) → (a || b) ≡ false → b ≡ false
or_right true b is = absurd (false≢true (sym is))
or_right false b is = is

pub restored_written : (kept : Kept) (set bytes now : List ℕ) (first : ℕ) → kept.chunks ≡ union set (marks first (length bytes)) → first + length bytes ≤ length now → 0 < length bytes
    → restored kept (overwritten first bytes now) ≡ restored kept now
unfolding restored
restored_written kept set bytes now first is within some =
    flat_same 32 (as_it_was kept (overwritten first bytes now)) (as_it_was kept now)
    (λ k lt. written_by (has kept.chunks k) (chunk kept.bytes k) (chunk (overwritten first bytes now) k) (chunk now k)
    (λ out.
    let either = sym (has-chunks_where (λ j. has set j || has (marks first (length bytes)) j) k lt) ∙ sym (ap (λ cs. has cs k) is) ∙ out in
    let apart : touches first (length bytes) k ≡ false = sym (has-chunks_where (touches first (length bytes)) k lt) ∙ or_right (has set k) (has (marks first (length bytes)) k) either in
    chunk_other first bytes now within k (untouched first (length bytes) k some apart)))

-- ---- one chunk is copied
module _ (k : ℕ) (to new piece : List ℕ) (fits : 128 * k + 128 ≤ length to) (short : length piece ≡ 128) (is : new ≡ overwritten (128 * k) piece to) where
  -- others stay
  pub copied_elsewhere : (j : ℕ) → j ≢ k → chunk new j ≡ chunk to j
  copied_elsewhere j other =
      ap (λ xs. chunk xs j) is
      ∙ chunk_other (128 * k) piece to (omega (arith, fits, short)) j
      (elim (cases_order j k) [
        | inl same ↦ absurd (other same)
        | inr (inl less) ↦ inl (omega (arith, less))
        | inr (inr more) ↦ inr (omega (arith, more, short))
      ])

  pub copied_there : chunk new k ≡ piece
  copied_there = ap (λ xs. chunk xs k) is ∙ chunk_written (128 * k) piece to (omega (arith, fits, short)) k refl short

-- behind a content there is no chunk
pub chunk_past : (xs : List ℕ) (k : ℕ) → length xs ≤ 128 * k → chunk xs k ≡ []
chunk_past xs k past = ap (take 128) (drop_all (128 * k) xs past)

pub none_past : (wanted : Bool) (k : ℕ) (to from : List ℕ) → length to ≡ length from → length to ≤ 128 * k → chunk to k ≡ (if wanted then chunk from k else chunk to k)
none_past true k to from alike past = chunk_past to k past ∙ sym (chunk_past from k (omega (arith, alike, past)))
none_past false k to from alike past = refl

-- the piece is the chunk
abbrev pub piece_of : ℕ → List ℕ → List ℕ
piece_of k from = take (128 * k + 128 - 128 * k) (drop (128 * k) from)

piece_is : (k : ℕ) (from : List ℕ) → piece_of k from ≡ chunk from k
piece_is k from = let size : 128 * k + 128 - 128 * k ≡ 128 = omega arith in ap (λ n. take n (drop (128 * k) from)) size

piece_whole : (k : ℕ) (from : List ℕ) → 128 * k + 128 ≤ length from → length (piece_of k from) ≡ 128
piece_whole k from fits = ap length (piece_is k from) ∙ length-take-le 128 (drop (128 * k) from) (omega (arith, fits, length-drop (128 * k) from))

-- a copied chunk is one of as many bytes
pub copied_length : (k : ℕ) (to new from : List ℕ) → 128 * k + 128 ≤ length to → length to ≡ length from → new ≡ overwritten (128 * k) (piece_of k from) to → length new ≡ length to
copied_length k to new from fits alike is =
    let piece = piece_whole k from (omega (arith, fits, alike)) in
    ap length is ∙ written_length (128 * k) (piece_of k from) to (omega (arith, fits, piece))

pub copied_here : (k : ℕ) (to new from : List ℕ) → 128 * k + 128 ≤ length to → length to ≡ length from → new ≡ overwritten (128 * k) (piece_of k from) to → chunk new k ≡ chunk from k
copied_here k to new from fits alike is = copied_there k to new (piece_of k from) fits (piece_whole k from (omega (arith, fits, alike))) is ∙ piece_is k from

pub kept_elsewhere : (k : ℕ) (to new from : List ℕ) → 128 * k + 128 ≤ length to → length to ≡ length from → new ≡ overwritten (128 * k) (piece_of k from) to → (j : ℕ) → j ≢ k → chunk new j ≡ chunk to j
kept_elsewhere k to new from fits alike is = copied_elsewhere k to new (piece_of k from) fits (piece_whole k from (omega (arith, fits, alike))) is

-- ---- where none is kept
pub restored_none : (room content : List ℕ) → length content ≤ 4096 → restored (none_kept room) content ≡ content
unfolding restored
restored_none room content whole = whole_flat content whole

-- a frame whose chunks are kept as it is
pub framed_kept : (kept more : Kept) (o : Option Kept) (edit content : List ℕ) → restored more edit ≡ restored kept content → restored kept content ≡ before_edits o content
    → framed edit (Some more) ≡ record (framed content o) { edit = edit }
framed_kept kept more o edit content same is = ap (λ x. record { edit = edit; committed = x }) (same ∙ is)

-- a frame of which no chunk is kept
pub framed_clean : (o : Option Kept) (content : List ℕ) → before_edits o content ≡ content → framed content o ≡ clean_of content
framed_clean o content same = ap (λ x. record { edit = content; committed = x }) same

-- what is kept is put back, and what is not is the same
whole_by : (b : Bool) (old new : List ℕ) → (b ≡ false → new ≡ old) → (if b then old else new) ≡ old
whole_by true old new same = refl
whole_by false old new same = same refl

-- all chunks of a content are kept, where none was
pub restored_whole : (kept more : Kept) (content edit : List ℕ) → kept.chunks ≡ [] → more.chunks ≡ marks 0 (length edit) → more.bytes ≡ content → length edit ≡ length content → 0 < length edit
    → restored more edit ≡ restored kept content
unfolding restored
restored_whole kept more content edit none all is alike some =
    flat_same 32 (as_it_was more edit) (as_it_was kept content)
    (λ k lt.
    ap (λ cs. if has cs k then chunk more.bytes k else chunk edit k) all ∙ ap (λ xs. if has (marks 0 (length edit)) k then chunk xs k else chunk edit k) is
    ∙ whole_by (has (marks 0 (length edit)) k) (chunk content k) (chunk edit k)
    (λ out.
    let apart : touches 0 (length edit) k ≡ false = sym (has-chunks_where (touches 0 (length edit)) k lt) ∙ out in
    elim (untouched 0 (length edit) k some apart) [
      | inl before ↦ absurd (omega (arith, before))
      | inr past ↦ chunk_past edit k (omega (arith, past)) ∙ sym (chunk_past content k (omega (arith, past, alike)))
    ])
    ∙ sym (ap (λ cs. if has cs k then chunk kept.bytes k else chunk content k) none))
