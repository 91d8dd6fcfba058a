-- What is read of the texts says what the texts say.
use Rattle.std.proofs.Common.{◌≡◌, ◌∙◌, ◌∷◌, ◌++◌, Bool, List, None, Some, [], ap, arith, false, inl, inr, length, map, refl, sym, true, ℕ}
use Rattle.std.proofs.lemmas.Bool.{cases_Bool, cases_eq, eq-eqb, ne_eqb, or_left}
use Rattle.std.proofs.lemmas.List.{take-append-le}
use Rattle.std.proofs.lemmas.List.Concat.{flat_map-cons}
use Rattle.std.proofs.Math.Seq.{drop-append_seam}
use Rattle.std.specs.Prelude.{drop, if◌then◌else◌, is_some, take, unwrap_or, ◌==◌, ◌&&◌, ◌||◌}
use Rattle.xt_base.proofs.MapLemmas.{at_first, at_later, some_none, some_same}
use Rattle.xt_base.specs.Maps.{at, has, is_in}
use Rattle.xt_base.proofs.RisingLemmas.{each_at}
use Rattle.xt_base.specs.Form.{Form}
use Rattle.xt_base.specs.Sized.{IsWithin}
use Rattle.xt_base.specs.Sound.{Each}
use Rattle.xt_base.specs.Text.{chunk, chunk_bytes}
use Rattle.xt_ckpt.specs.Grammar.{Entry}
use Rattle.xt_recover.proofs.TextEntries.{entries_of}
use Rattle.xt_recover.specs.Replay.{chunk_in, chunk_in_texts, chunk_over, entry_of, or_older}
use Rattle.xt_recovery.proofs.LengthLemmas.{length_chunk}
use Rattle.xt_recovery.proofs.MatchLegs.{cases_option}
use Rattle.xt_recovery.proofs.MatchLemmas.{no_chunks, no_item}
use Rattle.xt_recovery.proofs.LogLemmas.{first_if, found_cancel, found_first, found_later, second_if}
use Rattle.xt_recovery.proofs.Formed.{IsWellFormed}
use Rattle.xt_recovery.specs.Log.{CheckpointText, chunks_of, is_cancel, logged_chunk}

bytes_more : (content : List ℕ) (c : ℕ) (cs : List ℕ) → chunk_bytes content (c ∷ cs) ≡ chunk content c ++ chunk_bytes content cs
bytes_more content c cs = flat_map-cons (chunk content) c cs

pub take_front : (a b : List ℕ) (n : ℕ) → length a ≡ n → take n (a ++ b) ≡ a
take_front a b n is = ap (λ m. take m (a ++ b)) (sym is) ∙ take-append-le (length a) a b (omega arith) ∙ take_all a
  where
    take_all : (xs : List ℕ) → take (length xs) xs ≡ xs
    take_all [] = refl
    take_all (x ∷ xs) = ap (λ ys. x ∷ ys) (take_all xs)

pub drop_front : (a b : List ℕ) (n : ℕ) → length a ≡ n → drop n (a ++ b) ≡ b
drop_front a b n is = ap (λ m. drop m (a ++ b)) (sym is) ∙ drop-append_seam a b

-- an item's bytes of a chunk that it has, and none of another
pub chunk_found : (size : ℕ) (content set : List ℕ) (k : ℕ) → length content ≡ size → IsWithin size set → chunk_in set (chunk_bytes content set) k ≡ (if has set k then Some (chunk content k) else None)
chunk_found size content [] k whole within = refl
chunk_found size content (c ∷ cs) k whole within =
    let len = length_chunk size content c whole within.0 in
    elim (cases_eq k c) [
      | inl same ↦
          first_if (k == c) (Some (take 128 (chunk_bytes content (c ∷ cs)))) (chunk_in cs (drop 128 (chunk_bytes content (c ∷ cs))) k) (eq-eqb k c same)
          ∙ ap (λ xs. Some (take 128 xs)) (bytes_more content c cs) ∙ ap Some (take_front (chunk content c) (chunk_bytes content cs) 128 len) ∙ ap (λ (x : ℕ). Some (chunk content x)) (sym same)
          ∙ sym (first_if (has (c ∷ cs) k) (Some (chunk content k)) None (or_left (k == c) (has cs k) (eq-eqb k c same)))
      | inr other ↦
          second_if (k == c) (Some (take 128 (chunk_bytes content (c ∷ cs)))) (chunk_in cs (drop 128 (chunk_bytes content (c ∷ cs))) k) (ne_eqb k c other)
          ∙ ap (λ xs. chunk_in cs (drop 128 xs) k) (bytes_more content c cs) ∙ ap (λ xs. chunk_in cs xs k) (drop_front (chunk content c) (chunk_bytes content cs) 128 len)
          ∙ chunk_found size content cs k whole within.1
          ∙ ap (λ (t : Bool). if t then Some (chunk content k) else None) (sym (ap (λ x. x || has cs k) (ne_eqb k c other)))
    ]

-- ---- one text
entry_none : (contents : ℕ → List ℕ) (items : List (ℕ × List ℕ)) (b : ℕ) → at b items ≡ None → entry_of b (map (λ e. record { block = e.0; chunks = e.1; content = chunk_bytes (contents e.0) e.1 }) items) ≡ None
entry_none contents [] b h = refl
entry_none contents (e ∷ es) b h =
    let rest : List Entry = map (λ e. record { block = e.0; chunks = e.1; content = chunk_bytes (contents e.0) e.1 }) es in
    elim (cases_eq b e.0) [
      | inl same ↦ some_none e.1 (entry_of b (map (λ e. record { block = e.0; chunks = e.1; content = chunk_bytes (contents e.0) e.1 }) (e ∷ es)) ≡ None) (sym (at_first b e es same) ∙ h)
      | inr other ↦ second_if (b == e.0) (Some (record { block = e.0; chunks = e.1; content = chunk_bytes (contents e.0) e.1 })) (entry_of b rest) (ne_eqb b e.0 other) ∙ entry_none contents es b (sym (at_later b e es other) ∙ h)
    ]

entry_some : (contents : ℕ → List ℕ) (items : List (ℕ × List ℕ)) (b : ℕ) (set : List ℕ) → at b items ≡ Some set
    → entry_of b (map (λ e. record { block = e.0; chunks = e.1; content = chunk_bytes (contents e.0) e.1 }) items) ≡ Some (record { block = b; chunks = set; content = chunk_bytes (contents b) set })
entry_some contents [] b set h = some_none set (entry_of b [] ≡ Some (record { block = b; chunks = set; content = chunk_bytes (contents b) set })) (sym h)
entry_some contents (e ∷ es) b set h =
    let rest : List Entry = map (λ e. record { block = e.0; chunks = e.1; content = chunk_bytes (contents e.0) e.1 }) es in
    let first : Entry = record { block = e.0; chunks = e.1; content = chunk_bytes (contents e.0) e.1 } in
    elim (cases_eq b e.0) [
      | inl same ↦
          let value : e.1 ≡ set = some_same e.1 set (sym (at_first b e es same) ∙ h) in
          first_if (b == e.0) (Some first) (entry_of b rest) (eq-eqb b e.0 same)
          ∙ ap (λ (x : ℕ). Some (record { block = x; chunks = e.1; content = chunk_bytes (contents x) e.1 })) (sym same)
          ∙ ap (λ (x : List ℕ). Some (record { block = b; chunks = x; content = chunk_bytes (contents b) x })) value
      | inr other ↦ second_if (b == e.0) (Some first) (entry_of b rest) (ne_eqb b e.0 other) ∙ entry_some contents es b set (sym (at_later b e es other) ∙ h)
    ]

abbrev entry_for : CheckpointText → ℕ → List ℕ → Entry
entry_for w b set = record { block = b; chunks = set; content = chunk_bytes (w.contents b) set }

-- an item with chunks, over what is older
item_said : (form : Form) (w : CheckpointText) (ws : List CheckpointText) (b k : ℕ) (set : List ℕ) (here : Bool) → IsWellFormed form w → at b w.items ≡ Some set → (length set == 0) ≡ false → has set k ≡ here
    → chunk_over (Some (entry_for w b set)) k (logged_chunk ws b k) ≡ logged_chunk (w ∷ ws) b k
item_said form w ws b k set here p is some there =
    let within : IsWithin form.size set = each_at (λ e. IsWithin form.size e.1) b set w.items is p.within in
    let said_it : chunk_over (Some (entry_for w b set)) k (logged_chunk ws b k) ≡ or_older (chunk_in set (chunk_bytes (w.contents b) set) k) (logged_chunk ws b k) =
    second_if (length set == 0) None (or_older (chunk_in set (chunk_bytes (w.contents b) set) k) (logged_chunk ws b k)) some in
    let by : or_older (chunk_in set (chunk_bytes (w.contents b) set) k) (logged_chunk ws b k) ≡ or_older (if here then Some (chunk (w.contents b) k) else None) (logged_chunk ws b k) =
    ap (λ o. or_older o (logged_chunk ws b k)) (chunk_found form.size (w.contents b) set k (p.whole b) within ∙ ap (λ (t : Bool). if t then Some (chunk (w.contents b) k) else None) there) in
    let other : is_cancel b w.items ≡ false = ap (λ o. is_some o && (length (unwrap_or o []) == 0)) is ∙ some in
    let chunks : chunks_of b w.items ≡ set = ap (λ o. unwrap_or o []) is in
    said_it ∙ by ∙ by_case here other (ap (λ xs. has xs k) chunks ∙ there)
  where
    by_case : (t : Bool) → is_cancel b w.items ≡ false → has (chunks_of b w.items) k ≡ t → or_older (if t then Some (chunk (w.contents b) k) else None) (logged_chunk ws b k) ≡ logged_chunk (w ∷ ws) b k
    by_case true other h = sym (found_first w ws b k other h)
    by_case false other h = sym (found_later w ws b k other h)

one_said : (form : Form) (w : CheckpointText) (ws : List CheckpointText) (b k : ℕ) → IsWellFormed form w → chunk_over (entry_of b (entries_of w)) k (logged_chunk ws b k) ≡ logged_chunk (w ∷ ws) b k
one_said form w ws b k p =
    elim (cases_option (at b w.items)) [
      | inl none ↦
          let absent : is_in b w.items ≡ false = ap is_some none in
          ap (λ o. chunk_over o k (logged_chunk ws b k)) (entry_none w.contents w.items b none) ∙ sym (found_later w ws b k (no_item b w.items absent) (no_chunks b k w.items absent))
      | inr item ↦
          ap (λ o. chunk_over o k (logged_chunk ws b k)) (entry_some w.contents w.items b item.0 item.1)
          ∙ elim (cases_Bool (length item.0 == 0)) [
            | inl cancels ↦
                first_if (length item.0 == 0) None (or_older (chunk_in item.0 (chunk_bytes (w.contents b) item.0) k) (logged_chunk ws b k)) cancels
                ∙ sym (found_cancel w ws b k (ap (λ o. is_some o && (length (unwrap_or o []) == 0)) item.1 ∙ cancels))
            | inr some ↦ item_said form w ws b k item.0 (has item.0 k) p item.1 some refl
          ]
    ]

-- what is read of the texts of a log says what the log says
pub said_found : (form : Form) (log : List CheckpointText) (b k : ℕ) → Each (IsWellFormed form) log → chunk_in_texts (map entries_of log) b k ≡ logged_chunk log b k
said_found form [] b k all = refl
said_found form (w ∷ ws) b k all = ap (chunk_over (entry_of b (entries_of w)) k) (said_found form ws b k all.1) ∙ one_said form w ws b k all.0
