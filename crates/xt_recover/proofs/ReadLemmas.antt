-- What is read of the bytes of a log.
use mathlib.Core.List.{reverse_aux}
use Rattle.std.proofs.Common.{append_assoc, ◌≡◌, ◌∙◌, ◌^◌, ◌+◌, ◌≤◌, ◌∷◌, ◌++◌, List, Option, Some, [], ap, arith, inl, inr, length, map, refl, subst, suc, sym, true, ℕ}
use Rattle.std.proofs.lemmas.Bool.{cases_Bool, leb-false, leb-true}
use Rattle.std.proofs.lemmas.List.{drop-append-le, length-append, length-map, take-append-drop, take-append-le}
use Rattle.std.proofs.lemmas.List.Concat.{flat_map-cons}
use Rattle.std.proofs.Math.Seq.{drop-append_seam}
use Rattle.std.specs.Int.{to_be_bytes, w32, w64}
use Rattle.std.specs.List.{flat_map}
use Rattle.std.specs.Prelude.{drop, nat_le, take, ◌<◌}
use Rattle.xt_base.proofs.RisingLemmas.{each_map}
use Rattle.xt_base.specs.ChunkWords.{word_back}
use Rattle.xt_base.specs.Chunks.{places_of, word_of}
use Rattle.xt_base.specs.Maps.{at}
use Rattle.xt_base.specs.Form.{Form, form_of, is_size}
use Rattle.xt_base.specs.Sized.{IsWithin}
use Rattle.xt_base.specs.Sound.{Each, RisesFrom}
use Rattle.xt_base.specs.Text.{chunk_bytes, item_text}
use Rattle.xt_ckpt.proofs.Lengths.{text_parts}
use Rattle.xt_ckpt.proofs.OneText.{same_text, unfinished_none}
use Rattle.xt_ckpt.proofs.TextReads.{text_reads}
use Rattle.xt_ckpt.proofs.Written.{item_is}
use Rattle.xt_ckpt.specs.Fields.{Draft, IsUnfinished, Reads, opening, width}
use Rattle.xt_ckpt.specs.Grammar.{AreItems, Entry, IsItem, IsTextIn, end_of, head_of, map_limit}
use Rattle.xt_ckpt.specs.Laws.{whole}
use Rattle.xt_recover.proofs.TextEntries.{entries_of}
use Rattle.xt_recover.proofs.SizeLemmas.{map_fits, said_back}
use Rattle.xt_recover.specs.Promise.{bytes_of_log}
use Rattle.xt_recover.specs.Reading.{ReadsAs}
use Rattle.xt_recover.specs.Sizes.{block_size, said_size}
use Rattle.xt_recovery.proofs.LengthLemmas.{length_bytes}
use Rattle.xt_recovery.proofs.MatchLemmas.{each_entry}
use Rattle.xt_recovery.proofs.Formed.{FitsFields, IsChunkSet, IsVolumeForm, IsWellFormed}
use Rattle.xt_recovery.specs.Log.{CheckpointText, text_bytes}

-- ---- a text is one of the grammar
-- an item that fits its fields
fit_item : (size : Option ℕ) (contents : ℕ → List ℕ) (b : ℕ) (set : List ℕ) → FitsFields b set → IsWithin (block_size size) set → length (contents b) ≡ block_size size
    → IsItem size (item_text b set (chunk_bytes (contents b) set)) (record { block = b; chunks = set; content = chunk_bytes (contents b) set })
fit_item size contents b set fit within whole_ =
    let is : IsChunkSet set = fit.1 in
    let word : word_of set ≡ is.0 = ap word_of is.2 ∙ word_back is.0 is.1 in
    let small : word_of set < 2 ^ 32 = subst (λ (n : ℕ). n < 2 ^ 32) (sym word) is.1 in
    let map_ : word_of set < map_limit size = subst (λ (n : ℕ). n < map_limit size) (sym word) (map_fits size is.0 is.1 (subst (IsWithin (block_size size)) is.2 within)) in
    item_is size b set (chunk_bytes (contents b) set) fit.0 small (ap places_of word ∙ sym is.2) (length_bytes (block_size size) (contents b) set whole_ within) map_

items_are : (size : Option ℕ) (contents : ℕ → List ℕ) (least : ℕ) (items : List (ℕ × List ℕ)) → ((b : ℕ) → length (contents b) ≡ block_size size) → RisesFrom least items → Each (λ e. FitsFields e.0 e.1) items
    → Each (λ e. IsWithin (block_size size) e.1) items
    → AreItems size least (flat_map (λ e. item_text e.0 e.1 (chunk_bytes (contents e.0) e.1)) items) (map (λ e. record { block = e.0; chunks = e.1; content = chunk_bytes (contents e.0) e.1 }) items)
items_are size contents least [] whole_ rises fit within = refl
items_are size contents least (e ∷ es) whole_ rises fit within = (
  item_text e.0 e.1 (chunk_bytes (contents e.0) e.1),
  flat_map (λ x. item_text x.0 x.1 (chunk_bytes (contents x.0) x.1)) es,
  flat_map-cons (λ x. item_text x.0 x.1 (chunk_bytes (contents x.0) x.1)) e es,
  rises.0,
  fit_item size contents e.0 e.1 fit.0 within.0 (whole_ e.0),
  items_are size contents (suc e.0) es whole_ rises.1 fit.1 within.1,
)

-- a proper text of a size, or of none, is read as its entries
is_text_of : (size : Option ℕ) (w : CheckpointText) → is_size size ≡ true → IsWellFormed (form_of size) w → IsTextIn size (text_bytes (form_of size) w) w.number (entries_of w)
is_text_of size w one_of p =
    let count : length (entries_of w) ≡ length w.items = length-map w.items (λ e. record { block = e.0; chunks = e.1; content = chunk_bytes (w.contents e.0) e.1 }) in
    let fit : Each (λ e. FitsFields e.0 e.1) w.items = each_map (λ e. at e.0 w.items ≡ Some e.1) (λ e. FitsFields e.0 e.1) w.items (λ e is. p.fit e.0 e.1 is) (each_entry 0 w.items p.rising) in
    let body : List ℕ = flat_map (λ e. item_text e.0 e.1 (chunk_bytes (w.contents e.0) e.1)) w.items in
    let some = p.some in
    let few = p.few in
    record {
      sized = one_of;
      first = p.first;
      range = p.range;
      some = omega (arith, count, some);
      few = omega (arith, count, few);
      body = body;
      each = items_are size w.contents 0 w.items p.whole p.rising fit p.within;
      fields = text_parts size w.number (length w.items) body ∙ ap (λ n. head_of size w.number n ++ body ++ end_of size ++ to_be_bytes w32 n ++ to_be_bytes w64 w.number) (sym count);
    }

-- and so is one of a form
pub is_text : (form : Form) (w : CheckpointText) → IsWellFormed form w → IsTextIn (said_size form) (text_bytes form w) w.number (entries_of w)
is_text form w p =
    let said : IsVolumeForm form = p.said in
    let size : Option ℕ = said.0 in
    let own : IsWellFormed (form_of size) w = subst (λ (f : Form). IsWellFormed f w) (sym said.2) p in
    subst (λ (f : Form). IsTextIn (said_size f) (text_bytes f w) w.number (entries_of w)) said.2
    (subst (λ s. IsTextIn s (text_bytes (form_of size) w) w.number (entries_of w)) (sym (said_back size)) (is_text_of size w said.1 own))

-- ---- a beginning of a text
-- fields that lead on, cut short
pub record IsCutIn (d : Draft) (front : List ℕ) : Type 0 where
  pub draft : Draft
  pub read : List ℕ
  pub rest : List ℕ
  pub parts : front ≡ read ++ rest
  pub reads : Reads d read draft
  pub short : length rest < width draft.next

reads_cut : (d last : Draft) (bytes front more : List ℕ) → Reads d bytes last → bytes ≡ front ++ more → 0 < length more → IsCutIn d front
reads_cut d last bytes front more (Reads.nothing e) same some =
    let none : 0 ≡ length front + length more = ap length same ∙ length-append front more in
    absurd (omega (arith, none, some))
reads_cut d last bytes front more (Reads.field e mid l field rest len goes way) same some =
    elim (cases_Bool (nat_le (length field) (length front))) [
      | inl within ↦
          let fits : length field ≤ length front = leb-true (length field) (length front) within in
          let left : List ℕ = drop (length field) front in
          let behind : rest ≡ left ++ more = sym (drop-append_seam field rest) ∙ ap (drop (length field)) same ∙ drop-append-le (length field) front more fits in
          let start : field ≡ take (length field) front = sym (take_whole field rest) ∙ ap (take (length field)) same ∙ take-append-le (length field) front more fits in
          let cut = reads_cut mid l rest left more way behind some in
          record {
            draft = cut.draft;
            read = field ++ cut.read;
            rest = cut.rest;
            parts = sym (take-append-drop (length field) front) ∙ ap (λ xs. xs ++ left) (sym start) ∙ ap (λ xs. field ++ xs) cut.parts ∙ sym (append_assoc field cut.read cut.rest);
            reads = Reads.field e mid cut.draft field cut.read len goes cut.reads;
            short = cut.short;
          }
      | inr beyond ↦ record { draft = e; read = []; rest = front; parts = refl; reads = Reads.nothing e; short = omega (arith, leb-false (length field) (length front) beyond, len) }
    ]
  where
    take_whole : (xs ys : List ℕ) → take (length xs) (xs ++ ys) ≡ xs
    take_whole [] ys = refl
    take_whole (x ∷ xs) ys = ap (λ zs. x ∷ zs) (take_whole xs ys)

-- a beginning of a text that is not all of it is no text yet
pub beginning_unfinished : (size : Option ℕ) (text front more : List ℕ) (number : ℕ) (items : List Entry) → IsTextIn size text number items → text ≡ front ++ more → 0 < length more → IsUnfinished front
beginning_unfinished size text front more number items is same some =
    let way = text_reads size text number items is in
    let cut = reads_cut opening (whole size number items way.0) text front more way.1 same some in
    record { draft = cut.draft; front = cut.read; rest = cut.rest; parts = cut.parts; reads = cut.reads; short = cut.short }

pub nothing_unfinished : IsUnfinished []
nothing_unfinished = record { draft = opening; front = []; rest = []; parts = refl; reads = Reads.nothing opening; short = omega arith }

-- ---- a whole log
-- a log is read in one way, whatever its texts are said to say
pub read_once : (f g : Option ℕ) (bytes : List ℕ) (ts us : List (List Entry)) → ReadsAs f bytes ts → ReadsAs g bytes us → ts ≡ us
read_once f g bytes [] [] ht hu = refl
read_once f g bytes [] (u ∷ us) ht hu = absurd (unfinished_none bytes ht g hu.0 hu.1 hu.2 u hu.3 hu.4)
read_once f g bytes (t ∷ ts) [] ht hu = absurd (unfinished_none bytes hu f ht.0 ht.1 ht.2 t ht.3 ht.4)
read_once f g bytes (t ∷ ts) (u ∷ us) ht hu =
    let same = same_text f g ht.0 hu.0 ht.1 hu.1 ht.2 hu.2 t u ht.3 hu.3 (sym ht.4 ∙ hu.4) in
    let behind : ht.1 ≡ hu.1 = sym (drop-append_seam ht.0 ht.1) ∙ ap (drop (length ht.0)) (sym ht.4 ∙ hu.4) ∙ ap (λ xs. drop (length xs) (hu.0 ++ hu.1)) same.0 ∙ drop-append_seam hu.0 hu.1 in
    ap (λ x. x ∷ ts) same.3 ∙ ap (λ xs. u ∷ xs) (read_once f g ht.1 ts us ht.5 (subst (λ xs. ReadsAs g xs us) (sym behind) hu.5))

-- where it has a text, that says one thing of the size of a block
pub size_once : (f g : Option ℕ) (bytes : List ℕ) (ts us : List (List Entry)) → ReadsAs f bytes ts → ReadsAs g bytes us → 1 ≤ length us → g ≡ f
size_once f g bytes ts [] ht hu some = absurd (omega (arith, some))
size_once f g bytes [] (u ∷ us) ht hu some = absurd (unfinished_none bytes ht g hu.0 hu.1 hu.2 u hu.3 hu.4)
size_once f g bytes (t ∷ ts) (u ∷ us) ht hu some =
    let same = same_text f g ht.0 hu.0 ht.1 hu.1 ht.2 hu.2 t u ht.3 hu.3 (sym ht.4 ∙ hu.4) in
    sym same.1

-- the texts of a log are read before what is behind them
pub reads_log : (form : Form) (log : List CheckpointText) (bytes : List ℕ) (ts : List (List Entry)) → Each (IsWellFormed form) log → ReadsAs (said_size form) bytes ts
    → ReadsAs (said_size form) (bytes_of_log form log ++ bytes) (reverse_aux (map entries_of log) ts)
reads_log form [] bytes ts all h = h
reads_log form (w ∷ ws) bytes ts all h =
    subst (λ xs. ReadsAs (said_size form) xs (reverse_aux (map entries_of ws) (entries_of w ∷ ts))) (sym (append_assoc (bytes_of_log form ws) (text_bytes form w) bytes))
    (reads_log form ws (text_bytes form w ++ bytes) (entries_of w ∷ ts) all.1 (text_bytes form w, bytes, w.number, is_text form w all.0, refl, h))
