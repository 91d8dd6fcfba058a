-- What stands before each field, as the grammar says it.
use Rattle.std.proofs.Common.{Option, true, ◌≡◌, ◌∙◌, ℕ, suc, ◌+◌, ◌^◌, ◌<◌, ◌≤◌, List, [], ◌∷◌, ◌++◌, length, sym, ap, refl, subst, arith, append_assoc, inl, inr}
use Rattle.std.specs.Int.{from_be_bytes, to_be_bytes, w32, w64}
use Rattle.std.specs.Prelude.{codes}
use Rattle.std.proofs.lemmas.Bool.{cases_lt}
use Rattle.std.proofs.lemmas.List.{append-nil, get_or_append_left, get_or-append-add, get_or_past}
use Rattle.std.proofs.lemmas.Nat.{be_bytes_4, be_bytes_8}
use Rattle.xt_base.specs.Chunks.{places_of, word_of}
use Rattle.xt_base.specs.ChunkWords.{word_back}
use Rattle.xt_base.specs.Form.{is_size}
use Rattle.xt_ckpt.specs.Grammar.{Entry, end_of, head_of, map_limit, start_of, IsItem, AreItems, IsTextIn}
use Rattle.xt_ckpt.specs.Fields.{Draft, width}
use Rattle.xt_ckpt.specs.Laws.{AreBytes}
use Rattle.xt_ckpt.specs.declared.draft.Field.{Field}

-- each of the front is below 256
pub AreBytes-left : (a b : List ℕ) → AreBytes (a ++ b) → AreBytes a
AreBytes-left a b h i =
    elim (cases_lt i (length a)) [
      | inl lt ↦ subst (λ n. n < 256) (get_or_append_left a b 0 i lt) (h i)
      | inr le ↦ subst (λ n. n < 256) (sym (get_or_past a i 0 le)) (omega arith)
    ]

-- and so is each behind it
pub AreBytes-right : (a b : List ℕ) → AreBytes (a ++ b) → AreBytes b
AreBytes-right a b h i = subst (λ n. n < 256) (get_or-append-add a b i 0) (h (length a + i))

-- four bytes are those of their number
pub four_back : (f : List ℕ) (n : ℕ) → length f ≡ 4 → AreBytes f → from_be_bytes w32 f ≡ n → f ≡ to_be_bytes w32 n
four_back f n len is e = sym (be_bytes_4 f n len is (sym e))

-- and it is below 2 ^ 32
pub four_below : (f : List ℕ) → AreBytes f → from_be_bytes w32 f < 2 ^ 32
four_below f is = omega (arith, is 0, is 1, is 2, is 3)

-- eight bytes are those of their number
pub eight_back : (f : List ℕ) (n : ℕ) → length f ≡ 8 → AreBytes f → from_be_bytes w64 f ≡ n → f ≡ to_be_bytes w64 n
eight_back f n len is e = sym (be_bytes_8 f n len is (sym e))

-- and it is below 2 ^ 64
pub eight_below : (f : List ℕ) → AreBytes f → from_be_bytes w64 f < 2 ^ 64
eight_below f is = omega (arith, is 0, is 1, is 2, is 3, is 4, is 5, is 6, is 7)

-- the least block behind some items
abbrev pub least_behind : ℕ → List Entry → ℕ
least_behind least [] = least
least_behind least (e ∷ es) = least_behind (suc e.block) es

-- one item more
pub items_more : (size : Option ℕ) (least : ℕ) (bytes here : List ℕ) (es : List Entry) (e : Entry) → AreItems size least bytes es → least_behind least es ≤ e.block → IsItem size here e
    → AreItems size least (bytes ++ here) (es ++ e ∷ [])
items_more size least bytes here [] e is above item = (here, [], ap (λ z. z ++ here) is ∙ sym (append-nil here), above, item, refl)
items_more size least bytes here (o ∷ es) e is above item =
    (is.0, is.1 ++ here, ap (λ z. z ++ here) is.2 ∙ append_assoc is.0 is.1 here, is.3, is.4, items_more size (suc o.block) is.1 here es e is.5 above item)

-- the least block behind one item more
pub least_more : (least : ℕ) (es : List Entry) (e : Entry) → least_behind least (es ++ e ∷ []) ≡ suc e.block
least_more least [] e = refl
least_more least (o ∷ es) e = least_more (suc o.block) es e

-- the front is a number, a count, some items, and a tail
pub record Holds (size : Option ℕ) (number count : ℕ) (items : List Entry) (least : ℕ) (front tail : List ℕ) : Type 0 where
  pub sized : is_size size ≡ true
  pub first : 1 ≤ number
  pub range : number < 2 ^ 64
  pub some : 1 ≤ count
  pub few : count ≤ 64
  pub body : List ℕ
  pub each : AreItems size 0 body items
  pub above : least ≡ least_behind 0 items
  pub parts : front ≡ head_of size number count ++ body ++ tail

-- a longer tail
pub holds_more : (size : Option ℕ) (number count : ℕ) (items : List Entry) (least : ℕ) (front tail f g : List ℕ) → Holds size number count items least front tail → f ≡ g → Holds size number count items least (front ++ f) (tail ++ g)
holds_more size number count items least front tail f g h e = record {
  sized = h.sized;
  first = h.first;
  range = h.range;
  some = h.some;
  few = h.few;
  body = h.body;
  each = h.each;
  above = h.above;
  parts = ap (λ z. z ++ f) h.parts ∙ append_assoc (head_of size number count ++ h.body) tail f ∙ ap (λ z. head_of size number count ++ h.body ++ (tail ++ z)) e;
}

-- the tail is one item more
pub holds_item : (size : Option ℕ) (number count : ℕ) (items : List Entry) (least : ℕ) (front tail : List ℕ) (e : Entry) → Holds size number count items least front tail → least ≤ e.block → IsItem size tail e
    → Holds size number count (items ++ e ∷ []) (suc e.block) front []
holds_item size number count items least front tail e h above item = record {
  sized = h.sized;
  first = h.first;
  range = h.range;
  some = h.some;
  few = h.few;
  body = h.body ++ tail;
  each = items_more size 0 h.body tail items e h.each (subst (λ l. l ≤ e.block) h.above above) item;
  above = sym (least_more 0 items e);
  parts = h.parts ∙ append_assoc (head_of size number count) h.body tail ∙ sym (append-nil (head_of size number count ++ (h.body ++ tail)));
}

-- what stands before a field
abbrev pub Stands : Field → Draft → List ℕ → Type 0
Stands Field.Start d front = (front ≡ []) × (d.items ≡ []) × (d.least ≡ 0)
Stands Field.Number d front = (front ≡ start_of d.size) × (d.items ≡ []) × (d.least ≡ 0)
Stands Field.Count d front = (front ≡ start_of d.size ++ to_be_bytes w64 d.number) × (d.items ≡ []) × (d.least ≡ 0) × (1 ≤ d.number) × (d.number < 2 ^ 64)
Stands Field.Size d front =
    (front ≡ codes "XCP2" ++ to_be_bytes w64 d.number ++ to_be_bytes w32 d.count) × (d.items ≡ []) × (d.least ≡ 0) × (1 ≤ d.number) × (d.number < 2 ^ 64) × (1 ≤ d.count) × (d.count ≤ 64)
Stands Field.Block d front = Holds d.size d.number d.count d.items d.least front [] × (length d.items < d.count)
Stands (Field.Map block) d front = Holds d.size d.number d.count d.items d.least front (to_be_bytes w64 block) × (length d.items < d.count) × (d.least ≤ block) × (block < 2 ^ 64)
Stands (Field.Flag block bits) d front =
    Holds d.size d.number d.count d.items d.least front (to_be_bytes w64 block ++ to_be_bytes w32 bits) × (length d.items < d.count) × (d.least ≤ block) × (block < 2 ^ 64) × (bits < 2 ^ 32) × (bits < map_limit d.size)
Stands (Field.Content block bits) d front =
    Holds d.size d.number d.count d.items d.least front (to_be_bytes w64 block ++ to_be_bytes w32 bits ++ to_be_bytes w32 0) × (length d.items < d.count) × (d.least ≤ block) × (block < 2 ^ 64) × (bits < 2 ^ 32) × (0 < bits) × (bits < map_limit d.size)
Stands Field.End d front = Holds d.size d.number d.count d.items d.least front [] × (length d.items ≡ d.count)
Stands Field.EndCount d front = Holds d.size d.number d.count d.items d.least front (end_of d.size) × (length d.items ≡ d.count)
Stands Field.EndNumber d front = Holds d.size d.number d.count d.items d.least front (end_of d.size ++ to_be_bytes w32 d.count) × (length d.items ≡ d.count)
Stands Field.Nothing d front = IsTextIn d.size front d.number d.items

-- a map that is not 0 has a chunk
pub some_chunk : (bits : ℕ) (set : List ℕ) → 0 < bits → word_of set ≡ bits → 0 < length set
some_chunk bits [] h e = absurd (omega (arith, e))
some_chunk bits (k ∷ set) h e = omega arith

-- each field has a byte
pub has_width : (f : Field) (d : Draft) (front : List ℕ) → Stands f d front → (f ≡ Field.Nothing → ⊥) → 0 < width f
has_width Field.Start d front h more = omega arith
has_width Field.Number d front h more = omega arith
has_width Field.Count d front h more = omega arith
has_width Field.Size d front h more = omega arith
has_width Field.Block d front h more = omega arith
has_width (Field.Map block) d front h more = omega arith
has_width (Field.Flag block bits) d front h more = omega arith
has_width (Field.Content block bits) d front h more = let some = some_chunk bits (places_of bits) h.5 (word_back bits h.4) in omega arith
has_width Field.End d front h more = omega arith
has_width Field.EndCount d front h more = omega arith
has_width Field.EndNumber d front h more = omega arith
has_width Field.Nothing d front h more = absurd (more refl)
