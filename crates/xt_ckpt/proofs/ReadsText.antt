-- What is read, field by field, is a text of the grammar.
use Rattle.std.proofs.Common.{◌≡◌, ◌∙◌, ℕ, suc, ◌*◌, ◌^◌, ◌<◌, ◌≤◌, Bool, true, false, List, [], ◌∷◌, ◌++◌, length, None, Option, Some, sym, ap, refl, subst, arith, append_assoc, inl, inr, eqb-true, leb-true, ne_eqb, zero}
use Rattle.std.specs.Int.{from_be_bytes, to_be_bytes, w32, w64}
use Rattle.std.specs.Prelude.{codes, nat_le, nat_lt, ◌==◌, ◌&&◌, if◌then◌else◌}
use Rattle.std.proofs.lemmas.Bool.{cases_Bool, cases_eq, ltb-true}
use Rattle.std.proofs.lemmas.List.{append-nil, length_push}
use Rattle.xt_base.specs.Chunks.{places_of}
use Rattle.xt_base.specs.Form.{is_size}
use Rattle.xt_base.proofs.ChunkLemmas.{places_of-zero}
use Rattle.xt_ckpt.specs.Grammar.{Entry, end_of, head_of, map_limit, start_of, IsCancel, IsLogged, AreItems, IsTextIn}
use Rattle.xt_ckpt.specs.Fields.{Draft, Reads, opening, width, after_field, provided, at_body, at_item, start_rule, with_item, start_word, end_word}
use Rattle.xt_ckpt.specs.Laws.{AreBytes, whole}
use Rattle.xt_ckpt.specs.declared.draft.Field.{Field}
use Rattle.xt_ckpt.proofs.TextReads.{block_next, end_next}
use Rattle.xt_ckpt.proofs.Stands.{AreBytes-left, AreBytes-right, four_back, four_below, eight_back, eight_below, Holds, holds_more, holds_item, Stands, least_behind}

-- a rule that held, and where it led
provided_some : (test : Bool) (d e : Draft) → provided test d ≡ Some e → (test ≡ true) × (d ≡ e)
provided_some true d e h = (refl, cc)
provided_some false d e h = absurd cc

-- two tests that hold
both_true : (a b : Bool) → (a && b) ≡ true → (a ≡ true) × (b ≡ true)
both_true true b h = (refl, h)
both_true false b h = absurd cc

-- what an option has is one
some_is : (d e : Draft) (o : Option Draft) → o ≡ Some d → o ≡ Some e → d ≡ e
some_is d e o h k = cc

-- what stands before a field, for the draft that is said to be there
abbrev Ready : Draft → List ℕ → Type 0
Ready d front = Stands d.next d front

-- behind the count and behind each item
ready_item : (d : Draft) (front : List ℕ) → Holds d.size d.number d.count d.items d.least front [] → length d.items ≤ d.count → Ready (at_item d) front
ready_item d front h le =
    elim (cases_eq (length d.items) d.count) [
      | inl e ↦ subst (λ z. Ready z front) (sym (end_next d e)) (h, e)
      | inr ne ↦ subst (λ z. Ready z front) (sym (block_next d (omega (arith, ne)))) (h, omega (arith, ne))
    ]

-- the first word, and what stands behind it
start_on : (d e : Draft) (front f : List ℕ) → Stands Field.Start d front → length f ≡ 4 → AreBytes f → after_field Field.Start f d ≡ Some e → Ready e (front ++ f)
start_on d e front f h len is goes =
    let w = from_be_bytes w32 f in
    elim (cases_Bool (w == start_word None)) [
      | inl plain ↦
          let to : record d { size = None; next = Field.Number } ≡ e =
          some_is (record d { size = None; next = Field.Number }) e (start_rule w d) (ap (λ t. if t then Some (record d { size = None; next = Field.Number }) else provided (w == start_word (Some 0)) (record d { size = Some 0; next = Field.Number })) plain) goes in
          subst (λ z. Ready z (front ++ f)) to (ap (λ z. z ++ f) h.0 ∙ four_back f (start_word None) len is (eqb-true _ _ plain), h.1, h.2)
      | inr other ↦
          let rule : start_rule w d ≡ provided (w == start_word (Some 0)) (record d { size = Some 0; next = Field.Number }) =
          ap (λ t. if t then Some (record d { size = None; next = Field.Number }) else provided (w == start_word (Some 0)) (record d { size = Some 0; next = Field.Number })) other in
          let p = provided_some (w == start_word (Some 0)) (record d { size = Some 0; next = Field.Number }) e (sym rule ∙ goes) in
          subst (λ z. Ready z (front ++ f)) p.1 (ap (λ z. z ++ f) h.0 ∙ four_back f (start_word (Some 0)) len is (eqb-true _ _ p.0), h.1, h.2)
    ]

-- the number
number_on : (d e : Draft) (front f : List ℕ) → Stands Field.Number d front → length f ≡ 8 → AreBytes f → after_field Field.Number f d ≡ Some e → Ready e (front ++ f)
number_on d e front f h len is goes =
    let n = from_be_bytes w64 f in
    let p = provided_some (nat_le 1 n) (record d { number = n; next = Field.Count }) e goes in
    subst (λ z. Ready z (front ++ f)) p.1 (ap (λ z. z ++ f) h.0 ∙ ap (λ z. start_of d.size ++ z) (eight_back f n len is refl), h.1, h.2, leb-true 1 n p.0, eight_below f is)

-- a front with no item yet
holds_none : (size : Option ℕ) (d : Draft) (front : List ℕ) → is_size size ≡ true → front ≡ head_of size d.number d.count → d.items ≡ [] → d.least ≡ 0 → 1 ≤ d.number → d.number < 2 ^ 64 → 1 ≤ d.count → d.count ≤ 64
    → Holds size d.number d.count d.items d.least front []
holds_none size d front is fields items least first range some few = record {
  sized = is;
  first = first;
  range = range;
  some = some;
  few = few;
  body = [];
  each = subst (λ es. AreItems size 0 [] es) (sym items) refl;
  above = least ∙ ap (λ es. least_behind 0 es) (sym items);
  parts = fields ∙ sym (append-nil (head_of size d.number d.count)) ∙ sym (append-nil (head_of size d.number d.count ++ []));
}

-- behind the count
ready_body : (size : Option ℕ) (d : Draft) (front : List ℕ) → d.size ≡ size → front ≡ start_of size ++ to_be_bytes w64 d.number ++ to_be_bytes w32 d.count → d.items ≡ [] → d.least ≡ 0 → 1 ≤ d.number → d.number < 2 ^ 64 → 1 ≤ d.count → d.count ≤ 64
    → Ready (at_body size d) front
ready_body None d front is fields items least first range some few =
    let none : length d.items ≡ 0 = ap length items in
    let holds = holds_none None d front refl fields items least first range some few in
    ready_item d front (subst (λ s. Holds s d.number d.count d.items d.least front []) (sym is) holds) (omega arith)
ready_body (Some n) d front is fields items least first range some few = (fields, items, least, first, range, some, few)

-- the count of items
count_on : (d e : Draft) (front f : List ℕ) → Stands Field.Count d front → length f ≡ 4 → AreBytes f → after_field Field.Count f d ≡ Some e → Ready e (front ++ f)
count_on d e front f h len is goes =
    let n = from_be_bytes w32 f in
    let p = provided_some (nat_le 1 n && nat_le n 64) (at_body d.size (record d { count = n })) e goes in
    let tests = both_true (nat_le 1 n) (nat_le n 64) p.0 in
    let fields : front ++ f ≡ start_of d.size ++ to_be_bytes w64 d.number ++ to_be_bytes w32 n = ap (λ z. z ++ f) h.0 ∙ ap (λ z. start_of d.size ++ to_be_bytes w64 d.number ++ z) (four_back f n len is refl) in
    subst (λ z. Ready z (front ++ f)) p.1 (ready_body d.size (record d { count = n }) (front ++ f) refl fields h.1 h.2 h.3 h.4 (leb-true 1 n tests.0) (leb-true n 64 tests.1))

-- the size of a block
size_on : (d e : Draft) (front f : List ℕ) → Stands Field.Size d front → length f ≡ 4 → AreBytes f → after_field Field.Size f d ≡ Some e → Ready e (front ++ f)
size_on d e front f h len is goes =
    let n = from_be_bytes w32 f in
    let p = provided_some (is_size (Some n)) (at_item (record d { size = Some n })) e goes in
    let fields : front ++ f ≡ head_of (Some n) d.number d.count = ap (λ z. z ++ f) h.0 ∙ ap (λ z. codes "XCP2" ++ to_be_bytes w64 d.number ++ to_be_bytes w32 d.count ++ z) (four_back f n len is refl) in
    let none : length d.items ≡ 0 = ap length h.1 in
    subst (λ z. Ready z (front ++ f)) p.1
    (ready_item (record d { size = Some n }) (front ++ f) (holds_none (Some n) (record d { size = Some n }) (front ++ f) p.0 fields h.1 h.2 h.3 h.4 h.5 h.6) (omega arith))

-- the block of an item
block_on : (d e : Draft) (front f : List ℕ) → Stands Field.Block d front → length f ≡ 8 → AreBytes f → after_field Field.Block f d ≡ Some e → Ready e (front ++ f)
block_on d e front f h len is goes =
    let b = from_be_bytes w64 f in
    let p = provided_some (nat_le d.least b) (record d { next = Field.Map b }) e goes in
    subst (λ z. Ready z (front ++ f)) p.1
    (holds_more d.size d.number d.count d.items d.least front [] f (to_be_bytes w64 b) h.0 (eight_back f b len is refl), h.1, leb-true d.least b p.0, eight_below f is)

-- the map of its chunks
map_on : (b : ℕ) (d e : Draft) (front f : List ℕ) → Stands (Field.Map b) d front → length f ≡ 4 → AreBytes f → after_field (Field.Map b) f d ≡ Some e → Ready e (front ++ f)
map_on b d e front f h len is goes =
    let bits = from_be_bytes w32 f in
    let p = provided_some (nat_lt bits (map_limit d.size)) (record d { next = Field.Flag b bits }) e goes in
    subst (λ z. Ready z (front ++ f)) p.1
    (holds_more d.size d.number d.count d.items d.least front (to_be_bytes w64 b) f (to_be_bytes w32 bits) h.0 (four_back f bits len is refl), h.1, h.2, h.3, four_below f is, ltb-true bits (map_limit d.size) p.0)

-- the flag of a cancel, which is whole with it
cancel_on : (b bits : ℕ) (d e : Draft) (front f : List ℕ) → bits ≡ 0 → Stands (Field.Flag b bits) d front → length f ≡ 4 → AreBytes f → after_field (Field.Flag b bits) f d ≡ Some e → Ready e (front ++ f)
cancel_on b bits d e front f none h len is goes =
    let goes0 : after_field (Field.Flag b 0) f d ≡ Some e = subst (λ m. after_field (Field.Flag b m) f d ≡ Some e) none goes in
    let p = provided_some (from_be_bytes w32 f == 1) (with_item b 0 [] d) e goes0 in
    let made : Entry = record { block = b; chunks = places_of 0; content = [] } in
    let tail : List ℕ = to_be_bytes w64 b ++ to_be_bytes w32 bits ++ to_be_bytes w32 1 in
    let more = holds_more d.size d.number d.count d.items d.least front (to_be_bytes w64 b ++ to_be_bytes w32 bits) f (to_be_bytes w32 1) h.0 (four_back f 1 len is (eqb-true _ _ p.0)) in
    let item : IsCancel tail made = record { block = h.3; chunks = places_of-zero; content = refl; fields = ap (λ m. to_be_bytes w64 b ++ to_be_bytes w32 m ++ to_be_bytes w32 1) none } in
    let next : Draft = record d { items = d.items ++ made ∷ []; least = suc b } in
    let holds = holds_item d.size d.number d.count d.items d.least (front ++ f) tail made more h.2 (inl item) in
    subst (λ z. Ready z (front ++ f)) p.1 (ready_item next (front ++ f) holds (omega (arith, length_push d.items made)))

-- the flag of logged chunks
flag_on : (b bits : ℕ) (d e : Draft) (front f : List ℕ) → 0 < bits → Stands (Field.Flag b bits) d front → length f ≡ 4 → AreBytes f → after_field (Field.Flag b bits) f d ≡ Some e → Ready e (front ++ f)
flag_on b bits d e front f some h len is goes =
    let other : (bits == 0) ≡ false = ne_eqb bits 0 (λ z. omega arith) in
    let rule : after_field (Field.Flag b bits) f d ≡ provided (from_be_bytes w32 f == 0) (record d { next = Field.Content b bits }) =
    ap (λ t. provided (from_be_bytes w32 f == (if t then 1 else 0)) (if t then with_item b 0 [] d else record d { next = Field.Content b bits })) other in
    let p = provided_some (from_be_bytes w32 f == 0) (record d { next = Field.Content b bits }) e (sym rule ∙ goes) in
    subst (λ z. Ready z (front ++ f)) p.1
    (holds_more d.size d.number d.count d.items d.least front (to_be_bytes w64 b ++ to_be_bytes w32 bits) f (to_be_bytes w32 0) h.0 (four_back f 0 len is (eqb-true _ _ p.0)), h.1, h.2, h.3, h.4, some, h.5)

-- the bytes of the chunks, with which an item is whole
content_on : (b bits : ℕ) (d e : Draft) (front f : List ℕ) → Stands (Field.Content b bits) d front → length f ≡ 128 * length (places_of bits) → after_field (Field.Content b bits) f d ≡ Some e → Ready e (front ++ f)
content_on b bits d e front f h len goes =
    let p : with_item b bits f d ≡ e = some_is (with_item b bits f d) e (after_field (Field.Content b bits) f d) refl goes in
    let made : Entry = record { block = b; chunks = places_of bits; content = f } in
    let tail : List ℕ = to_be_bytes w64 b ++ to_be_bytes w32 bits ++ to_be_bytes w32 0 ++ f in
    let more = holds_more d.size d.number d.count d.items d.least front (to_be_bytes w64 b ++ to_be_bytes w32 bits ++ to_be_bytes w32 0) f f h.0 refl in
    let item : IsLogged d.size tail made = record { block = h.3; bits = bits; some = h.5; word = h.4; within = h.6; chunks = refl; content = len; fields = refl } in
    let next : Draft = record d { items = d.items ++ made ∷ []; least = suc b } in
    let holds = holds_item d.size d.number d.count d.items d.least (front ++ f) tail made more h.2 (inr item) in
    subst (λ z. Ready z (front ++ f)) p (ready_item next (front ++ f) holds (omega (arith, length_push d.items made)))

-- four bytes that are the last word
end_back : (size : Option ℕ) (f : List ℕ) → length f ≡ 4 → AreBytes f → from_be_bytes w32 f ≡ end_word size → f ≡ end_of size
end_back None f len is e = four_back f (end_word None) len is e
end_back (Some n) f len is e = four_back f (end_word (Some n)) len is e

-- the word behind the items
end_on : (d e : Draft) (front f : List ℕ) → Stands Field.End d front → length f ≡ 4 → AreBytes f → after_field Field.End f d ≡ Some e → Ready e (front ++ f)
end_on d e front f h len is goes =
    let p = provided_some (from_be_bytes w32 f == end_word d.size) (record d { next = Field.EndCount }) e goes in
    subst (λ z. Ready z (front ++ f)) p.1 (holds_more d.size d.number d.count d.items d.least front [] f (end_of d.size) h.0 (end_back d.size f len is (eqb-true _ _ p.0)), h.1)

-- the count again
end_count_on : (d e : Draft) (front f : List ℕ) → Stands Field.EndCount d front → length f ≡ 4 → AreBytes f → after_field Field.EndCount f d ≡ Some e → Ready e (front ++ f)
end_count_on d e front f h len is goes =
    let p = provided_some (from_be_bytes w32 f == d.count) (record d { next = Field.EndNumber }) e goes in
    subst (λ z. Ready z (front ++ f)) p.1 (holds_more d.size d.number d.count d.items d.least front (end_of d.size) f (to_be_bytes w32 d.count) h.0 (four_back f d.count len is (eqb-true _ _ p.0)), h.1)

-- three parts behind a front are one
three_parts : (front a b c : List ℕ) → front ++ (a ++ b ++ c) ≡ front ++ a ++ b ++ c
three_parts front a b c = simp append_assoc

-- a front that holds its items and the whole end is a text
holds_text : (size : Option ℕ) (number count : ℕ) (items : List Entry) (least : ℕ) (front : List ℕ) → Holds size number count items least front (end_of size ++ to_be_bytes w32 count ++ to_be_bytes w64 number) → length items ≡ count → IsTextIn size front number items
holds_text size number count items least front h all =
    let body_fields : front ≡ head_of size number count ++ h.body ++ end_of size ++ to_be_bytes w32 count ++ to_be_bytes w64 number =
    h.parts ∙ three_parts (head_of size number count ++ h.body) (end_of size) (to_be_bytes w32 count) (to_be_bytes w64 number) in
    record {
      sized = h.sized;
      first = h.first;
      range = h.range;
      some = omega (arith, h.some);
      few = omega (arith, h.few);
      body = h.body;
      each = h.each;
      fields = body_fields ∙ ap (λ n. head_of size number n ++ h.body ++ end_of size ++ to_be_bytes w32 n ++ to_be_bytes w64 number) (sym all);
    }

-- the number again, with which the text is whole
end_number_on : (d e : Draft) (front f : List ℕ) → Stands Field.EndNumber d front → length f ≡ 8 → AreBytes f → after_field Field.EndNumber f d ≡ Some e → Ready e (front ++ f)
end_number_on d e front f h len is goes =
    let p = provided_some (from_be_bytes w64 f == d.number) (record d { next = Field.Nothing }) e goes in
    let more = holds_more d.size d.number d.count d.items d.least front (end_of d.size ++ to_be_bytes w32 d.count) f (to_be_bytes w64 d.number) h.0 (eight_back f d.number len is (eqb-true _ _ p.0)) in
    subst (λ z. Ready z (front ++ f)) p.1 (holds_text d.size d.number d.count d.items d.least (front ++ f) more h.1)

-- each field that obeys its rule
field_on : (next : Field) (d e : Draft) (front f : List ℕ) → Stands next d front → length f ≡ width next → AreBytes f → after_field next f d ≡ Some e → Ready e (front ++ f)
field_on Field.Start d e front f h len is goes = start_on d e front f h len is goes
field_on Field.Number d e front f h len is goes = number_on d e front f h len is goes
field_on Field.Count d e front f h len is goes = count_on d e front f h len is goes
field_on Field.Size d e front f h len is goes = size_on d e front f h len is goes
field_on Field.Block d e front f h len is goes = block_on d e front f h len is goes
field_on (Field.Map b) d e front f h len is goes = map_on b d e front f h len is goes
field_on (Field.Flag b zero) d e front f h len is goes = cancel_on b 0 d e front f refl h len is goes
field_on (Field.Flag b (suc bits)) d e front f h len is goes = flag_on b (suc bits) d e front f (omega arith) h len is goes
field_on (Field.Content b bits) d e front f h len is goes = content_on b bits d e front f h len goes
field_on Field.End d e front f h len is goes = end_on d e front f h len is goes
field_on Field.EndCount d e front f h len is goes = end_count_on d e front f h len is goes
field_on Field.EndNumber d e front f h len is goes = end_number_on d e front f h len is goes
field_on Field.Nothing d e front f h len is goes = absurd cc

-- fields one after another
reads_ready : (d e : Draft) (front bytes : List ℕ) → Ready d front → AreBytes bytes → Reads d bytes e → Ready e (front ++ bytes)
reads_ready d e front bytes h is (Reads.nothing o) = subst (λ z. Ready o z) (sym (append-nil front)) h
reads_ready d e front bytes h is (Reads.field o m l f rest len goes way) =
    let here = field_on o.next o m front f h len (AreBytes-left f rest is) goes in
    subst (λ z. Ready l z) (append_assoc front f rest) (reads_ready m l (front ++ f) rest here (AreBytes-right f rest is) way)

-- what stands before the next field, wherever the reader is
pub ready : (e : Draft) (front : List ℕ) → AreBytes front → Reads opening front e → Stands e.next e front
ready e front is way = reads_ready opening e [] front (refl, refl, refl) is way

-- fields up to the end of a text are a text
pub reads_text : (size : Option ℕ) (bytes : List ℕ) (number : ℕ) (items : List Entry) → AreBytes bytes → (least : ℕ) → Reads opening bytes (whole size number items least) → IsTextIn size bytes number items
reads_text size bytes number items is least way = ready (whole size number items least) bytes is way
