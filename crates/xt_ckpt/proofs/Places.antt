-- Places in a text: how much is left behind one, and how it goes on.
use Rattle.std.proofs.Common.{None, Option, Some, ◌≡◌, ◌∙◌, ℕ, ◌+◌, ◌-◌, ◌<◌, ◌≤◌, All, List, [], ◌++◌, length, get_or, take, drop, min, sum_by, sym, ap, refl, subst, arith, append_assoc, inl, inr}
use Rattle.std.specs.Int.{to_be_bytes, w32, w64}
use Rattle.std.specs.List.{flat_map}
use Rattle.std.specs.Prelude.{if◌then◌else◌}
use Rattle.std.proofs.lemmas.Bool.{cases_lt, lt-ltb, le-ltb}
use Rattle.std.proofs.lemmas.List.{append-nil, drop-drop, drop_all, drop_more, get_or-map, length-append, length-drop, length-take, take-append-drop}
use Rattle.std.proofs.lemmas.List.Elements.{All-drop, All-get_or, recursion_from_All}
use Rattle.std.proofs.lemmas.List.Sums.{sum_by-drop_more}
use Rattle.xt_ckpt.proofs.Entries.{some_entry}
use Rattle.xt_ckpt.specs.Entries.{IsWhole, block_at, chunks_at, content_at, entries_text, entry_bytes, entry_len}
use Rattle.xt_ckpt.specs.Grammar.{Entry, end_of, head_of, size_field}
use Rattle.xt_ckpt.specs.Pieces.{IsPart, behind, end_bytes, field_bytes, fields_at, from_item, from_place, front_bytes, item_or_end, next_part, part_bytes, part_len}
use Rattle.xt_ckpt.specs.declared.place.Ends.{Ends}
use Rattle.xt_ckpt.specs.declared.place.Part.{Part}
use Rattle.xt_ckpt.specs.declared.place.Place.{Place}
use Rattle.xt_ckpt.proofs.Lengths.{length-entries, text_parts}

-- the fields of the item at an index
pub fields_is : (items : List Entry) (i : ℕ) (item : Entry) → i < length items → fields_at items i ≡ field_bytes (get_or items i item).block (get_or items i item).chunks
fields_is items i item h = get_or-map (λ (x : Entry). field_bytes x.block x.chunks) items i item [] h

-- as they are asked for
pub fields_asked : (items : List Entry) (i : ℕ) → i < length items → field_bytes (block_at items i) (chunks_at items i) ≡ fields_at items i
fields_asked items i h =
    let item = some_entry items i h in
    ap (λ b. field_bytes b (chunks_at items i)) (get_or-map (λ (x : Entry). x.block) items i item 0 h)
    ∙ ap (field_bytes (get_or items i item).block) (get_or-map (λ (x : Entry). x.chunks) items i item [] h)
    ∙ sym (fields_is items i item h)

-- its bytes
pub content_is : (items : List Entry) (i : ℕ) (item : Entry) → i < length items → content_at items i ≡ (get_or items i item).content
content_is items i item h = get_or-map (λ (x : Entry). x.content) items i item [] h

head_is : (size : Option ℕ) (number count : ℕ) → length (head_of size number count) ≡ 16 + length (size_field size)
head_is None number count = refl
head_is (Some n) number count = refl

-- how long those behind them are
end_by : (size : Option ℕ) (number count : ℕ) → length (end_of size ++ to_be_bytes w32 count ++ to_be_bytes w64 number) ≡ 16
end_by None number count = refl
end_by (Some n) number count = refl

end_is : (ends : Ends) → length (end_bytes ends) ≡ 16
end_is ends = end_by ends.size ends.number ends.count

-- a text from its front on
five_parts : (h b e w n : List ℕ) → h ++ (b ++ (e ++ w ++ n)) ≡ h ++ b ++ e ++ w ++ n
five_parts h b e w n = simp append_assoc

pub whole_text : (size : Option ℕ) (number count : ℕ) (items : List Entry) → length items ≡ count
    → head_of size number count ++ (flat_map entry_bytes items ++ (end_of size ++ to_be_bytes w32 count ++ to_be_bytes w64 number)) ≡ entries_text size number items
whole_text size number count items is =
    subst (λ n. head_of size number n ++ (flat_map entry_bytes items ++ (end_of size ++ to_be_bytes w32 n ++ to_be_bytes w64 number)) ≡ entries_text size number items) is
    (five_parts (head_of size number (length items)) (flat_map entry_bytes items) (end_of size) (to_be_bytes w32 (length items)) (to_be_bytes w64 number)
    ∙ sym (text_parts size number (length items) (flat_map entry_bytes items)))

-- how long the fields before the items are
front_is : (ends : Ends) → length (front_bytes ends) ≡ 16 + length (size_field ends.size)
front_is ends = head_is ends.size ends.number ends.count

-- how long a part is
pub part_is : (ends : Ends) (items : List Entry) (part : Part) → IsPart (length items) part → length (part_bytes ends items part) ≡ part_len ends items part
part_is ends items Part.Front h = front_is ends
part_is ends items (Part.Fields i) h = ap length (fields_is items i (some_entry items i h) h)
part_is ends items (Part.Content i) h = refl
part_is ends items Part.End h = end_is ends
part_is ends items Part.Nothing h = refl

-- the items from one on take what they cost
length_from : (items : List Entry) (i : ℕ) → All IsWhole items → length (flat_map entry_bytes (drop i items)) ≡ sum_by entry_len (drop i items)
length_from items i form = length-entries (drop i items) (recursion_from_All IsWhole (drop i items) (All-drop IsWhole i items form))

-- how many bytes are left, by what the items cost
abbrev pub left_len : Ends → List Entry → ℕ → Part → ℕ
left_len ends items done Part.Front = 16 + length (size_field ends.size) - done + sum_by entry_len items + 16
left_len ends items done (Part.Fields i) = sum_by entry_len (drop i items) - done + 16
left_len ends items done (Part.Content i) = length (content_at items i) - done + sum_by entry_len (drop (i + 1) items) + 16
left_len ends items done Part.End = 16 - done
left_len ends items done Part.Nothing = 0

-- a part from `done` on, and what is behind it
length_behind : (done : ℕ) (part behind : List ℕ) → length (drop done part ++ behind) ≡ length part - done + length behind
length_behind done part behind = length-append (drop done part) behind ∙ ap (λ n. n + length behind) (length-drop done part)

-- the items from one on, and the end
length_from_item : (ends : Ends) (items : List Entry) (i : ℕ) → All IsWhole items → length (from_item ends items i) ≡ sum_by entry_len (drop i items) + 16
length_from_item ends items i form = length-append (flat_map entry_bytes (drop i items)) (end_bytes ends) ∙ omega (arith, end_is ends, length_from items i form)

-- that is what they are
pub left_is : (ends : Ends) (items : List Entry) (done : ℕ) (part : Part) → All IsWhole items → IsPart (length items) part → done ≤ part_len ends items part
    → left_len ends items done part ≡ length (drop done (part_bytes ends items part) ++ behind ends items part)
left_is ends items done Part.Front form is h = sym (length_behind done (front_bytes ends) (from_item ends items 0) ∙ omega (arith, front_is ends, length_from_item ends items 0 form))
left_is ends items done (Part.Fields i) form is h =
    let item = some_entry items i is in
    let fields = ap length (fields_is items i item is) in
    let content = ap length (content_is items i item is) in
    let whole = All-get_or IsWhole items i item is form in
    let more = length-append (content_at items i) (from_item ends items (i + 1)) in
    sym (length_behind done (fields_at items i) (content_at items i ++ from_item ends items (i + 1)) ∙ omega (arith, fields, content, whole, more, sum_by-drop_more entry_len items i item is, length_from_item ends items (i + 1) form))
left_is ends items done (Part.Content i) form is h = sym (length_behind done (content_at items i) (from_item ends items (i + 1)) ∙ omega (arith, end_is ends, length_from_item ends items (i + 1) form))
left_is ends items done Part.End form is h = sym (length_behind done (end_bytes ends) [] ∙ omega (arith, end_is ends))
left_is ends items done Part.Nothing form is h = sym (length_behind done [] [] ∙ omega arith)

-- some of the bytes that are left are put
pub put_some : (out new bytes left : List ℕ) (done n limit : ℕ) → left ≡ drop done bytes → new ≡ out ++ take n left → n < length left → n ≡ min (length left) (limit - length out) → length out ≤ limit → done ≤ length bytes
    → (new ++ drop (done + n) bytes ≡ out ++ drop done bytes) × (length new ≡ limit) × (done + n ≤ length bytes)
put_some out new bytes left done n limit is put less count room h =
    let rest : drop (done + n) bytes ≡ drop n left = sym (drop-drop n done bytes) ∙ ap (drop n) (sym is) in
    let text : new ++ drop (done + n) bytes ≡ out ++ drop done bytes =
    ap (λ x. x ++ drop (done + n) bytes) put ∙ ap (λ x. (out ++ take n left) ++ x) rest ∙ append_assoc out (take n left) (drop n left) ∙ ap (λ x. out ++ x) (take-append-drop n left ∙ is) in
    (text, omega (arith, ap length put, length-append out (take n left), length-take n left), omega (arith, ap length is, length-drop done bytes))

-- from the first part of an item on, or from the end, comes what a text has from that item on
item_goes_on : (ends : Ends) (items : List Entry) (i : ℕ) → i ≤ length items
    → part_bytes ends items (item_or_end (length items) i) ++ behind ends items (item_or_end (length items) i) ≡ from_item ends items i
item_goes_on ends items i h =
    elim (cases_lt i (length items)) [
      | inl less ↦
          let item = some_entry items i less in
          let here = get_or items i item in
          ap (λ t. part_bytes ends items (if t then Part.Fields i else Part.End) ++ behind ends items (if t then Part.Fields i else Part.End)) (lt-ltb i (length items) less)
          ∙ ap (λ f. f ++ (content_at items i ++ from_item ends items (i + 1))) (fields_is items i item less)
          ∙ ap (λ c. field_bytes here.block here.chunks ++ (c ++ from_item ends items (i + 1))) (content_is items i item less)
          ∙ sym (append_assoc (field_bytes here.block here.chunks) here.content (from_item ends items (i + 1)))
          ∙ sym (append_assoc (entry_bytes here) (flat_map entry_bytes (drop (i + 1) items)) (end_bytes ends))
          ∙ ap (λ is. flat_map entry_bytes is ++ end_bytes ends) (sym (drop_more items i item less))
      | inr more ↦
          ap (λ t. part_bytes ends items (if t then Part.Fields i else Part.End) ++ behind ends items (if t then Part.Fields i else Part.End)) (le-ltb i (length items) more)
          ∙ append-nil (end_bytes ends)
          ∙ ap (λ is. flat_map entry_bytes is ++ end_bytes ends) (sym (drop_all i items more))
    ]

-- the next part begins what is behind a part
pub goes_on : (ends : Ends) (items : List Entry) (part : Part) → IsPart (length items) part
    → part_bytes ends items (next_part (length items) part) ++ behind ends items (next_part (length items) part) ≡ behind ends items part
goes_on ends items Part.Front h = item_goes_on ends items 0 (omega arith)
goes_on ends items (Part.Fields i) h = refl
goes_on ends items (Part.Content i) h = item_goes_on ends items (i + 1) (omega arith)
goes_on ends items Part.End h = refl
goes_on ends items Part.Nothing h = refl

-- a part is given, and the text goes on behind it
pub part_given : (ends : Ends) (items : List Entry) (part next : Part) (done : ℕ) (out new : List ℕ) → IsPart (length items) part → next ≡ next_part (length items) part → new ≡ out ++ drop done (part_bytes ends items part)
    → new ++ (part_bytes ends items next ++ behind ends items next) ≡ out ++ (drop done (part_bytes ends items part) ++ behind ends items part)
part_given ends items part next done out new is goes put =
    ap (λ p. new ++ (part_bytes ends items p ++ behind ends items p)) goes
    ∙ ap (λ x. new ++ x) (goes_on ends items part is)
    ∙ ap (λ x. x ++ behind ends items part) put
    ∙ append_assoc out (drop done (part_bytes ends items part)) (behind ends items part)

-- some of a part is given, and the text goes on within it
pub part_goes_on : (ends : Ends) (items : List Entry) (part : Part) (done far : ℕ) (out new : List ℕ) → new ++ drop far (part_bytes ends items part) ≡ out ++ drop done (part_bytes ends items part)
    → new ++ (drop far (part_bytes ends items part) ++ behind ends items part) ≡ out ++ (drop done (part_bytes ends items part) ++ behind ends items part)
part_goes_on ends items part done far out new put =
    sym (append_assoc new (drop far (part_bytes ends items part)) (behind ends items part))
    ∙ ap (λ x. x ++ behind ends items part) put
    ∙ append_assoc out (drop done (part_bytes ends items part)) (behind ends items part)

-- what a text has from its front on
pub front_text : (ends : Ends) (items : List Entry) (place : Place) → place.part ≡ Part.Front → place.done ≡ 0 → from_place ends items place ≡ front_bytes ends ++ from_item ends items 0
front_text ends items place part done =
    ap (λ d. drop d (part_bytes ends items place.part) ++ behind ends items place.part) done ∙ ap (λ p. part_bytes ends items p ++ behind ends items p) part
