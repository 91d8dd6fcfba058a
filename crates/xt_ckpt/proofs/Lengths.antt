-- The bytes of items, and how long a text is.
use Rattle.std.proofs.Common.{◌≡◌, ◌∙◌, ℕ, ◌+◌, List, [], ◌∷◌, ◌++◌, ◌≤◌, None, Option, Some, length, sym, ap, refl, arith, append_assoc, sum_by, All}
use Rattle.std.specs.List.{flat_map, AllByRecursion}
use Rattle.std.specs.Int.{to_be_bytes, w32, w64}
use Rattle.std.specs.Prelude.{codes, if◌then◌else◌, ◌==◌}
use Rattle.std.proofs.lemmas.List.{length-append}
use Rattle.std.proofs.lemmas.List.Elements.{recursion_from_All}
use Rattle.std.proofs.lemmas.List.Sums.{sum_by-cons}
use Rattle.xt_base.specs.Chunks.{word_of}
use Rattle.xt_base.specs.Form.{form_of}
use Rattle.xt_base.specs.Text.{item_text, sized_text_with, text_in, text_with}
use Rattle.xt_ckpt.proofs.Entries.{all_entries, same_cost, same_text}
use Rattle.xt_ckpt.specs.Entries.{IsWhole, entries_len, entries_text, entry_bytes, entry_len}
use Rattle.xt_ckpt.specs.Grammar.{Entry, end_of, entries, head_of}
use Rattle.xt_ckpt.specs.declared.item.Item.{Item}
use Rattle.xt_ckpt.specs.Items.{checkpoint_text, checkpoint_len, HasForm, checkpoint_text_in}

-- four parts behind what stands there are one part behind it
regroup : (old a b c d : List ℕ) → (((old ++ a) ++ b) ++ c) ++ d ≡ old ++ (((a ++ b) ++ c) ++ d)
regroup old a b c d = simp append_assoc

-- the four fields of an item, one put behind another
pub item_put : (old one two three four set content : List ℕ) (block word flag : ℕ)
    → one ≡ old ++ to_be_bytes w64 block → word ≡ word_of set → two ≡ one ++ to_be_bytes w32 word
    → flag ≡ (if length set == 0 then 1 else 0) → three ≡ two ++ to_be_bytes w32 flag → four ≡ three ++ content
    → four ≡ old ++ item_text block set content
item_put old one two three four set content block word flag e1 ew e2 ef e3 e4 =
    e4
    ∙ ap (λ x. x ++ content) (e3 ∙ ap (λ x. x ++ to_be_bytes w32 flag) (e2 ∙ ap (λ x. x ++ to_be_bytes w32 word) e1))
    ∙ regroup old (to_be_bytes w64 block) (to_be_bytes w32 word) (to_be_bytes w32 flag) content
    ∙ ap (λ w. old ++ (to_be_bytes w64 block ++ to_be_bytes w32 w ++ to_be_bytes w32 flag ++ content)) ew
    ∙ ap (λ f. old ++ (to_be_bytes w64 block ++ to_be_bytes w32 (word_of set) ++ to_be_bytes w32 f ++ content)) ef

-- an item takes 16 bytes, and its content
length-item : (block : ℕ) (set content : List ℕ) → length (item_text block set content) ≡ 16 + length content
length-item block set content = omega arith

-- the items take what they cost
pub length-entries : (es : List Entry) → AllByRecursion IsWhole es → length (flat_map entry_bytes es) ≡ sum_by entry_len es
length-entries [] whole = refl
length-entries (e ∷ es) whole =
    let rest = length-entries es whole.1 in
    let here = length-item e.block e.chunks e.content in
    length-append (entry_bytes e) (flat_map entry_bytes es) ∙ omega (arith, rest, here, whole.0) ∙ sym (sum_by-cons entry_len e es)

-- a text is 32 bytes longer than its items
length-text_with : (number count : ℕ) (body : List ℕ) → length (text_with number count body) ≡ 32 + length body
length-text_with number count body =
    let end = codes "XCE1" in
    let words = to_be_bytes w32 count in
    let last = to_be_bytes w64 number in
    let a = length-append (body ++ end ++ words) last in
    let b = length-append (body ++ end) words in
    let d = length-append body end in
    omega (arith, a, b, d)

-- and one that says the size of a block is 36 longer
length-sized_text_with : (size number count : ℕ) (body : List ℕ) → length (sized_text_with size number count body) ≡ 36 + length body
length-sized_text_with size number count body =
    let end = codes "XCE2" in
    let words = to_be_bytes w32 count in
    let last = to_be_bytes w64 number in
    let a = length-append (body ++ end ++ words) last in
    let b = length-append (body ++ end) words in
    let d = length-append body end in
    omega (arith, a, b, d)

-- the length of a text is its cost
length_plain : (number : ℕ) (es : List Entry) → All IsWhole es → length (entries_text None number es) ≡ entries_len es
length_plain number es whole =
    length-text_with number (length es) (flat_map entry_bytes es)
    ∙ ap (λ n. 32 + n) (length-entries es (recursion_from_All IsWhole es whole))

-- and 4 more where it says the size of a block
length_more : (size number : ℕ) (es : List Entry) → All IsWhole es → length (entries_text (Some size) number es) ≡ entries_len es + 4
length_more size number es whole =
    let plain = length-entries es (recursion_from_All IsWhole es whole) in
    length-sized_text_with size number (length es) (flat_map entry_bytes es) ∙ omega (arith, plain)

-- so it has at most 4 more
pub length_either : (size : Option ℕ) (number : ℕ) (es : List Entry) → All IsWhole es → length (entries_text size number es) ≤ entries_len es + 4
length_either None number es whole = omega (arith, length_plain number es whole)
length_either (Some size) number es whole = omega (arith, length_more size number es whole)

-- the same of items
pub length_text : (number : ℕ) (items : List Item) → All HasForm items → length (checkpoint_text number items) ≡ checkpoint_len items
length_text number items form =
    ap length (sym (same_text None number items)) ∙ length_plain number (entries items) (all_entries IsWhole items form) ∙ ap (λ n. 32 + n) (same_cost items)

pub length_sized : (size number : ℕ) (items : List Item) → All HasForm items → length (checkpoint_text_in (Some size) number items) ≡ checkpoint_len items + 4
length_sized size number items form =
    ap length (sym (same_text (Some size) number items)) ∙ length_more size number (entries items) (all_entries IsWhole items form) ∙ ap (λ n. 32 + n + 4) (same_cost items)

-- the parts of a text
pub text_parts : (size : Option ℕ) (number count : ℕ) (body : List ℕ) → text_in (form_of size) number count body ≡ head_of size number count ++ body ++ end_of size ++ to_be_bytes w32 count ++ to_be_bytes w64 number
text_parts None number count body = refl
text_parts (Some size) number count body = refl
