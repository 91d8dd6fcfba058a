-- What is written is a text of the grammar.
use Rattle.std.proofs.Common.{◌≡◌, ◌∙◌, ℕ, suc, ◌+◌, ◌*◌, ◌^◌, ◌<◌, ◌≤◌, All, false, true, Option, List, [], ◌∷◌, ◌++◌, length, map, take, get_or, sym, ap, refl, subst, arith, inl, inr}
use Rattle.std.specs.Int.{to_be_bytes, w32, w64}
use Rattle.std.specs.Prelude.{if◌then◌else◌, ◌==◌}
use Rattle.std.specs.List.{concat, flat_map, AllByRecursion}
use Rattle.std.proofs.lemmas.Bool.{cases_eq, ne_eqb}
use Rattle.std.proofs.lemmas.List.{append-nil, get_or-map, nil_from_length}
use Rattle.std.proofs.lemmas.List.Elements.{All-more, recursion_from_All}
use Rattle.xt_base.specs.Chunks.{places_of, word_of}
use Rattle.xt_base.specs.Sound.{RisesFromKeys}
use Rattle.xt_base.specs.Form.{is_size}
use Rattle.xt_base.specs.Text.{item_text, pieces}
use Rattle.xt_base.proofs.ChunkLemmas.{places_of-zero}
use Rattle.xt_ckpt.specs.Entries.{EntriesRise, Fits, IsStored, IsWhole, block_at, chunks_at, entries_len, entries_text, entry_bytes}
use Rattle.xt_ckpt.proofs.Entries.{some_entry}
use Rattle.xt_ckpt.proofs.Lengths.{length_either, text_parts}
use Rattle.xt_ckpt.proofs.Pieces.{concat_pieces, few}
use Rattle.xt_ckpt.specs.Grammar.{Entry, map_limit, IsItem, AreItems, IsTextIn}

-- a set that is not empty has a word that is not 0
some_word : (k : ℕ) (set : List ℕ) → places_of (word_of (k ∷ set)) ≡ k ∷ set → 0 < word_of (k ∷ set)
some_word k set back =
    elim (cases_eq (word_of (k ∷ set)) 0) [
      | inl e ↦ let none : [] ≡ k ∷ set = sym places_of-zero ∙ ap places_of (sym e) ∙ back in absurd cc
      | inr ne ↦ omega (arith, ne)
    ]

-- the text of one item
pub item_is : (size : Option ℕ) (block : ℕ) (set content : List ℕ) → block < 2 ^ 64 → word_of set < 2 ^ 32 → places_of (word_of set) ≡ set → length content ≡ 128 * length set → word_of set < map_limit size
    → IsItem size (item_text block set content) (record { block = block; chunks = set; content = content })
item_is size block [] content range word back form fits =
    let none : content ≡ [] = nil_from_length content form in
    inl (record { block = range; chunks = refl; content = none; fields = ap (λ c. to_be_bytes w64 block ++ to_be_bytes w32 0 ++ to_be_bytes w32 1 ++ c) none ∙ append-nil (to_be_bytes w64 block ++ to_be_bytes w32 0 ++ to_be_bytes w32 1) })
item_is size block (k ∷ set) content range word back form fits =
    let some : (length (k ∷ set) == 0) ≡ false = ne_eqb (length (k ∷ set)) 0 (λ e. omega arith) in
    inr (record {
      block = range;
      bits = word_of (k ∷ set);
      some = some_word k set back;
      word = word;
      within = fits;
      chunks = sym back;
      content = form;
      fields = ap (λ t. to_be_bytes w64 block ++ to_be_bytes w32 (word_of (k ∷ set)) ++ to_be_bytes w32 (if t then 1 else 0) ++ content) some;
    })

-- the word of an item's set says how it is kept
pub is_stored : (item : Entry) (word : ℕ) → item.block < 2 ^ 64 → word < 2 ^ 32 → word ≡ word_of item.chunks → places_of word ≡ item.chunks → IsStored item
is_stored item word range below is back = record { block = range; word = subst (λ w. w < 2 ^ 32) is below; back = ap places_of (sym is) ∙ back }

-- so do the block and the set that an entry is asked for
pub stored_more : (es : List Entry) (i word : ℕ) → i < length es → block_at es i < 2 ^ 64 → word < 2 ^ 32 → word ≡ word_of (chunks_at es i) → places_of word ≡ chunks_at es i → All IsStored (take i es) → All IsStored (take (i + 1) es)
stored_more es i word h range below is back before =
    let e = some_entry es i h in
    let block = get_or-map (λ (x : Entry). x.block) es i e 0 h in
    let chunks = get_or-map (λ (x : Entry). x.chunks) es i e [] h in
    All-more IsStored es i e h before (is_stored (get_or es i e) word (subst (λ b. b < 2 ^ 64) block range) below (is ∙ ap word_of chunks) (back ∙ chunks))

-- the texts of items
items_are : (size : Option ℕ) (least : ℕ) (items : List Entry) → AllByRecursion IsStored items → AllByRecursion IsWhole items → AllByRecursion (Fits size) items → RisesFromKeys least (map (λ i. i.block) items) → AreItems size least (flat_map entry_bytes items) items
items_are size least [] stored form fits rises = refl
items_are size least (i ∷ is) stored form fits rises =
    (entry_bytes i, flat_map entry_bytes is, refl, rises.0, item_is size i.block i.chunks i.content stored.0.block stored.0.word stored.0.back form.0 fits.0, items_are size (suc i.block) is stored.1 form.1 fits.1 rises.1)

-- the text of a checkpoint
pub text_is : (size : Option ℕ) (number : ℕ) (items : List Entry) → is_size size ≡ true → All (Fits size) items → 1 ≤ number → number < 2 ^ 64 → 1 ≤ length items → length items ≤ 64 → All IsStored items → All IsWhole items → EntriesRise items
    → IsTextIn size (entries_text size number items) number items
text_is size number items sized fits first range some few stored form rises =
    record {
      sized = sized;
      first = first;
      range = range;
      some = some;
      few = few;
      body = flat_map entry_bytes items;
      each = items_are size 0 items (recursion_from_All IsStored items stored) (recursion_from_All IsWhole items form) (recursion_from_All (Fits size) items fits) rises;
      fields = text_parts size number (length items) (flat_map entry_bytes items);
    }

-- so are its pieces together
pub is_text : (size : Option ℕ) (number : ℕ) (items : List Entry) (cut : List (List ℕ)) → cut ≡ pieces (entries_text size number items) → is_size size ≡ true → All (Fits size) items → 1 ≤ number → number < 2 ^ 64 → 1 ≤ length items → length items ≤ 64 → All IsStored items → All IsWhole items → EntriesRise items
    → IsTextIn size (concat cut) number items
is_text size number items cut e sized fits first range some many stored form rises =
    subst (λ t. IsTextIn size t number items) (sym (ap concat e ∙ concat_pieces (entries_text size number items))) (text_is size number items sized fits first range some many stored form rises)

-- and there are at most 65 of them
pub are_few : (size : Option ℕ) (number : ℕ) (items : List Entry) (cut : List (List ℕ)) → cut ≡ pieces (entries_text size number items) → entries_len items ≤ 263200 → All IsWhole items → length cut ≤ 65
are_few size number items cut e cost form = subst (λ ps. length ps ≤ 65) (sym e) (few (entries_text size number items) (omega (arith, cost, length_either size number items form)))
