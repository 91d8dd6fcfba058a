-- Items are their entries: what holds of the one list, holds of the other.
use Rattle.std.proofs.Common.{Option, ◌≡◌, ◌∙◌, ℕ, ◌+◌, ◌*◌, ◌<◌, ◌≤◌, All, List, [], ◌∷◌, ◌++◌, length, map, drop, get_or, sum_by, sym, ap, refl, arith, subst}
use Rattle.std.specs.List.{flat_map}
use Rattle.std.proofs.lemmas.List.{get_or-map, length-map}
use Rattle.std.proofs.lemmas.List.Elements.{All-cons, All-head, All-nil, All-tail}
use Rattle.std.proofs.lemmas.List.Sums.{sum_by-cons, sum_by-drop_more}
use Rattle.xt_base.specs.Form.{form_of}
use Rattle.xt_base.specs.Sound.{RisesFromKeys}
use Rattle.xt_base.specs.Text.{text_in}
use Rattle.xt_ckpt.specs.Entries.{EntriesRise, block_at, chunks_at, content_at, entries_text, entry_bytes, entry_len}
use Rattle.xt_ckpt.specs.Grammar.{Entry, entries, entry}
use Rattle.xt_ckpt.specs.Items.{BlocksRise, checkpoint_text_in, item_bytes, item_len}
use Rattle.xt_ckpt.specs.declared.item.Item.{Item}

-- an entry, where an index is below their count
pub some_entry : (es : List Entry) (i : ℕ) → i < length es → Entry
some_entry [] i h = absurd (omega arith)
some_entry (e ∷ es) i h = e

-- the cost of the entries from one on is that of this one, and of those behind it
pub cost_more : (es : List Entry) (i len here total : ℕ) → i < length es → here ≡ 16 + 128 * length (chunks_at es i) → len + sum_by entry_len (drop i es) ≡ total → len + here + sum_by entry_len (drop (i + 1) es) ≡ total
cost_more es i len here total h is before =
    let e = some_entry es i h in
    omega (arith, is, before, sum_by-drop_more entry_len es i e h, ap length (get_or-map (λ (x : Entry). x.chunks) es i e [] h))

-- one takes at least its fields
pub some_cost : (es : List Entry) (i : ℕ) → i < length es → 16 ≤ sum_by entry_len (drop i es)
some_cost es i h = omega (arith, sum_by-drop_more entry_len es i (some_entry es i h) h)

-- there are as many
pub entry_count : (items : List Item) → length (entries items) ≡ length items
entry_count items = length-map items entry

-- ---- the entry at an index
module _ (items : List Item) (i : ℕ) (item : Item) (h : i < length items) where
  pub block_is : block_at (entries items) i ≡ (get_or items i item).block
  block_is = get_or-map (λ (e : Entry). e.block) (entries items) i (entry item) 0 (omega (arith, entry_count items)) ∙ ap (λ (e : Entry). e.block) (get_or-map entry items i item (entry item) h)

  pub chunks_is : chunks_at (entries items) i ≡ (get_or items i item).chunks
  chunks_is = get_or-map (λ (e : Entry). e.chunks) (entries items) i (entry item) [] (omega (arith, entry_count items)) ∙ ap (λ (e : Entry). e.chunks) (get_or-map entry items i item (entry item) h)

  pub bytes_are : content_at (entries items) i ≡ (get_or items i item).content.items
  bytes_are = get_or-map (λ (e : Entry). e.content) (entries items) i (entry item) [] (omega (arith, entry_count items)) ∙ ap (λ (e : Entry). e.content) (get_or-map entry items i item (entry item) h)

-- ---- all of them
text_of_entries : (items : List Item) → flat_map entry_bytes (entries items) ≡ flat_map item_bytes items
text_of_entries [] = refl
text_of_entries (i ∷ is) = ap (λ xs. item_bytes i ++ xs) (text_of_entries is)

-- their text is that of the items
pub same_text : (size : Option ℕ) (number : ℕ) (items : List Item) → entries_text size number (entries items) ≡ checkpoint_text_in size number items
same_text size number items =
    ap (λ n. text_in (form_of size) number n (flat_map entry_bytes (entries items))) (entry_count items) ∙ ap (text_in (form_of size) number (length items)) (text_of_entries items)

-- they cost what the items cost
pub same_cost : (items : List Item) → sum_by entry_len (entries items) ≡ sum_by item_len items
same_cost [] = refl
same_cost (i ∷ is) = sum_by-cons entry_len (entry i) (entries is) ∙ ap (λ n. item_len i + n) (same_cost is) ∙ sym (sum_by-cons item_len i is)

-- what holds of the entry of each item holds of each entry
pub all_entries : (P : Entry → Type 0) (items : List Item) → All (λ (i : Item). P (entry i)) items → All P (entries items)
all_entries P [] all = All-nil P
all_entries P (i ∷ is) all = All-cons P (entry i) (entries is) (All-head (λ (x : Item). P (entry x)) i is all) (all_entries P is (All-tail (λ (x : Item). P (entry x)) i is all))

blocks_are : (items : List Item) → map (λ (e : Entry). e.block) (entries items) ≡ map (λ (i : Item). i.block) items
blocks_are [] = refl
blocks_are (i ∷ is) = ap (λ bs. i.block ∷ bs) (blocks_are is)

-- their blocks rise where those of the items do
pub entries_rise : (items : List Item) → BlocksRise items → EntriesRise (entries items)
entries_rise items rises = subst (RisesFromKeys 0) (sym (blocks_are items)) rises
