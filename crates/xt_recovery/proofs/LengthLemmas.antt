-- A text of the grammar has as many bytes as its items cost.
use Rattle.std.proofs.Common.{◌≡◌, ◌∙◌, ◌+◌, ◌*◌, ◌≤◌, ◌∷◌, List, None, Option, Some, [], ap, arith, drop, length, refl, subst, sym, ℕ}
use Rattle.std.proofs.lemmas.List.{length-append, length-drop, length-take-le}
use Rattle.std.proofs.lemmas.List.Concat.{flat_map-cons}
use Rattle.std.proofs.lemmas.List.Sums.{sum_by-cons}
use Rattle.std.specs.Prelude.{flat_map, sum_by}
use Rattle.xt_base.proofs.CostLemmas.{cost-some}
use Rattle.xt_base.specs.Form.{Form, form_of}
use Rattle.xt_base.specs.Sized.{IsWithin}
use Rattle.xt_base.specs.Sound.{Each}
use Rattle.xt_base.specs.Space.{cost, item_cost}
use Rattle.xt_base.specs.Text.{chunk, chunk_bytes, item_text, text_in}
use Rattle.xt_recovery.proofs.Formed.{IsWellFormed}
use Rattle.xt_recovery.specs.Log.{CheckpointText, text_bytes}

-- a chunk that a block has is 128 bytes
pub length_chunk : (size : ℕ) (content : List ℕ) (k : ℕ) → length content ≡ size → 128 * k + 128 ≤ size → length (chunk content k) ≡ 128
length_chunk size content k whole fits = length-take-le 128 (drop (128 * k) content) (omega (arith, whole, fits, length-drop (128 * k) content))

-- the bytes of the chunks of a set
pub length_bytes : (size : ℕ) (content set : List ℕ) → length content ≡ size → IsWithin size set → length (chunk_bytes content set) ≡ 128 * length set
length_bytes size content [] whole within = refl
length_bytes size content (c ∷ cs) whole within =
    let one = length_chunk size content c whole within.0 in
    let rest = length_bytes size content cs whole within.1 in
    ap length (flat_map-cons (chunk content) c cs) ∙ length-append (chunk content c) (chunk_bytes content cs) ∙ omega (arith, one, rest)

-- an item takes 16 bytes, and its chunks
length_item : (block : ℕ) (set bytes : List ℕ) → length (item_text block set bytes) ≡ 16 + length bytes
length_item block set bytes = omega arith

-- the items take what they cost
length_items : (size : ℕ) (contents : ℕ → List ℕ) (items : List (ℕ × List ℕ)) → ((b : ℕ) → length (contents b) ≡ size) → Each (λ e. IsWithin size e.1) items
    → length (flat_map (λ e. item_text e.0 e.1 (chunk_bytes (contents e.0) e.1)) items) ≡ sum_by item_cost items
length_items size contents [] whole within = refl
length_items size contents (e ∷ es) whole within =
    let text : ℕ × List ℕ → List ℕ = λ x. item_text x.0 x.1 (chunk_bytes (contents x.0) x.1) in
    length-append (text e) (flat_map text es)
    ∙ omega (arith, length_item e.0 e.1 (chunk_bytes (contents e.0) e.1), length_bytes size (contents e.0) e.1 (whole e.0) within.0, length_items size contents es whole within.1)
    ∙ sym (sum_by-cons item_cost e es)

-- a text takes what its form has beside the items, and the items
length_in : (size : Option ℕ) (number count : ℕ) (items : List ℕ) → length (text_in (form_of size) number count items) ≡ (form_of size).ends + length items
length_in None number count items = grind (arith, length-append)
length_in (Some size) number count items = grind (arith, length-append)

-- so it has as many bytes as its items cost
pub text_cost : (form : Form) (w : CheckpointText) → IsWellFormed form w → length (text_bytes form w) ≡ cost form.ends w.items
text_cost form w h =
    let items : List ℕ = flat_map (λ e. item_text e.0 e.1 (chunk_bytes (w.contents e.0) e.1)) w.items in
    let said = h.said in
    let some = h.some in
    subst (λ (f : Form). length (text_in f w.number (length w.items) items) ≡ f.ends + length items) said.2 (length_in said.0 w.number (length w.items) items)
    ∙ ap (λ n. form.ends + n) (length_items form.size w.contents w.items h.whole h.within) ∙ sym (cost-some form.ends w.items (omega (arith, some)))
