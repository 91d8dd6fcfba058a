-- One step of the reader's loop, and its ends.
use Rattle.std.proofs.Common.{◌≡◌, ◌∙◌, ℕ, ◌+◌, ◌-◌, ◌<◌, ◌≤◌, Bool, true, false, List, [], ◌++◌, length, take, drop, Option, Some, None, Result, Ok, Err, sym, ap, subst, arith, append_assoc}
use Rattle.std.specs.Prelude.{IfOk, IsNone}
use Rattle.std.proofs.lemmas.List.{take-append-drop, take-take, drop-take, length-take-le, length-drop}
use Rattle.xt_ckpt.specs.Grammar.{Entry, IsTextIn, entries}
use Rattle.xt_ckpt.specs.Drafts.{IsAfter}
use Rattle.xt_ckpt.specs.Fields.{Draft, Reads, IsUnfinished, IsFaultAt, opening, width, after}
use Rattle.xt_ckpt.specs.Laws.{AreBytes}
use Rattle.xt_ckpt.specs.Reading.{BeginsNoText, IsJudged, IsReadAs}
use Rattle.xt_ckpt.specs.declared.draft.Draft.{Draft as Stored}
use Rattle.xt_ckpt.specs.declared.draft.Field.TheVariants as Field
use Rattle.xt_ckpt.specs.declared.reading.Checkpoint.{Checkpoint}
use Rattle.xt_ckpt.specs.declared.reading.ReadFault.{ReadFault}
use Rattle.xt_ckpt.proofs.Ways.{reads_more}
use Rattle.xt_ckpt.proofs.Stands.{AreBytes-left, Stands, has_width}
use Rattle.xt_ckpt.proofs.ReadsText.{ready}
use Rattle.xt_ckpt.proofs.OneText.{unfinished_none, fault_none, same_text}

-- nothing is read yet
pub opened : (d : Draft) → d ≡ opening → Reads opening [] d
opened d e = subst (λ z. Reads opening [] z) (sym e) (Reads.nothing opening)

-- the front of bytes is bytes
front_bytes : (input : List ℕ) (at : ℕ) → AreBytes input → AreBytes (take at input)
front_bytes input at is = AreBytes-left (take at input) (drop at input) (subst AreBytes (sym (take-append-drop at input)) is)

-- the next field has a byte
pub positive : (d : Draft) (input : List ℕ) (at : ℕ) → AreBytes input → Reads opening (take at input) d → (d.next ≡ Field.Nothing → ⊥) → 0 < width d.next
positive d input at is way more = has_width d.next d (take at input) (ready d (take at input) (front_bytes input at is) way) more

-- the input ends within the next field
pub unfinished_at : (d : Draft) (input : List ℕ) (at : ℕ) → Reads opening (take at input) d → length input - at < width d.next → IsUnfinished input
unfinished_at d input at way short = record {
  draft = d;
  front = take at input;
  rest = drop at input;
  parts = sym (take-append-drop at input);
  reads = way;
  short = omega (arith, length-drop at input);
}

-- the next field breaks its rule
pub fault_at : (d : Draft) (input : List ℕ) (at w : ℕ) → Reads opening (take at input) d → w ≡ width d.next → 0 < w → at + w ≤ length input → after d (take w (drop at input)) ≡ None → IsFaultAt at input
fault_at d input at w way is some within broken = record {
  draft = d;
  front = take at input;
  bytes = take w (drop at input);
  rest = drop w (drop at input);
  parts = sym (take-append-drop at input) ∙ ap (λ z. take at input ++ z) (sym (take-append-drop w (drop at input))) ∙ sym (append_assoc (take at input) (take w (drop at input)) (drop w (drop at input)));
  place = sym (length-take-le at input (omega arith));
  reads = way;
  more = omega arith;
  whole = length-take-le w (drop at input) (omega (arith, length-drop at input)) ∙ is;
  broken = broken;
}

-- the next field obeys its rule
pub field_at : (d e : Draft) (input : List ℕ) (at w : ℕ) → Reads opening (take at input) d → w ≡ width d.next → at + w ≤ length input → after d (take w (drop at input)) ≡ Some e → Reads opening (take (at + w) input) e
field_at d e input at w way is within goes =
    let longer : take at input ++ take w (drop at input) ≡ take (at + w) input =
    ap (λ z. z ++ take w (drop at input)) (sym (take-take at (at + w) input (omega arith))) ∙ ap (λ z. take at (take (at + w) input) ++ z) (sym (drop-take at w input)) ∙ take-append-drop at (take (at + w) input) in
    subst (λ z. Reads opening z e) longer (reads_more opening d e (take at input) (take w (drop at input)) way (length-take-le w (drop at input) (omega (arith, length-drop at input)) ∙ is) goes)

-- the bytes of a field, as a range of the input
field_bytes : (input : List ℕ) (at w : ℕ) → take (at + w - at) (drop at input) ≡ take w (drop at input)
field_bytes input at w = let n : at + w - at ≡ w = omega arith in ap (λ k. take k (drop at input)) n

-- a field that was accepted
pub accepted : (b : Bool) (d e : Draft) (input : List ℕ) (at w : ℕ) → b ≡ true → IsAfter b e (after d (take (at + w - at) (drop at input))) → after d (take w (drop at input)) ≡ Some e
accepted b d e input at w so h =
    ap (after d) (sym (field_bytes input at w)) ∙ subst (λ t. IsAfter t e (after d (take (at + w - at) (drop at input)))) so h

-- a field that was not
pub refused : (b : Bool) (d e : Draft) (input : List ℕ) (at w : ℕ) → b ≡ false → IsAfter b e (after d (take (at + w - at) (drop at input))) → after d (take w (drop at input)) ≡ None
refused b d e input at w not_so h =
    ap (after d) (sym (field_bytes input at w)) ∙ subst (λ t. IsAfter t e (after d (take (at + w - at) (drop at input)))) not_so h

-- all fields are read
pub whole_at : (d : Draft) (input : List ℕ) (at : ℕ) → AreBytes input → Reads opening (take at input) d → d.next ≡ Field.Nothing → IsTextIn d.size (take at input) d.number d.items
whole_at d input at is way ends = subst (λ f. Stands f d (take at input)) ends (ready d (take at input) (front_bytes input at is) way)

-- the text of a draft is that of its checkpoint
pub begins : (text : List ℕ) (d : Stored) (made : Checkpoint) → made.size ≡ d.size → made.no ≡ d.number → made.items.items ≡ d.items.items → IsTextIn d.size text d.number (entries d.items.items) → IsTextIn made.size text made.no (entries made.items.items)
begins text d made size number items is =
    subst (λ s. IsTextIn s text made.no (entries made.items.items)) (sym size)
    (subst (λ n. IsTextIn d.size text n (entries made.items.items)) (sym number) (subst (λ i. IsTextIn d.size text d.number (entries i)) (sym items) is))

-- a text that begins the input is the one that is read
pub read_as : (input : List ℕ) (r : Result (Option (Checkpoint × ℕ)) ReadFault) → IsJudged input r → (size : Option ℕ) (text more : List ℕ) (number : ℕ) (items : List Entry) → IsTextIn size text number items → input ≡ text ++ more
    → IsReadAs size number items (length text) r
read_as input (Ok (Some found)) judged size text more number items is same =
    let one = same_text found.0.size size (take found.1 input) text (drop found.1 input) more found.0.no number (entries found.0.items.items) items judged.1 is (take-append-drop found.1 input ∙ same) in
    (one.1, one.2, one.3, sym (length-take-le found.1 input judged.0) ∙ ap length one.0)
read_as input (Ok None) judged size text more number items is same = unfinished_none input judged size text more number items is same
read_as input (Err (ReadFault.Ckpt fault)) judged size text more number items is same = fault_none fault.at input judged size text more number items is same
read_as input (Err ReadFault.Memory) judged size text more number items is same = tt

-- nothing is read only where no text begins
pub none_read : (input : List ℕ) (r : Result (Option (Checkpoint × ℕ)) ReadFault) → IsJudged input r → IfOk r (λ o. IsNone o → BeginsNoText input × IsUnfinished input)
none_read input (Ok (Some found)) judged = λ none. absurd cc
none_read input (Ok None) judged = λ _. (unfinished_none input judged, judged)
none_read input (Err fault) judged = tt
