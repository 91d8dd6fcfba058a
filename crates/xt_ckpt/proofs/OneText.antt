-- At most one text begins an input, a list has one text, and no text begins where reading stops.
use Rattle.std.proofs.Common.{◌≡◌, ◌∙◌, ℕ, suc, List, [], ◌∷◌, ◌++◌, length, take, Option, Some, None, sym, ap, refl, arith, append_assoc, inl, inr, ◌⊎◌}
use Rattle.std.specs.Int.{to_be_bytes, w32, w64}
use Rattle.std.proofs.lemmas.List.{append-nil, append_cancel_left, take_at, length-append}
use Rattle.xt_base.specs.Chunks.{places_of, word_of}
use Rattle.xt_base.specs.ChunkWords.{word_back}
use Rattle.xt_ckpt.specs.Grammar.{Entry, end_of, head_of, IsItem, AreItems, IsTextIn}
use Rattle.xt_ckpt.specs.Fields.{Draft, Reads, IsUnfinished, IsFaultAt, opening, width, after}
use Rattle.xt_ckpt.specs.Laws.{whole}
use Rattle.xt_ckpt.specs.Reading.{BeginsNoText}
use Rattle.xt_ckpt.proofs.Ways.{one_way, whole_ends}
use Rattle.xt_ckpt.proofs.TextReads.{text_reads}
use Rattle.xt_ckpt.proofs.Stands.{some_chunk}

-- the first field of some bytes
record FirstField (d : Draft) (bytes : List ℕ) : Type 0 where
  front : List ℕ
  rest : List ℕ
  mid : Draft
  parts : bytes ≡ front ++ rest
  len : length front ≡ width d.next
  goes : after d front ≡ Some mid

-- there is none, or there is a first field
first_field : (d e : Draft) (bytes : List ℕ) → Reads d bytes e → (d ≡ e) ⊎ FirstField d bytes
first_field d e bytes (Reads.nothing o) = inl refl
first_field d e bytes (Reads.field o m l f rest len goes way) = inr (record { front = f; rest = rest; mid = m; parts = refl; len = len; goes = goes })

-- what is behind a front
behind : (front between more rest text input : List ℕ) → input ≡ front ++ rest → input ≡ text ++ more → text ≡ front ++ between → rest ≡ between ++ more
behind front between more rest text input p q e =
    append_cancel_left front rest (between ++ more) (sym p ∙ q ∙ ap (λ z. z ++ more) e ∙ append_assoc front between more)

-- a draft that goes on to a whole text goes on by a field, or is whole
on_to_text : (size : Option ℕ) (d : Draft) (front text rest more input : List ℕ) (number : ℕ) (items : List Entry) → Reads opening front d → input ≡ front ++ rest → IsTextIn size text number items → input ≡ text ++ more
    → (width d.next ≡ 0) ⊎ FirstField d rest
on_to_text size d front text rest more input number items way parts is same =
    let all = text_reads size text number items is in
    elim (one_way opening d (whole size number items all.0) front text rest more way all.1 (sym parts ∙ same)) [
      | inl w ↦ elim (first_field d (whole size number items all.0) w.between w.reads) [
        | inl e ↦ inl (ap (λ z. width z.next) e)
        | inr f ↦ inr (record { front = f.front; rest = f.rest ++ more; mid = f.mid; parts = behind front w.between more rest text input parts same w.parts ∙ ap (λ z. z ++ more) f.parts ∙ append_assoc f.front f.rest more; len = f.len; goes = f.goes })
      ]
      | inr w ↦ inl (ap (λ z. width z.next) (whole_ends (whole size number items all.0) d w.between refl w.reads).1)
    ]

-- no text begins what ends within a field
pub unfinished_none : (input : List ℕ) → IsUnfinished input → BeginsNoText input
unfinished_none input u size text more number items is same =
    elim (on_to_text size u.draft u.front text u.rest more input number items u.reads u.parts is same) [
      | inl e ↦ omega (arith, u.short)
      | inr f ↦ omega (arith, u.short, f.len, ap length f.parts, length-append f.front f.rest)
    ]

-- no text begins where a field breaks its rule
pub fault_none : (at : ℕ) (input : List ℕ) → IsFaultAt at input → BeginsNoText input
fault_none at input u size text more number items is same =
    elim (on_to_text size u.draft u.front text (u.bytes ++ u.rest) more input number items u.reads (u.parts ∙ append_assoc u.front u.bytes u.rest) is same) [
      | inl e ↦ omega (arith, u.more)
      | inr f ↦
          let alike : u.bytes ≡ f.front = sym (take_at u.bytes u.rest (width u.draft.next) u.whole) ∙ ap (take (width u.draft.next)) f.parts ∙ take_at f.front f.rest (width u.draft.next) f.len in
          let broken : after u.draft f.front ≡ None = ap (after u.draft) (sym alike) ∙ u.broken in
          let goes = f.goes in
          absurd cc
    ]

-- of two texts that begin one input, each is the other
pub same_text : (f g : Option ℕ) (a b x y : List ℕ) (m n : ℕ) (is js : List Entry) → IsTextIn f a m is → IsTextIn g b n js → a ++ x ≡ b ++ y → (a ≡ b) × (f ≡ g) × (m ≡ n) × (is ≡ js)
same_text f g a b x y m n is js one two same =
    let first = text_reads f a m is one in
    let second = text_reads g b n js two in
    elim (one_way opening (whole f m is first.0) (whole g n js second.0) a b x y first.1 second.1 same) [
      | inl w ↦ let ends = whole_ends (whole f m is first.0) (whole g n js second.0) w.between refl w.reads in
          (sym (w.parts ∙ ap (λ z. a ++ z) ends.0 ∙ append-nil a), ap (λ d. d.size) (sym ends.1), ap (λ d. d.number) (sym ends.1), ap (λ d. d.items) (sym ends.1))
      | inr w ↦ let ends = whole_ends (whole g n js second.0) (whole f m is first.0) w.between refl w.reads in
          (w.parts ∙ ap (λ z. b ++ z) ends.0 ∙ append-nil b, ap (λ d. d.size) ends.1, ap (λ d. d.number) ends.1, ap (λ d. d.items) ends.1)
    ]

-- an item has one text
one_item : (size : Option ℕ) (a b : List ℕ) (e : Entry) → IsItem size a e → IsItem size b e → a ≡ b
one_item size a b e (inl x) (inl y) = x.fields ∙ sym y.fields
one_item size a b e (inl x) (inr y) = absurd (omega (arith, some_chunk y.bits (places_of y.bits) y.some (word_back y.bits y.word), ap length (sym y.chunks ∙ x.chunks)))
one_item size a b e (inr x) (inl y) = absurd (omega (arith, some_chunk x.bits (places_of x.bits) x.some (word_back x.bits x.word), ap length (sym x.chunks ∙ y.chunks)))
one_item size a b e (inr x) (inr y) =
    let bits : x.bits ≡ y.bits = sym (word_back x.bits x.word) ∙ ap word_of (sym x.chunks ∙ y.chunks) ∙ word_back y.bits y.word in
    x.fields ∙ ap (λ w. to_be_bytes w64 e.block ++ to_be_bytes w32 w ++ to_be_bytes w32 0 ++ e.content) bits ∙ sym y.fields

-- so do items
one_body : (size : Option ℕ) (least : ℕ) (a b : List ℕ) (es : List Entry) → AreItems size least a es → AreItems size least b es → a ≡ b
one_body size least a b [] x y = x ∙ sym y
one_body size least a b (e ∷ es) x y =
    x.2 ∙ ap (λ z. z ++ x.1) (one_item size x.0 y.0 e x.4 y.4) ∙ ap (λ z. y.0 ++ z) (one_body size (suc e.block) x.1 y.1 es x.5 y.5) ∙ sym y.2

-- a number and a list of items have one text
pub one_text : (size : Option ℕ) (a b : List ℕ) (n : ℕ) (es : List Entry) → IsTextIn size a n es → IsTextIn size b n es → a ≡ b
one_text size a b n es x y =
    x.fields ∙ ap (λ z. head_of size n (length es) ++ z ++ end_of size ++ to_be_bytes w32 (length es) ++ to_be_bytes w64 n) (one_body size 0 x.body y.body es x.each y.each) ∙ sym y.fields
