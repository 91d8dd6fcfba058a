-- A fault is met once.
use Rattle.std.proofs.Common.{◌≡◌, ◌∙◌, ℕ, ◌+◌, ◌<◌, List, [], ◌++◌, length, take, None, sym, ap, refl, arith, append_assoc, inl, inr}
use Rattle.std.proofs.lemmas.List.{append-nil, append_cancel_left, take_at, length-append}
use Rattle.xt_ckpt.specs.Fields.{Draft, Reads, IsFaultAt, IsUnfinished, opening, width, after}
use Rattle.xt_ckpt.proofs.Ways.{GoesOn, one_way}

-- a draft whose next field breaks its rule goes nowhere
stuck : (d e : Draft) (bytes rest between more : List ℕ) → length bytes ≡ width d.next → after d bytes ≡ None → bytes ++ rest ≡ between ++ more → Reads d between e → (between ≡ []) × (d ≡ e)
stuck d e bytes rest between more len broken same (Reads.nothing o) = (refl, refl)
stuck d e bytes rest between more len broken same (Reads.field o m l f after_it fl goes way) =
    let alike : bytes ≡ f = sym (take_at bytes rest (width o.next) len) ∙ ap (take (width o.next)) (same ∙ append_assoc f after_it more) ∙ take_at f (after_it ++ more) (width o.next) fl in
    let none : after o f ≡ None = ap (after o) (sym alike) ∙ broken in
    absurd cc

-- what a fault's draft goes on to over the same input is itself
stays : (at : ℕ) (input : List ℕ) (u : IsFaultAt at input) (e : Draft) (front more : List ℕ) → input ≡ front ++ more → (w : GoesOn u.front front u.draft e) → (front ≡ u.front) × (u.draft ≡ e)
stays at input u e front more parts w =
    let left : u.bytes ++ u.rest ≡ w.between ++ more =
    append_cancel_left u.front (u.bytes ++ u.rest) (w.between ++ more) (sym (append_assoc u.front u.bytes u.rest) ∙ sym u.parts ∙ parts ∙ ap (λ z. z ++ more) w.parts ∙ append_assoc u.front w.between more) in
    let end = stuck u.draft e u.bytes u.rest w.between more u.whole u.broken left w.reads in
    (w.parts ∙ ap (λ z. u.front ++ z) end.0 ∙ append-nil u.front, end.1)

-- two faults of one input are one
pub same_fault : (a b : ℕ) (input : List ℕ) → IsFaultAt a input → IsFaultAt b input → a ≡ b
same_fault a b input u v =
    let first : input ≡ u.front ++ (u.bytes ++ u.rest) = u.parts ∙ append_assoc u.front u.bytes u.rest in
    let second : input ≡ v.front ++ (v.bytes ++ v.rest) = v.parts ∙ append_assoc v.front v.bytes v.rest in
    elim (one_way opening u.draft v.draft u.front v.front (u.bytes ++ u.rest) (v.bytes ++ v.rest) u.reads v.reads (sym first ∙ second)) [
      | inl w ↦ u.place ∙ ap length (sym (stays a input u v.draft v.front (v.bytes ++ v.rest) second w).0) ∙ sym v.place
      | inr w ↦ u.place ∙ ap length (stays b input v u.draft u.front (u.bytes ++ u.rest) first w).0 ∙ sym v.place
    ]

-- a draft of which a field is not all there goes on no further
short_stays : (d e : Draft) (rest between more : List ℕ) → length rest < width d.next → rest ≡ between ++ more → Reads d between e → (between ≡ []) × (d ≡ e)
short_stays d e rest between more short same (Reads.nothing o) = (refl, refl)
short_stays d e rest between more short same (Reads.field o m l f after_it fl goes way) =
    absurd (omega (arith, short, fl, ap length same, length-append (f ++ after_it) more, length-append f after_it))

-- an input that ends within a field has no fault before it
pub fault_or_unfinished : (a : ℕ) (input : List ℕ) → IsFaultAt a input → IsUnfinished input → ⊥
fault_or_unfinished a input u v =
    let first : input ≡ u.front ++ (u.bytes ++ u.rest) = u.parts ∙ append_assoc u.front u.bytes u.rest in
    let lengths : length input ≡ length u.front + length u.bytes + length u.rest = ap length first ∙ length-append u.front (u.bytes ++ u.rest) ∙ omega (arith, length-append u.bytes u.rest) in
    elim (one_way opening u.draft v.draft u.front v.front (u.bytes ++ u.rest) v.rest u.reads v.reads (sym first ∙ v.parts)) [
      | inl w ↦
          let end = stays a input u v.draft v.front v.rest v.parts w in
          omega (arith, u.whole, v.short, lengths, ap length end.0, ap (λ z. width z.next) end.1, ap length v.parts, length-append v.front v.rest)
      | inr w ↦
          let left : v.rest ≡ w.between ++ (u.bytes ++ u.rest) = append_cancel_left v.front v.rest (w.between ++ (u.bytes ++ u.rest)) (sym v.parts ∙ first ∙ ap (λ z. z ++ (u.bytes ++ u.rest)) w.parts ∙ append_assoc v.front w.between (u.bytes ++ u.rest)) in
          let end = short_stays v.draft u.draft v.rest w.between (u.bytes ++ u.rest) v.short left w.reads in
          let here = ap length (left ∙ ap (λ z. z ++ (u.bytes ++ u.rest)) end.0) in
          omega (arith, u.whole, v.short, here, ap (λ z. width z.next) end.1, length-append u.bytes u.rest)
    ]
