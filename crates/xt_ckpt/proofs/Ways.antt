-- Reading fields: how it goes on, and that it goes one way.
use Rattle.std.proofs.Common.{◌≡◌, ◌∙◌, ℕ, List, [], ◌++◌, length, take, drop, Option, Some, None, sym, ap, refl, subst, append_assoc, inl, inr, ◌⊎◌}
use Rattle.std.proofs.lemmas.List.{append-nil, take_at, drop_at}
use Rattle.xt_ckpt.specs.Fields.{Draft, Reads, width, after, after_field}
use Rattle.xt_ckpt.specs.declared.draft.Field.{Field}

-- one field more
pub reads_more : (d mid last : Draft) (front bytes : List ℕ) → Reads d front mid → length bytes ≡ width mid.next → after mid bytes ≡ Some last → Reads d (front ++ bytes) last
reads_more d mid last front bytes (Reads.nothing e) len goes = subst (λ xs. Reads e xs last) (append-nil bytes) (Reads.field e last last bytes [] len goes (Reads.nothing last))
reads_more d mid last front bytes (Reads.field e m l f rest fl fg way) len goes =
    subst (λ xs. Reads e xs last) (sym (append_assoc f rest bytes)) (Reads.field e m last f (rest ++ bytes) fl fg (reads_more m l last rest bytes way len goes))

-- one way, and then another from where it ends
pub reads_on : (d mid last : Draft) (front bytes : List ℕ) → Reads d front mid → Reads mid bytes last → Reads d (front ++ bytes) last
reads_on d mid last front bytes (Reads.nothing e) then = then
reads_on d mid last front bytes (Reads.field e m l f rest fl fg way) then =
    subst (λ xs. Reads e xs last) (sym (append_assoc f rest bytes)) (Reads.field e m last f (rest ++ bytes) fl fg (reads_on m l last rest bytes way then))

-- behind a, b goes on from mid to last
pub record GoesOn (a b : List ℕ) (mid last : Draft) : Type 0 where
  pub between : List ℕ
  pub parts : b ≡ a ++ between
  pub reads : Reads mid between last

-- nothing follows a whole text
pub whole_ends : (d last : Draft) (bytes : List ℕ) → d.next ≡ Field.Nothing → Reads d bytes last → (bytes ≡ []) × (last ≡ d)
whole_ends d last bytes h (Reads.nothing e) = (refl, refl)
whole_ends d last bytes h (Reads.field e m l f rest fl fg way) =
    let stops : after_field e.next f e ≡ None = ap (λ n. after_field n f e) h in
    absurd cc

-- the same width of the same bytes
same_front : (n : ℕ) (f g x y : List ℕ) → length f ≡ n → length g ≡ n → f ++ x ≡ g ++ y → (f ≡ g) × (x ≡ y)
same_front n f g x y lf lg e =
    (sym (take_at f x n lf) ∙ ap (take n) e ∙ take_at g y n lg, sym (drop_at f x n lf) ∙ ap (drop n) e ∙ drop_at g y n lg)

-- what two equal options have is one
some_same : (a b : Draft) (o p : Option Draft) → o ≡ Some a → p ≡ Some b → o ≡ p → a ≡ b
some_same a b o p h k e = cc

-- of two ways from one draft over the same bytes, one goes on from the other
pub one_way : (d e g : Draft) (a b x y : List ℕ) → Reads d a e → Reads d b g → a ++ x ≡ b ++ y → GoesOn a b e g ⊎ GoesOn b a g e
one_way d e g a b x y (Reads.nothing o) second same = inl (record { between = b; parts = refl; reads = second })
one_way d e g a b x y (Reads.field o m l f rest fl fg way) (Reads.nothing q) same = inr (record { between = f ++ rest; parts = refl; reads = Reads.field o m l f rest fl fg way })
one_way d e g a b x y (Reads.field o m l f rest fl fg way) (Reads.field q n k h more hl hg other) same =
    let cut = same_front (width o.next) f h (rest ++ x) (more ++ y) fl hl (sym (append_assoc f rest x) ∙ same ∙ append_assoc h more y) in
    let mid : m ≡ n = some_same m n (after o f) (after o h) fg hg (ap (after o) cut.0) in
    let again : Reads m more k = subst (λ z. Reads z more k) (sym mid) other in
    elim (one_way m l k rest more x y way again cut.1) [
      | inl w ↦ inl (record { between = w.between; parts = ap (λ z. z ++ more) (sym cut.0) ∙ ap (λ z. f ++ z) w.parts ∙ sym (append_assoc f rest w.between); reads = w.reads })
      | inr w ↦ inr (record { between = w.between; parts = ap (λ z. f ++ z) w.parts ∙ sym (append_assoc f more w.between) ∙ ap (λ z. (z ++ more) ++ w.between) cut.0; reads = w.reads })
    ]
