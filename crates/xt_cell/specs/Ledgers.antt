-- Sixteen new ledgers, one a slot, and the house whose names they have.
use Rattle.std.specs.Prelude.{[], slice_index, ℕ, ◌≡◌, ◌∷◌}
use Rattle.xt_cell.specs.declared.reserve.Blanks.{Blanks}

-- the name of the ledger of a slot
abbrev pub name_in : Blanks → ℕ → ℕ
name_in b slot =
    slice_index
    (b.b0.name ∷ b.b1.name ∷ b.b2.name ∷ b.b3.name ∷ b.b4.name ∷ b.b5.name ∷ b.b6.name ∷ b.b7.name ∷ b.b8.name ∷ b.b9.name ∷ b.b10.name ∷ b.b11.name ∷ b.b12.name ∷ b.b13.name ∷ b.b14.name ∷ b.b15.name ∷ [])
    slot

-- the ledgers have these names, slot by slot
abbrev pub AreNamed : (ℕ → ℕ) → Blanks → Type 0
AreNamed names b = (b.b0.name ≡ names 0) × (b.b1.name ≡ names 1) × (b.b2.name ≡ names 2) × (b.b3.name ≡ names 3) × (b.b4.name ≡ names 4) × (b.b5.name ≡ names 5) × (b.b6.name ≡ names 6) × (b.b7.name ≡ names 7) × (b.b8.name ≡ names 8) × (b.b9.name ≡ names 9) × (b.b10.name ≡ names 10) × (b.b11.name ≡ names 11) × (b.b12.name ≡ names 12) × (b.b13.name ≡ names 13) × (b.b14.name ≡ names 14) × (b.b15.name ≡ names 15)

-- each ledger is cut into so many parts
abbrev pub AreCut : ℕ → Blanks → Type 0
AreCut parts b = (b.b0.parts ≡ parts) × (b.b1.parts ≡ parts) × (b.b2.parts ≡ parts) × (b.b3.parts ≡ parts) × (b.b4.parts ≡ parts) × (b.b5.parts ≡ parts) × (b.b6.parts ≡ parts) × (b.b7.parts ≡ parts) × (b.b8.parts ≡ parts) × (b.b9.parts ≡ parts) × (b.b10.parts ≡ parts) × (b.b11.parts ≡ parts) × (b.b12.parts ≡ parts) × (b.b13.parts ≡ parts) × (b.b14.parts ≡ parts) × (b.b15.parts ≡ parts)
