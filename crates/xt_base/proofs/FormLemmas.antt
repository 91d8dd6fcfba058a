-- The sizes of a block, and the forms that they give.
use Rattle.std.proofs.Common.{◌≡◌, None, Option, Some, arith, eqb-true, inl, inr, refl, subst, sym, true, ℕ}
use Rattle.std.proofs.lemmas.Bool.{or_cases}
use Rattle.std.specs.Prelude.{◌==◌, ◌||◌}
use Rattle.xt_base.specs.Form.{IsForm, form_of, form_two, is_size}

-- what holds of the four sizes holds of a size
pub by_size : (P : ℕ → Type 0) (n : ℕ) → is_size (Some n) ≡ true → P 512 → P 1024 → P 2048 → P 4096 → P n
by_size P n one_of at_512 at_1024 at_2048 at_4096 =
    elim (or_cases (n == 512 || n == 1024 || n == 2048) (n == 4096) one_of) [
      | inr d ↦ subst P (sym (eqb-true n 4096 d)) at_4096
      | inl abc ↦ elim (or_cases (n == 512 || n == 1024) (n == 2048) abc) [
        | inr c ↦ subst P (sym (eqb-true n 2048 c)) at_2048
        | inl ab ↦ elim (or_cases (n == 512) (n == 1024) ab) [
          | inr b ↦ subst P (sym (eqb-true n 1024 b)) at_1024
          | inl a ↦ subst P (sym (eqb-true n 512 a)) at_512
        ]
      ]
    ]

-- the form by a size that a block may have, or by none, is one
pub form_is : (size : Option ℕ) → is_size size ≡ true → IsForm (form_of size)
form_is None one_of = record { least = omega arith; most = omega arith; whole = refl; small = omega arith; one_of = refl }
form_is (Some n) one_of =
    by_size (λ m. IsForm (form_two m)) n one_of
    (record { least = omega arith; most = omega arith; whole = refl; small = omega arith; one_of = refl })
    (record { least = omega arith; most = omega arith; whole = refl; small = omega arith; one_of = refl })
    (record { least = omega arith; most = omega arith; whole = refl; small = omega arith; one_of = refl })
    (record { least = omega arith; most = omega arith; whole = refl; small = omega arith; one_of = refl })
