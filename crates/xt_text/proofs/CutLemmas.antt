-- A text read character by character, up to a separator.
use Rattle.std.proofs.Common.{List, [], arith, drop, eqb, false, get_or, length, one-add, refl, suc, take, ℕ, ◌+◌, ◌-◌, ◌≡◌, ◌≤◌, ◌∷◌}
use Rattle.std.specs.List.{position_or_len}
use Rattle.std.proofs.lemmas.List.{take_all}
use Rattle.xt_text.specs.LineReading.{before, behind}

-- what stands behind the first character
abbrev pub rest_of : List ℕ → List ℕ
rest_of text = take (length text - 1) (drop 1 text)

-- a first character that is no separator stands before the separator
pub before_step : (c : ℕ) (text : List ℕ) → 1 ≤ length text → eqb (get_or text 0 0) c ≡ false → before c text ≡ get_or text 0 0 ∷ before c (rest_of text)
before_step c [] some other = absurd (omega (arith, some))
before_step c (x ∷ xs) some other =
    let same : take (length (x ∷ xs) - 1) xs ≡ xs = take_all _ xs (omega arith) in
    rw (other, one-add, same) refl

-- and what stands behind the separator stands behind it too
pub behind_step : (c : ℕ) (text : List ℕ) → 1 ≤ length text → eqb (get_or text 0 0) c ≡ false → behind c text ≡ behind c (rest_of text)
behind_step c [] some other = absurd (omega (arith, some))
behind_step c (x ∷ xs) some other =
    let same : take (length (x ∷ xs) - 1) xs ≡ xs = take_all _ xs (omega arith) in
    let place = position_or_len (λ y. eqb y c) xs in
    let step : 1 + place + 1 ≡ suc (place + 1) = omega arith in
    rw (other, step, same) refl
