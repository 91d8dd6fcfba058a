-- What a word with a bit for each key of a map says.
use Rattle.std.proofs.Common.{◌≡◌, ◌∙◌, ◌%◌, ◌^◌, ◌*◌, ◌<◌, ◌∷◌, Bool, List, None, [], ap, false, get_or, inl, inr, refl, subst, suc, sym, take, true, zero, ℕ}
use Rattle.std.specs.Int.{bit_at, w64}
use Rattle.std.specs.Int.Bits.{bit_or}
use Rattle.std.specs.List.{items_where_true}
use Rattle.std.specs.Prelude.{◌==◌}
use Rattle.std.proofs.lemmas.Bool.{cases_eq, false≢true}
use Rattle.std.proofs.lemmas.Nat.Bits.{bit_at_set_other, bit_at_set_same}
use Rattle.xt_base.proofs.MapLemmas.{at_later}
use Rattle.xt_base.proofs.RisingLemmas.{each_map}
use Rattle.xt_base.specs.Maps.{at}
use Rattle.xt_items.specs.Sieves.{ArePassed, passes}

-- ---- the bit of a key is set
pub set_key : (bits key : ℕ) → key % 64 < 64 → passes (bit_or bits (1 * 2 ^ (key % 64) % 2 ^ 64)) key ≡ true
set_key bits key within = ap (λ n. n == 1) (bit_at_set_same w64 bits (key % 64) within)

pub set_others : (bits key : ℕ) → key % 64 < 64 → (k : ℕ) → passes bits k ≡ true → passes (bit_or bits (1 * 2 ^ (key % 64) % 2 ^ 64)) k ≡ true
set_others bits key within k was =
    elim (cases_eq (k % 64) (key % 64)) [
      | inl same ↦ ap (λ i. bit_at (bit_or bits (1 * 2 ^ (key % 64) % 2 ^ 64)) i == 1) same ∙ set_key bits key within
      | inr other ↦ ap (λ n. n == 1) (bit_at_set_other w64 bits (key % 64) within (k % 64) other) ∙ was
    ]

-- ---- maps
module _ {V : Type 0} where
  -- a key whose bit is not set is not there
  pub absent : (bits key : ℕ) (es : List (ℕ × V)) → ArePassed bits es → passes bits key ≡ false → at key es ≡ None
  absent bits key [] passed lacks = refl
  absent bits key (e ∷ es) passed lacks =
      elim (cases_eq key e.0) [
        | inl same ↦ absurd (false≢true (sym lacks ∙ ap (passes bits) same ∙ passed.0))
        | inr other ↦ at_later key e es other ∙ absent bits key es passed.1 lacks
      ]

  -- more bits do no harm
  pub still_passed : (bits more : ℕ) (es : List (ℕ × V)) → ((k : ℕ) → passes bits k ≡ true → passes more k ≡ true) → ArePassed bits es → ArePassed more es
  still_passed bits more es others passed = each_map (λ e. passes bits e.0 ≡ true) (λ e. passes more e.0 ≡ true) es (λ e. others e.0) passed

  -- one entry more
  pub one_passed : (bits more i : ℕ) (e d : ℕ × V) (es : List (ℕ × V)) → ((k : ℕ) → passes bits k ≡ true → passes more k ≡ true) → e ≡ get_or es i d → passes more e.0 ≡ true
      → ArePassed bits (take i es) → ArePassed more (take (suc i) es)
  one_passed bits more i e d [] others here this passed = tt
  one_passed bits more zero e d (x ∷ xs) others here this passed = (subst (λ (o : ℕ × V). passes more o.0 ≡ true) here this, tt)
  one_passed bits more (suc i) e d (x ∷ xs) others here this passed = (others x.0 passed.0, one_passed bits more i e d xs others here this passed.1)

  -- what stays has its bits
  pub stay_passed : (bits : ℕ) (stays : List Bool) (es : List (ℕ × V)) → ArePassed bits es → ArePassed bits (items_where_true stays es)
  stay_passed bits [] es passed = tt
  stay_passed bits (b ∷ bs) [] passed = tt
  stay_passed bits (true ∷ bs) (e ∷ es) passed = (passed.0, stay_passed bits bs es passed.1)
  stay_passed bits (false ∷ bs) (e ∷ es) passed = stay_passed bits bs es passed.1
