-- Which blocks were written home, asked one by one.
use Rattle.std.proofs.Common.{◌≡◌, ◌⊎◌, ◌+◌, ◌∷◌, Bool, List, [], ap, drop, length, refl, true, ℕ}
use Rattle.std.specs.Prelude.{filter, not}
use Rattle.xt_base.specs.Jobs.{written}
use Rattle.xt_base.specs.Maps.{has}
use Rattle.xt_items.specs.Sieves.{passes}

-- how many were written so far, and that a word has their bits
pub record AreSeen (bs : List ℕ) (oks : List Bool) (i gone word : ℕ) : Type 0 where
  pub count : gone + length (written (drop i bs) (drop i oks)) ≡ length (written bs oks)
  pub bits : (k : ℕ) → has (written bs oks) k ≡ true → (passes word k ≡ true) ⊎ (has (written (drop i bs) (drop i oks)) k ≡ true)

-- where no block goes, all stay
pub all_stay : (m : List (ℕ × ℕ)) → m ≡ filter (λ e. not (has [] e.0)) m
all_stay [] = refl
all_stay (e ∷ es) = ap (λ ys. e ∷ ys) (all_stay es)
