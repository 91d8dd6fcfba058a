-- Blocks that are all below a count.
use Rattle.std.proofs.Common.{List, get_or, length, subst, sym, true, ℕ, ◌<◌, ◌≡◌}
use Rattle.std.proofs.lemmas.Bool.{ltb-true}
use Rattle.std.proofs.lemmas.List.Sums.{AllPass-from_list_all}
use Rattle.std.specs.Prelude.{nat_lt}
use Rattle.xt_c.specs.Working.{lie_below}

-- the one at a place is below it
pub below_at : (count : ℕ) (blocks : List ℕ) (k block : ℕ) → lie_below count blocks ≡ true → k < length blocks → block ≡ get_or blocks k block → block < count
below_at count blocks k block all within is =
    subst (λ b. b < count) (sym is) (ltb-true (get_or blocks k block) count (AllPass-from_list_all (λ b. nat_lt b count) blocks all k block within))
