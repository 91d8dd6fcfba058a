-- What the next leg of a ticket is granted.
use Rattle.std.proofs.Common.{◌≡◌, ◌+◌, ◌-◌, ◌*◌, ◌≤◌, ℕ, suc, zero, false, ap, arith}
use Rattle.std.specs.Prelude.{◌&&◌, ◌==◌, nat_lt}
use Rattle.std.proofs.Math.Nat.{mul-suc}
use Rattle.std.proofs.lemmas.Bool.Decides.{nat_tests}
use Rattle.xt_base.specs.Calls.{legs_after}

-- one leg less is left where there was more than one
more_legs : (legs : ℕ) → legs_after (suc (suc legs)) ≡ suc legs
more_legs legs = grind (arith, nat_tests)

-- the next leg finds space: one that was left costs one unit less, and a new one was asked for
pub next_space : (size granted flight total cost cil charged unit legs : ℕ) → unit * legs ≤ granted → 1 ≤ legs → cost ≤ cil + charged → charged ≤ unit → granted + cil + flight + total ≤ size
    → ((legs == 1) && nat_lt size (granted - unit * legs + cost + flight + total + unit)) ≡ false
    → granted - unit * legs + unit * legs_after legs + cost + flight + total ≤ size
next_space size granted flight total cost cil charged unit zero covered left paid fair full room = absurd (omega arith)
next_space size granted flight total cost cil charged unit (suc zero) covered left paid fair full room = grind (arith, nat_tests)
next_space size granted flight total cost cil charged unit (suc (suc legs)) covered left paid fair full room = omega (arith, mul-suc unit (suc legs), ap (λ n. unit * n) (more_legs legs))
