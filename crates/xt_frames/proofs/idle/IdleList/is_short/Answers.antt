use Rattle.std.proofs.Common.{◌≤◌, List, length, subst, ℕ}
use Rattle.xt_frames.proofs.IdleLemmas.{few}
use Rattle.xt_frames.proofs.idle.IdleList.is_short.Goals as goal

pub returns : goal.returns
returns c = subst (λ (xs : List (ℕ × List ℕ)). length xs ≤ 64) c.self.view_is (few c.self.inside.names c.self.invariant)
