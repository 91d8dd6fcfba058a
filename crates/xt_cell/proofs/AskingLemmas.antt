-- The writes of a flush.
use Rattle.std.proofs.Common.{List, [], Option, arith, length, map, refl, take, ℕ, ◌≡◌, ◌≤◌, ◌∷◌}
use Rattle.std.specs.Borrow.{Bor}
use Rattle.xt_base.specs.State.{State}
use Rattle.xt_cell.specs.Asking.{committed_write, nearest}
use Rattle.xt_dev.specs.Flushes.{contents}

-- a write, as a device is offered it
abbrev seen : ℕ × Bor (List ℕ) → ℕ × List ℕ
seen w = (w.0, w.1.now)

-- of eight writes, each of the block at its place or of the last one, the first are those of the plan
pub planned : (o : Option State) (blocks : List ℕ) (w0 w1 w2 w3 w4 w5 w6 w7 : ℕ × Bor (List ℕ)) → length blocks ≤ 8
    → seen w0 ≡ committed_write o (nearest blocks 0) → seen w1 ≡ committed_write o (nearest blocks 1) → seen w2 ≡ committed_write o (nearest blocks 2) → seen w3 ≡ committed_write o (nearest blocks 3)
    → seen w4 ≡ committed_write o (nearest blocks 4) → seen w5 ≡ committed_write o (nearest blocks 5) → seen w6 ≡ committed_write o (nearest blocks 6) → seen w7 ≡ committed_write o (nearest blocks 7)
    → contents (take (length blocks) (w0 ∷ w1 ∷ w2 ∷ w3 ∷ w4 ∷ w5 ∷ w6 ∷ w7 ∷ [])) ≡ map (committed_write o) blocks
planned o [] w0 w1 w2 w3 w4 w5 w6 w7 few e0 e1 e2 e3 e4 e5 e6 e7 = refl
planned o (a ∷ []) w0 w1 w2 w3 w4 w5 w6 w7 few e0 e1 e2 e3 e4 e5 e6 e7 = cc e0
planned o (a ∷ b ∷ []) w0 w1 w2 w3 w4 w5 w6 w7 few e0 e1 e2 e3 e4 e5 e6 e7 = cc (e0, e1)
planned o (a ∷ b ∷ c ∷ []) w0 w1 w2 w3 w4 w5 w6 w7 few e0 e1 e2 e3 e4 e5 e6 e7 = cc (e0, e1, e2)
planned o (a ∷ b ∷ c ∷ d ∷ []) w0 w1 w2 w3 w4 w5 w6 w7 few e0 e1 e2 e3 e4 e5 e6 e7 = cc (e0, e1, e2, e3)
planned o (a ∷ b ∷ c ∷ d ∷ e ∷ []) w0 w1 w2 w3 w4 w5 w6 w7 few e0 e1 e2 e3 e4 e5 e6 e7 = cc (e0, e1, e2, e3, e4)
planned o (a ∷ b ∷ c ∷ d ∷ e ∷ f ∷ []) w0 w1 w2 w3 w4 w5 w6 w7 few e0 e1 e2 e3 e4 e5 e6 e7 = cc (e0, e1, e2, e3, e4, e5)
planned o (a ∷ b ∷ c ∷ d ∷ e ∷ f ∷ g ∷ []) w0 w1 w2 w3 w4 w5 w6 w7 few e0 e1 e2 e3 e4 e5 e6 e7 = cc (e0, e1, e2, e3, e4, e5, e6)
planned o (a ∷ b ∷ c ∷ d ∷ e ∷ f ∷ g ∷ h ∷ []) w0 w1 w2 w3 w4 w5 w6 w7 few e0 e1 e2 e3 e4 e5 e6 e7 = cc (e0, e1, e2, e3, e4, e5, e6, e7)
planned o (a ∷ b ∷ c ∷ d ∷ e ∷ f ∷ g ∷ h ∷ i ∷ more) w0 w1 w2 w3 w4 w5 w6 w7 few e0 e1 e2 e3 e4 e5 e6 e7 = absurd (omega (arith, few))
