-- The first receipt that has no entry.
use Rattle.std.proofs.Common.{List, inl, refl, subst, sym, ℕ, ◌≡◌, ◌∷◌}
use Rattle.xt_cell.specs.Accounts.{AccountView}
use Rattle.xt_cell.specs.declared.records.Receipt.{Receipt}
use Rattle.xt_receipts.specs.Closing.{IsFirstStray, MayStand}

-- one at the front that may not stand is the first
pub stray_here : (books : List AccountView) (caller : ℕ) (next : List ℕ) (rest tail : List Receipt) (r : Receipt) → rest ≡ r ∷ tail → (MayStand books caller next r → ⊥) → IsFirstStray books caller next rest r
stray_here books caller next rest tail r is stray = subst (λ rs. IsFirstStray books caller next rs r) (sym is) (inl (refl, stray))
