-- What a leg is charged, by its entries.
use Rattle.std.proofs.Common.{◌≡◌, ◌+◌, ◌*◌, Bool, List, [], arith, false, length, refl, true, ℕ}
use Rattle.std.specs.Prelude.{if◌then◌else◌, not, ◌==◌}
use Rattle.xt_base.proofs.CostLemmas.{charge_invalidated, charge_logged}
use Rattle.xt_base.proofs.ViewLemmas.{rises_view}
use Rattle.xt_base.specs.Calls.{edited, invalidated}
use Rattle.xt_base.specs.Chunks.{union}
use Rattle.xt_base.specs.Legs.{change_of, is_dirty}
use Rattle.xt_base.specs.Maps.{is_in}
use Rattle.xt_base.specs.Sound.{IsRising}
use Rattle.xt_base.specs.Space.{charge}
use Rattle.xt_base.specs.State.{Leg}
use Rattle.xt_trans.specs.LegItems.{AreItems, change_if, leg_of}
use Rattle.xt_trans.specs.declared.item.BufItem.{BufItem}

if_not : (ends : ℕ) (b : Bool) → ◌≡◌ {A = ℕ} (if not b then 0 else ends) (if b then ends else 0)
if_not ends true = refl
if_not ends false = refl

sixteen : (b : Bool) → ◌≡◌ {A = ℕ} (if b then 0 else 16) (16 * (if b then 0 else 1))
sixteen true = refl
sixteen false = refl

-- the charge after an edit, by what is charged anew
pub newly_edited : (ends b : ℕ) (marked : List ℕ) (leg : Leg) (blocks chunks : ℕ) → IsRising leg.changes → blocks ≡ (if is_in b leg.changes then 0 else 1)
    → length (union (change_of b leg).charged marked) ≡ length (change_of b leg).charged + chunks
    → charge ends (edited b [] marked leg).changes ≡ charge ends leg.changes + (if is_dirty leg then 0 else ends) + 16 * blocks + 128 * chunks
newly_edited ends b marked leg blocks chunks r one more =
    omega (arith, charge_logged ends b [] marked leg r, if_not ends (length leg.changes == 0), sixteen (is_in b leg.changes), one, more)

-- the charge after an invalidation, by what is charged anew
pub newly_stale : (ends b : ℕ) (leg : Leg) (blocks chunks : ℕ) → IsRising leg.changes → blocks ≡ (if is_in b leg.changes then 0 else 1) → chunks ≡ 0
    → charge ends (invalidated b leg).changes ≡ charge ends leg.changes + (if is_dirty leg then 0 else ends) + 16 * blocks + 128 * chunks
newly_stale ends b leg blocks chunks r one none = omega (arith, charge_invalidated ends b leg r, if_not ends (length leg.changes == 0), sixteen (is_in b leg.changes), one, none)

-- the changes of a leg rise
pub changes_rise : (es : List (ℕ × BufItem)) → AreItems es → IsRising (leg_of es).changes
changes_rise es are = rises_view change_if 0 es are.rising
