-- Costs of item lists and charges of legs: what a commit adds to the list was charged, and what one more edit charges.
use Rattle.std.proofs.Common.{◌≡◌, ◌+◌, ◌*◌, ◌<◌, ◌≤◌, ◌∷◌, Bool, List, None, Option, Some, [], ap, arith, cond, false, length, refl, suc, true, ℕ}
use Rattle.std.proofs.lemmas.Bool.{ne_eqb}
use Rattle.std.proofs.lemmas.List.Sums.{sum_by-cons}
use Rattle.std.specs.Prelude.{if◌then◌else◌, is_none, is_some, sum_by, unwrap_or, ◌==◌}
use Rattle.xt_base.proofs.ChunkCounts.{length-union_within}
use Rattle.xt_base.proofs.MapLemmas.{length_put_ge, length_put_positive}
use Rattle.xt_base.proofs.RisingLemmas.{rises_put, sum_put, weight_at}
use Rattle.xt_base.specs.Calls.{edited, invalidated}
use Rattle.xt_base.specs.Chunks.{union}
use Rattle.xt_base.specs.Legs.{change_of, joined_marks, with_marks}
use Rattle.xt_base.specs.Maps.{at, is_in, put}
use Rattle.xt_base.specs.Sound.{Each, IsCovered, IsRising}
use Rattle.xt_base.specs.Space.{change_cost, charge, cost, item_cost}
use Rattle.xt_base.specs.State.{Change, Leg}

-- a list with an element is not empty
suc_zero : (n : ℕ) → (suc n == 0) ≡ false
suc_zero n = ne_eqb (suc n) 0 (λ h. omega (arith, h))

-- ---- the cost of a list
-- the cost of a list with an item
pub cost-cons : (ends : ℕ) (e : ℕ × List ℕ) (es : List (ℕ × List ℕ)) → cost ends (e ∷ es) ≡ ends + sum_by item_cost (e ∷ es)
cost-cons ends e es = ap {B = ℕ} (λ b. if b then 0 else ends + sum_by item_cost (e ∷ es)) (suc_zero (length es))

-- the cost of any list
pub cost-le : (ends : ℕ) (es : List (ℕ × List ℕ)) → cost ends es ≤ ends + sum_by item_cost es
cost-le ends [] = omega arith
cost-le ends (e ∷ es) = omega (arith, cost-cons ends e es)

-- a list that is not empty
pub cost-some : (ends : ℕ) (es : List (ℕ × List ℕ)) → 0 < length es → cost ends es ≡ ends + sum_by item_cost es
cost-some ends [] h = absurd (omega (arith, h))
cost-some ends (e ∷ es) h = cost-cons ends e es

-- the charge of a leg with a change
pub charge-cons : (ends : ℕ) (e : ℕ × Change) (es : List (ℕ × Change)) → charge ends (e ∷ es) ≡ ends + sum_by change_cost (e ∷ es)
charge-cons ends e es = ap {B = ℕ} (λ b. if b then 0 else ends + sum_by change_cost (e ∷ es)) (suc_zero (length es))

-- the charge of any leg
pub charge-le : (ends : ℕ) (es : List (ℕ × Change)) → charge ends es ≤ ends + sum_by change_cost es
charge-le ends [] = omega arith
charge-le ends (e ∷ es) = omega (arith, charge-cons ends e es)

-- the charge of a leg that is not clean
pub charge-some : (ends : ℕ) (es : List (ℕ × Change)) → 0 < length es → charge ends es ≡ ends + sum_by change_cost es
charge-some ends [] h = absurd (omega (arith, h))
charge-some ends (e ∷ es) h = charge-cons ends e es

-- ---- the marks of a leg joined to an item list
length-joined_of : (old : Option (List ℕ)) (e : ℕ × Change) (b : Bool) → IsCovered e
    → length (cond b [] (union (unwrap_or old []) e.1.marks)) ≤ length (unwrap_or old []) + length e.1.charged
length-joined_of old e true covered = omega arith
length-joined_of old e false covered = length-union_within (unwrap_or old []) e.1.marks e.1.charged covered

-- what a change adds to an item was charged
pub length-joined : (old : Option (List ℕ)) (e : ℕ × Change) → IsCovered e → length (joined_marks old e.1) ≤ length (unwrap_or old []) + length e.1.charged
length-joined old e covered = length-joined_of old e (is_none e.1.edit) covered

marks_step : (k : ℕ) (o : Option (List ℕ)) (j : List ℕ) (charged before after : ℕ) → length j ≤ length (unwrap_or o []) + charged
    → after + weight_at item_cost k o ≡ before + (16 + 128 * length j) → after ≤ before + (16 + 128 * charged)
marks_step k None j charged before after h e = omega (arith, h, e)
marks_step k (Some old) j charged before after h e = omega (arith, h, e)

-- what a leg adds to the items was charged
pub sum_with_marks : (cs : List (ℕ × Change)) (m : List (ℕ × List ℕ)) → IsRising m → Each IsCovered cs → sum_by item_cost (with_marks cs m) ≤ sum_by item_cost m + sum_by change_cost cs
sum_with_marks [] m r all = omega arith
sum_with_marks (e ∷ cs) m r all =
    let j : List ℕ = joined_marks (at e.0 m) e.1 in
    let step = marks_step e.0 (at e.0 m) j (length e.1.charged) (sum_by item_cost m) (sum_by item_cost (put e.0 j m)) (length-joined (at e.0 m) e all.0) (sum_put item_cost 0 e.0 j m r) in
    let later = sum_with_marks cs (put e.0 j m) (rises_put 0 e.0 j m (omega arith) r) all.1 in
    omega (arith, step, later, sum_by-cons change_cost e cs)

-- what a commit adds to the cost was charged
pub cost-with_marks : (ends : ℕ) (cs : List (ℕ × Change)) (m : List (ℕ × List ℕ)) → IsRising m → Each IsCovered cs → cost ends (with_marks cs m) ≤ cost ends m + charge ends cs
cost-with_marks ends [] m r all = omega arith
cost-with_marks ends (e ∷ cs) [] r all =
    omega (arith, cost-le ends (with_marks (e ∷ cs) []), sum_with_marks (e ∷ cs) [] r all, charge-cons ends e cs)
cost-with_marks ends (e ∷ cs) (x ∷ m) r all =
    omega (arith, cost-le ends (with_marks (e ∷ cs) (x ∷ m)), sum_with_marks (e ∷ cs) (x ∷ m) r all, charge-cons ends e cs, cost-cons ends x m)

-- ---- the charge of one more edit
edit_step : (o : Option Change) (b more before after : ℕ) (none : Change) → length none.charged ≡ 0
    → after + weight_at change_cost b o ≡ before + (16 + 128 * more)
    → after + 128 * length (unwrap_or o none).charged ≡ before + (if is_some o then 0 else 16) + 128 * more
edit_step None b more before after none empty e = omega (arith, empty, e)
edit_step (Some c) b more before after none empty e = omega (arith, e)

charge_step : (ends : ℕ) (es fs : List (ℕ × Change)) → length es ≤ length fs → 0 < length fs
    → charge ends fs + sum_by change_cost es ≡ (if length es == 0 then ends else 0) + sum_by change_cost fs + charge ends es
charge_step ends [] fs h p = omega (arith, charge-some ends fs p)
charge_step ends (e ∷ es) fs h p = omega (arith, charge-some ends fs p, charge-cons ends e es, ap {B = ℕ} (λ b. if b then ends else 0) (suc_zero (length es)))

-- the charge after an edit: the ends for the first change of a leg, 16 for a block not charged yet, and 128 for each chunk beyond those charged
pub charge_logged : (ends : ℕ) (b : ℕ) (content marked : List ℕ) (leg : Leg) → IsRising leg.changes
    → charge ends (edited b content marked leg).changes + 128 * length (change_of b leg).charged
    ≡ (if length leg.changes == 0 then ends else 0) + (if is_in b leg.changes then 0 else 16) + 128 * length (union (change_of b leg).charged marked) + charge ends leg.changes
charge_logged ends b content marked leg r =
    let c : Change = record { edit = Some content; marks = union (change_of b leg).marks marked; charged = union (change_of b leg).charged marked } in
    let none : Change = record { edit = None; marks = []; charged = [] } in
    let sums = sum_put change_cost 0 b c leg.changes r in
    let step = edit_step (at b leg.changes) b (length (union (change_of b leg).charged marked)) (sum_by change_cost leg.changes) (sum_by change_cost (put b c leg.changes)) none refl sums in
    let whole = charge_step ends leg.changes (put b c leg.changes) (length_put_ge b c leg.changes) (length_put_positive b c leg.changes) in
    omega (arith, step, whole)

-- the charge after an invalidation: the ends for the first change of a leg, and 16 for a block not charged yet
pub charge_invalidated : (ends : ℕ) (b : ℕ) (leg : Leg) → IsRising leg.changes
    → charge ends (invalidated b leg).changes ≡ (if length leg.changes == 0 then ends else 0) + (if is_in b leg.changes then 0 else 16) + charge ends leg.changes
charge_invalidated ends b leg r =
    let c : Change = record { edit = None; marks = []; charged = (change_of b leg).charged } in
    let none : Change = record { edit = None; marks = []; charged = [] } in
    let sums = sum_put change_cost 0 b c leg.changes r in
    let step = edit_step (at b leg.changes) b (length (change_of b leg).charged) (sum_by change_cost leg.changes) (sum_by change_cost (put b c leg.changes)) none refl sums in
    let whole = charge_step ends leg.changes (put b c leg.changes) (length_put_ge b c leg.changes) (length_put_positive b c leg.changes) in
    omega (arith, step, whole)
