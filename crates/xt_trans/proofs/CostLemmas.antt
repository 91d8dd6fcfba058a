-- What a commit list costs with the marks of a leg, by the entries of both.
use Rattle.std.proofs.Common.{◌≡◌, ◌≢◌, ◌∙◌, ◌+◌, ◌*◌, ◌≤◌, ◌∷◌, Bool, List, None, Option, Some, [], ap, arith, false, length, refl, suc, sym, true, ℕ}
use Rattle.std.proofs.lemmas.List.Sums.{sum_by-cons}
use Rattle.std.specs.List.{cons_option}
use Rattle.std.specs.Prelude.{if◌then◌else◌, option_map, sum_by}
use Rattle.xt_base.proofs.CostLemmas.{cost-cons}
use Rattle.xt_base.proofs.MapLemmas.{at_put_other}
use Rattle.xt_base.proofs.RisingLemmas.{each_map, rises_above, rises_put, sum_put, weight_at}
use Rattle.xt_base.proofs.ViewLemmas.{rises_view}
use Rattle.xt_base.specs.Legs.{joined_marks, with_marks}
use Rattle.xt_base.specs.Maps.{at, put}
use Rattle.xt_base.specs.Sound.{Each, IsRising, RisesFrom}
use Rattle.xt_base.specs.Space.{cost, item_cost}
use Rattle.xt_base.specs.State.{Change}
use Rattle.xt_trans.specs.LegItems.{change_if, change_in, gain_in, is_item_dirty, leg_of, loss_in, standing_cost}
use Rattle.xt_trans.specs.declared.item.BufItem.{BufItem}

-- what a change's item costs with its marks, and without them
abbrev gain_of : List (ℕ × List ℕ) → ℕ × Change → ℕ
gain_of list c = 16 + 128 * length (joined_marks (at c.0 list) c.1)

abbrev loss_of : List (ℕ × List ℕ) → ℕ × Change → ℕ
loss_of list c = standing_cost (at c.0 list)

-- sums over changes are those over their entries
seen_step : (w : ℕ × Change → ℕ) (d : Bool) (e : ℕ × BufItem) (cs : List (ℕ × Change))
    → sum_by w (cons_option (option_map (λ (c : Change). (e.0, c)) (if d then Some (change_in e.1) else None)) cs) ≡ (if d then w (e.0, change_in e.1) else 0) + sum_by w cs
seen_step w true e cs = sum_by-cons w (e.0, change_in e.1) cs
seen_step w false e cs = omega arith

sum_seen : (w : ℕ × Change → ℕ) (v : ℕ × BufItem → ℕ) → ((e : ℕ × BufItem) → v e ≡ (if is_item_dirty e.1 then w (e.0, change_in e.1) else 0)) → (es : List (ℕ × BufItem)) → sum_by v es ≡ sum_by w (leg_of es).changes
sum_seen w v same [] = refl
sum_seen w v same (e ∷ es) = omega (arith, sum_by-cons v e es, same e, seen_step w (is_item_dirty e.1) e (leg_of es).changes, sum_seen w v same es)

pub gains_are : (list : List (ℕ × List ℕ)) (es : List (ℕ × BufItem)) → sum_by (gain_in list) es ≡ sum_by (gain_of list) (leg_of es).changes
gains_are list es = sum_seen (gain_of list) (gain_in list) (λ e. refl) es

pub losses_are : (list : List (ℕ × List ℕ)) (es : List (ℕ × BufItem)) → sum_by (loss_in list) es ≡ sum_by (loss_of list) (leg_of es).changes
losses_are list es = sum_seen (loss_of list) (loss_in list) (λ e. refl) es

-- weights that agree have one sum
sum_alike : (v w : ℕ × Change → ℕ) (cs : List (ℕ × Change)) → Each (λ c. v c ≡ w c) cs → sum_by v cs ≡ sum_by w cs
sum_alike v w [] same = refl
sum_alike v w (c ∷ cs) same = omega (arith, sum_by-cons v c cs, sum_by-cons w c cs, same.0, sum_alike v w cs same.1)

-- what stands of a block
weight_is : (b : ℕ) (o : Option (List ℕ)) → weight_at item_cost b o ≡ standing_cost o
weight_is b None = refl
weight_is b (Some chunks) = refl

-- later changes find what stood before
others : (e : ℕ × Change) (j : List ℕ) (m : List (ℕ × List ℕ)) (cs : List (ℕ × Change)) → RisesFrom (suc e.0) cs → Each (λ c. at c.0 (put e.0 j m) ≡ at c.0 m) cs
others e j m cs r = each_map (λ c. suc e.0 ≤ c.0) (λ c. at c.0 (put e.0 j m) ≡ at c.0 m) cs (λ c le. at_put_other e.0 c.0 j m (λ same. omega (arith, le, same))) (rises_above (suc e.0) cs r)

-- the items with the marks of a leg joined to them
pub sum_marked : (n : ℕ) (cs : List (ℕ × Change)) (m : List (ℕ × List ℕ)) → RisesFrom n cs → IsRising m
    → sum_by item_cost (with_marks cs m) + sum_by (loss_of m) cs ≡ sum_by item_cost m + sum_by (gain_of m) cs
sum_marked n [] m r rising = refl
sum_marked n (e ∷ cs) m r rising =
    let j : List ℕ = joined_marks (at e.0 m) e.1 in
    let next : List (ℕ × List ℕ) = put e.0 j m in
    let later = sum_marked (suc e.0) cs next r.1 (rises_put 0 e.0 j m (omega arith) rising) in
    let still = others e j m cs r.1 in
    let gains : sum_by (gain_of next) cs ≡ sum_by (gain_of m) cs =
    sum_alike (gain_of next) (gain_of m) cs (each_map (λ c. at c.0 next ≡ at c.0 m) (λ c. gain_of next c ≡ gain_of m c) cs (λ c same. ap (λ o. 16 + 128 * length (joined_marks o c.1)) same) still) in
    let losses : sum_by (loss_of next) cs ≡ sum_by (loss_of m) cs =
    sum_alike (loss_of next) (loss_of m) cs (each_map (λ c. at c.0 next ≡ at c.0 m) (λ c. loss_of next c ≡ loss_of m c) cs (λ c same. ap standing_cost same) still) in
    omega (arith, later, gains, losses, sum_put item_cost 0 e.0 j m rising, weight_is e.0 (at e.0 m), sum_by-cons (gain_of m) e cs, sum_by-cons (loss_of m) e cs)

-- the cost of a list of items, by what they cost
pub cost_none : (ends : ℕ) (es : List (ℕ × List ℕ)) → sum_by item_cost es ≡ 0 → cost ends es ≡ 0
cost_none ends [] h = refl
cost_none ends (e ∷ es) h = absurd (omega (arith, h, sum_by-cons item_cost e es))

pub cost_some : (ends : ℕ) (es : List (ℕ × List ℕ)) → sum_by item_cost es ≢ 0 → cost ends es ≡ ends + sum_by item_cost es
cost_some ends [] h = absurd (h refl)
cost_some ends (e ∷ es) h = cost-cons ends e es

-- the items with the marks of some entries joined to them
pub cost_parts : (es : List (ℕ × BufItem)) (list : List (ℕ × List ℕ)) → IsRising es → IsRising list
    → sum_by item_cost (with_marks (leg_of es).changes list) + sum_by (loss_in list) es ≡ sum_by item_cost list + sum_by (gain_in list) es
cost_parts es list rises rising =
    omega (arith, sum_marked 0 (leg_of es).changes list (rises_view change_if 0 es rises) rising, gains_are list es, losses_are list es)

-- and their cost
pub cost_is_none : (ends total : ℕ) (ms : List (ℕ × List ℕ)) → total ≡ sum_by item_cost ms → total ≡ 0 → 0 ≡ cost ends ms
cost_is_none ends total ms is none = sym (cost_none ends ms (sym is ∙ none))

pub cost_is_some : (ends total : ℕ) (ms : List (ℕ × List ℕ)) → total ≡ sum_by item_cost ms → total ≢ 0 → ends + total ≡ cost ends ms
cost_is_some ends total ms is some = ap (λ (n : ℕ). ends + n) is ∙ sym (cost_some ends ms (λ z. some (is ∙ z)))
