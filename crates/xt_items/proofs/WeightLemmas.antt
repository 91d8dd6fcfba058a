-- What the items of a commit list cost: at most so much, and what a put changes.
use Rattle.std.proofs.Common.{◌≡◌, ◌+◌, ◌*◌, ◌≤◌, ◌∷◌, List, None, Some, [], ap, arith, length, ℕ}
use Rattle.std.proofs.lemmas.List.Sums.{sum_by-cons}
use Rattle.std.specs.Prelude.{sum_by}
use Rattle.xt_base.proofs.RisingLemmas.{sum_put, weight_at}
use Rattle.xt_base.specs.Maps.{at, put}
use Rattle.xt_base.specs.Sound.{Each, IsRising}
use Rattle.xt_base.specs.Space.{item_cost}
use Rattle.xt_items.specs.Lists.{HasFewChunks}

-- items cost no more than as many of a whole block
pub weight_le : (es : List (ℕ × List ℕ)) → Each HasFewChunks es → sum_by item_cost es ≤ 4112 * length es
weight_le [] few = omega arith
weight_le (e ∷ es) few = omega (arith, sum_by-cons item_cost e es, few.0, weight_le es few.1)

-- a new item adds what it costs
pub weight_new : (k : ℕ) (set : List ℕ) (es : List (ℕ × List ℕ)) → IsRising es → at k es ≡ None → sum_by item_cost es + (16 + 128 * length set) ≡ sum_by item_cost (put k set es)
weight_new k set es rises none = omega (arith, sum_put item_cost 0 k set es rises, ap (weight_at item_cost k) none)

-- another takes away what the one before it cost
pub weight_again : (k : ℕ) (set before : List ℕ) (es : List (ℕ × List ℕ)) → IsRising es → at k es ≡ Some before
    → sum_by item_cost es + (16 + 128 * length set) ≡ sum_by item_cost (put k set es) + (16 + 128 * length before)
weight_again k set before es rises there = omega (arith, sum_put item_cost 0 k set es rises, ap (weight_at item_cost k) there)
