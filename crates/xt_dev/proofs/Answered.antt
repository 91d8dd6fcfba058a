-- Writes with their answers: one more of them, and those of a plan.
use Rattle.std.proofs.Common.{Bool, List, [], add-one, ap, append_assoc, arith, count_by, drop, false, get_or, length, map, not, refl, replicate, set, sym, take, true, ℕ, ◌+◌, ◌++◌, ◌-◌, ◌∙◌, ◌∷◌, ◌≡◌, ◌<◌}
use Rattle.std.proofs.Math.ListN.{get_or-map}
use Rattle.std.proofs.Math.Seq.{take-suc, take-suc-set}
use Rattle.std.proofs.lemmas.List.{drop-drop, drop-replicate, drop-set-lt, length-map, length-take}
use Rattle.std.proofs.lemmas.List.Sums.{sum_by-append}
use Rattle.std.specs.Borrow.{Bor}
use Rattle.xt_base.specs.Jobs.{writes}
use Rattle.xt_base.specs.Text.{content_at}
use Rattle.xt_base.specs.declared.steps.HomeOffer.TheVariants as HomeOffer
use Rattle.xt_dev.specs.Devices.{Tells, failures_after}
use Rattle.xt_dev.specs.Flushes.{answered, contents}

-- what a device tells of one more call
pub tells_more : {C : Type 0} (told telling tells : Bool) (before now after calls more : List C) (call : C) → Tells told before calls telling now → Tells telling now (call ∷ []) tells after → more ≡ calls ++ call ∷ [] → Tells told before more tells after
tells_more told telling tells before now after calls more call first next is still =
    let last = next still in
    let begun = first last.0 in
    (begun.0, last.1 ∙ ap (λ c. c ++ call ∷ []) begun.1 ∙ append_assoc before calls (call ∷ []) ∙ ap (λ c. before ++ c) (sym is))

-- one more write with its answer
answered_snoc : (ws : List (ℕ × List ℕ)) (oks : List Bool) (w : ℕ × List ℕ) (ok : Bool) → length ws ≡ length oks → answered (ws ++ w ∷ []) (oks ++ ok ∷ []) ≡ answered ws oks ++ HomeOffer.Write w.0 w.1 ok ∷ []
answered_snoc [] [] w ok same = refl
answered_snoc [] (o ∷ oks) w ok same = absurd (omega (arith, same))
answered_snoc (v ∷ ws) [] w ok same = absurd (omega (arith, same))
answered_snoc (v ∷ ws) (o ∷ oks) w ok same = ap (λ offers. HomeOffer.Write v.0 v.1 o ∷ offers) (answered_snoc ws oks w ok (omega (arith, same)))

-- the answers up to the one that was set last
answers_more : (oks : List Bool) (i : ℕ) (ok : Bool) → i < length oks → take (i + 1) (set oks i ok) ≡ take i oks ++ ok ∷ []
answers_more oks i ok inside = ap (λ n. take n (set oks i ok)) (add-one i) ∙ take-suc-set oks i ok inside

-- the contents up to one more
contents_more : (ws : List (ℕ × Bor (List ℕ))) (i : ℕ) (w : ℕ × Bor (List ℕ)) → i < length ws → w ≡ get_or ws i w → take (i + 1) (contents ws) ≡ take i (contents ws) ++ (w.0, w.1.now) ∷ []
contents_more ws i w inside is =
    let seen : ℕ × Bor (List ℕ) → ℕ × List ℕ = λ v. (v.0, v.1.now) in
    let size : length (contents ws) ≡ length ws = length-map ws seen in
    ap (λ n. take n (contents ws)) (add-one i) ∙ take-suc (contents ws) i (w.0, w.1.now) (omega (arith, size))
    ∙ ap (λ v. take i (contents ws) ++ v ∷ []) (get_or-map seen ws i w ∙ ap seen (sym is))

-- one more write of a slice, with the answer that was set
pub answered_more : (ws : List (ℕ × Bor (List ℕ))) (oks : List Bool) (i : ℕ) (w : ℕ × Bor (List ℕ)) (ok : Bool) → i < length ws → i < length oks → w ≡ get_or ws i w
    → answered (take (i + 1) (contents ws)) (take (i + 1) (set oks i ok)) ≡ answered (take i (contents ws)) (take i oks) ++ HomeOffer.Write w.0 w.1.now ok ∷ []
answered_more ws oks i w ok in_ws in_oks is =
    let seen : ℕ × Bor (List ℕ) → ℕ × List ℕ = λ v. (v.0, v.1.now) in
    let same : length (take i (contents ws)) ≡ length (take i oks) = omega (arith, length-take i (contents ws), length-take i oks, length-map ws seen) in
    ap (λ xs. answered xs (take (i + 1) (set oks i ok))) (contents_more ws i w in_ws is)
    ∙ ap (λ ys. answered (take i (contents ws) ++ (w.0, w.1.now) ∷ []) ys) (answers_more oks i ok in_oks)
    ∙ answered_snoc (take i (contents ws)) (take i oks) (w.0, w.1.now) ok same

-- one answer less stands for none
pub unused_less : (oks : List Bool) (i : ℕ) (ok : Bool) → drop i oks ≡ replicate (8 - i) false → drop (i + 1) (set oks i ok) ≡ replicate (8 - (i + 1)) false
unused_less oks i ok unused =
    drop-set-lt (i + 1) oks i ok (omega arith) ∙ sym (drop-drop 1 i oks) ∙ ap (λ rest. drop 1 rest) unused ∙ drop-replicate 1 (8 - i) false
    ∙ ap (λ n. replicate n false) (let e : (8 - i) - 1 ≡ 8 - (i + 1) = omega arith in e)

-- one more failure where the answer that was set is one
pub failures_more : (oks : List Bool) (i : ℕ) (ok : Bool) (before now after : ℕ) → i < length oks → now ≡ before + count_by not (take i oks) → after ≡ failures_after ok now
    → after ≡ before + count_by not (take (i + 1) (set oks i ok))
failures_more oks i ok before now after inside counted raised =
    let more : count_by not (take (i + 1) (set oks i ok)) ≡ count_by not (take i oks) + count_by not (ok ∷ []) = ap (λ xs. count_by not xs) (answers_more oks i ok inside) ∙ sum_by-append _ (take i oks) (ok ∷ []) in
    elim ok as (λ o. (after ≡ failures_after o now) → (count_by not (take (i + 1) (set oks i ok)) ≡ count_by not (take i oks) + count_by not (o ∷ [])) → after ≡ before + count_by not (take (i + 1) (set oks i ok)))
    [ true ↦ λ r m. omega arith | false ↦ λ r m. omega arith ] raised more

-- of blocks with their committed contents, the writes are those of the plan
pub answered_plan : (size : ℕ) (committed : List (ℕ × List ℕ)) (plan : List ℕ) (answers : List Bool) → answered (map (λ b. (b, content_at size b committed)) plan) answers ≡ writes size committed plan answers
answered_plan size committed [] answers = refl
answered_plan size committed (b ∷ bs) [] = refl
answered_plan size committed (b ∷ bs) (ok ∷ oks) = ap (λ offers. HomeOffer.Write b (content_at size b committed) ok ∷ offers) (answered_plan size committed bs oks)
