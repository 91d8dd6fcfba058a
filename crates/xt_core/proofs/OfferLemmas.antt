-- The writes of a flush, one more at a time.
use Rattle.std.proofs.Common.{◌≡◌, ◌∙◌, ◌+◌, ◌<◌, ◌++◌, ◌∷◌, Bool, List, [], ap, arith, get_or, length, length-take, refl, sym, take, ℕ}
use Rattle.std.proofs.lemmas.List.{take_more}
use Rattle.std.specs.Prelude.{min}
use Rattle.xt_base.specs.Jobs.{writes}
use Rattle.xt_base.specs.Text.{content_at}
use Rattle.xt_base.specs.declared.steps.HomeOffer.{HomeOffer}

-- one write more, where as many blocks as answers are there
writes_last : (size : ℕ) (contents : List (ℕ × List ℕ)) (bs : List ℕ) (oks : List Bool) (b : ℕ) (ok : Bool) → length bs ≡ length oks
    → writes size contents (bs ++ b ∷ []) (oks ++ ok ∷ []) ≡ writes size contents bs oks ++ HomeOffer.Write b (content_at size b contents) ok ∷ []
writes_last size contents [] [] b ok same = refl
writes_last size contents [] (o ∷ oks) b ok same = absurd (omega (arith, same))
writes_last size contents (x ∷ bs) [] b ok same = absurd (omega (arith, same))
writes_last size contents (x ∷ bs) (o ∷ oks) b ok same = ap (λ ys. HomeOffer.Write x (content_at size x contents) o ∷ ys) (writes_last size contents bs oks b ok (omega (arith, same)))

-- the write at a place after those before it
pub writes_more : (size : ℕ) (contents : List (ℕ × List ℕ)) (bs : List ℕ) (oks : List Bool) (i b : ℕ) (d : Bool) → i < length bs → length oks ≡ length bs → b ≡ get_or bs i b
    → writes size contents (take (i + 1) bs) (take (i + 1) oks) ≡ writes size contents (take i bs) (take i oks) ++ HomeOffer.Write b (content_at size b contents) (get_or oks i d) ∷ []
writes_more size contents bs oks i b d within same is =
    let answered : i < length oks = omega (arith, same, within) in
    ap (λ xs. writes size contents xs (take (i + 1) oks)) (take_more bs i b within ∙ ap (λ y. take i bs ++ y ∷ []) (sym is))
    ∙ ap (writes size contents (take i bs ++ b ∷ [])) (take_more oks i d answered)
    ∙ writes_last size contents (take i bs) (take i oks) b (get_or oks i d) (length-take i bs ∙ ap (min i) (sym same) ∙ sym (length-take i oks))
