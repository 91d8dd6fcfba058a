-- Pieces joined in order, and a seal put behind a head.
use Rattle.std.proofs.Common.{List, [], ap, arith, drop, get_or, length, take, ℕ, ◌++◌, ◌+◌, ◌-◌, ◌<◌, ◌∙◌, ◌∷◌, ◌≡◌}
use Rattle.std.proofs.lemmas.List.{append-nil, drop_all, length-drop, take_more}
use Rattle.std.proofs.lemmas.List.Folds.{concat-append}
use Rattle.std.specs.List.{concat}
use borrow.Rule.Slice.PartMut.{put_mid}

-- one piece more stands behind those so far
pub with_piece : (pieces : List (List ℕ)) (k : ℕ) (piece : List ℕ) → k < length pieces → get_or pieces k piece ≡ piece → concat (take (k + 1) pieces) ≡ concat (take k pieces) ++ piece
with_piece pieces k piece within found =
    ap concat (take_more pieces k piece within) ∙ concat-append (take k pieces) (get_or pieces k piece ∷ []) ∙ ap (λ z. concat (take k pieces) ++ z) (append-nil (get_or pieces k piece) ∙ found)

-- bytes that are put in place of all from a place on
pub put_last : (n : ℕ) (xs ys : List ℕ) → put_mid n (length xs - n) xs ys ≡ take n xs ++ ys
put_last n xs ys = ap (λ t. take n xs ++ (ys ++ t)) (drop_all (length xs - n) (drop n xs) (omega (arith, length-drop n xs))) ∙ ap (λ t. take n xs ++ t) (append-nil ys)
