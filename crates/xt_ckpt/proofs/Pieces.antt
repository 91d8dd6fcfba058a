-- A text that is cut every 4,096 bytes.
use Rattle.std.proofs.Common.{◌≡◌, ◌∙◌, ℕ, zero, suc, ◌+◌, ◌-◌, ◌*◌, ◌/◌, ◌<◌, ◌≤◌, List, [], ◌∷◌, ◌++◌, length, get_or, take, drop, min, sym, ap, refl, arith, append_assoc}
use Rattle.std.specs.List.{concat}
use Rattle.std.specs.Prelude.{IsNone, Option, Some, ◌↔◌}
use Rattle.std.proofs.lemmas.List.{drop-drop, drop_at, length-take, length-drop, nil_from_length, take-append-drop, take_at, take_min, drop_min}
use Rattle.xt_base.specs.Text.{first_pieces, piece_count, pieces}

-- what is not empty has one piece more than what is behind its first
count_more : (n : ℕ) → 0 < n → (n + 4095) / 4096 ≡ suc ((n - 4096 + 4095) / 4096)
count_more n h = omega arith

-- the pieces of what is not empty
pieces-more : (text : List ℕ) → 0 < length text → pieces text ≡ take 4096 text ∷ pieces (drop 4096 text)
pieces-more text h =
    let count : piece_count text ≡ suc (piece_count (drop 4096 text)) = count_more (length text) h ∙ ap (λ n. suc ((n + 4095) / 4096)) (sym (length-drop 4096 text)) in
    ap (λ n. first_pieces n text) count

-- one more piece is given
pub cut_more : (done : List (List ℕ)) (rest piece left : List ℕ) (all : List (List ℕ)) → 0 < length rest → rest ≡ piece ++ left → length piece ≡ min 4096 (length rest) → done ++ pieces rest ≡ all
    → (done ++ piece ∷ []) ++ pieces left ≡ all
cut_more done rest piece left all h parts size e =
    let front : take 4096 rest ≡ piece = sym (take_min 4096 rest) ∙ ap (take (min 4096 (length rest))) parts ∙ take_at piece left (min 4096 (length rest)) size in
    let back : drop 4096 rest ≡ left = sym (drop_min 4096 rest) ∙ ap (drop (min 4096 (length rest))) parts ∙ drop_at piece left (min 4096 (length rest)) size in
    rw (append_assoc done (piece ∷ []) (pieces left)) ((ap (λ ps. done ++ ps) (sym (pieces-more rest h ∙ ap (λ p. p ∷ pieces (drop 4096 rest)) front ∙ ap (λ l. piece ∷ pieces l) back))) ∙ e)

-- where a piece is given, there was something to come
pub some_rest : (rest : List ℕ) (given : Option (List ℕ)) (piece : List ℕ) → given ≡ Some piece → (IsNone given ↔ (rest ≡ [])) → 0 < length rest
some_rest [] given piece is none =
    let nothing = none.1 refl in
    absurd cc
some_rest (byte ∷ rest) given piece is none = omega arith

-- how many pieces there are
length-first_pieces : (n : ℕ) (text : List ℕ) → length (first_pieces n text) ≡ n
length-first_pieces zero text = refl
length-first_pieces (suc n) text = ap suc (length-first_pieces n (drop 4096 text))

-- a text of at most 263,200 bytes has at most 65
pub few : (text : List ℕ) → length text ≤ 263204 → length (pieces text) ≤ 65
few text h = omega (arith, length-first_pieces (piece_count text) text)

-- the first pieces that cover a text are its bytes
joined : (n : ℕ) (text : List ℕ) → length text ≤ 4096 * n → concat (first_pieces n text) ≡ text
joined zero text h = sym (nil_from_length text (omega arith))
joined (suc n) text h =
    let left : length (drop 4096 text) ≤ 4096 * n = omega (arith, length-drop 4096 text) in
    ap (λ rest. take 4096 text ++ rest) (joined n (drop 4096 text) left) ∙ take-append-drop 4096 text

-- the pieces together are the text
pub concat_pieces : (text : List ℕ) → concat (pieces text) ≡ text
concat_pieces text = joined (piece_count text) text (omega arith)

-- one of the first pieces is a part of the text
piece_at : (n k : ℕ) (text : List ℕ) → k < n → get_or (first_pieces n text) k [] ≡ take 4096 (drop (4096 * k) text)
piece_at zero k text h = absurd (omega arith)
piece_at (suc n) zero text h = refl
piece_at (suc n) (suc k) text h =
    let place : 4096 + 4096 * k ≡ 4096 * suc k = omega arith in
    piece_at n k (drop 4096 text) (omega arith) ∙ ap (take 4096) (drop-drop (4096 * k) 4096 text ∙ ap (λ m. drop m text) place)

-- how long it is
piece_length : (text : List ℕ) (k : ℕ) → k < length (pieces text) → length (get_or (pieces text) k []) ≡ min 4096 (length text - 4096 * k)
piece_length text k h =
    let count = length-first_pieces (piece_count text) text in
    ap length (piece_at (piece_count text) k text (omega (arith, count))) ∙ length-take 4096 (drop (4096 * k) text) ∙ ap (min 4096) (length-drop (4096 * k) text)

-- each piece but the last is whole
pub whole_piece : (text : List ℕ) (k : ℕ) → k + 1 < length (pieces text) → length (get_or (pieces text) k []) ≡ 4096
whole_piece text k h =
    let count = length-first_pieces (piece_count text) text in
    let long : 4096 * (k + 1) ≤ length text = omega (arith, count) in
    piece_length text k (omega arith) ∙ omega arith

-- the last has a byte, and is not longer
pub last_piece : (text : List ℕ) (k : ℕ) → k + 1 ≡ length (pieces text) → (1 ≤ length (get_or (pieces text) k [])) × (length (get_or (pieces text) k []) ≤ 4096)
last_piece text k h =
    let count = length-first_pieces (piece_count text) text in
    let len = piece_length text k (omega arith) in
    let more : 4096 * k < length text = omega (arith, count) in
    (omega (arith, len), omega (arith, len))
