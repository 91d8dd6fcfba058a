-- Contents one after another in a room.
use Rattle.std.proofs.Common.{List, [], ap, arith, drop, get_or, length, subst, sym, take, ℕ, ◌*◌, ◌++◌, ◌+◌, ◌<◌, ◌∙◌, ◌∷◌, ◌≡◌}
use Rattle.std.proofs.lemmas.List.{append-nil, drop-drop, drop_at, length-append, take_at, take_more}
use Rattle.std.proofs.lemmas.List.Concat.{flat_map-append}
use Rattle.std.specs.List.{flat_map}

-- one block more: its content stands behind those so far
pub one_more : (f : ℕ → List ℕ) (blocks : List ℕ) (k other : ℕ) → k < length blocks → flat_map f (take (k + 1) blocks) ≡ flat_map f (take k blocks) ++ f (get_or blocks k other)
one_more f blocks k other within =
    ap (flat_map f) (take_more blocks k other within) ∙ flat_map-append f (take k blocks) (get_or blocks k other ∷ []) ∙ ap (λ z. flat_map f (take k blocks) ++ z) (append-nil (f (get_or blocks k other)))

-- what stands behind the bytes that were copied is as it was
pub behind : (front old : List ℕ) (n m : ℕ) → length front ≡ n → drop (n + m) (front ++ drop n old) ≡ drop (n + m) old
behind front old n m len = sym (drop-drop m n (front ++ drop n old)) ∙ ap (drop m) (drop_at front (drop n old) n len) ∙ drop-drop m n old

-- a room to whose front some bytes were copied gets these behind them
pub room_more : (front more old room : List ℕ) (n m : ℕ) → length front ≡ n → room ≡ front ++ drop n old → take n room ++ more ++ drop (n + m) room ≡ (front ++ more) ++ drop (n + m) old
room_more front more old room n m len is =
    subst (λ r. take n r ++ more ++ drop (n + m) r ≡ (front ++ more) ++ drop (n + m) old) (sym is)
    (ap (λ t. t ++ more ++ drop (n + m) (front ++ drop n old)) (take_at front (drop n old) n len) ∙ ap (λ d. front ++ more ++ d) (behind front old n m len))

-- one block more of those whose contents, of a size, stand at the front of a room
pub next : (size : ℕ) (f : ℕ → List ℕ) (blocks : List ℕ) (k block : ℕ) (content old room new : List ℕ)
    → k < length blocks → get_or blocks k block ≡ block → content ≡ f block → length content ≡ size
    → room ≡ flat_map f (take k blocks) ++ drop (k * size) old → length (flat_map f (take k blocks)) ≡ k * size
    → new ≡ take (k * size) room ++ content ++ drop (k * size + length content) room
    → (new ≡ flat_map f (take (k + 1) blocks) ++ drop ((k + 1) * size) old) × (length (flat_map f (take (k + 1) blocks)) ≡ (k + 1) * size)
next size f blocks k block content old room new within found is whole here far put =
    let front = flat_map f (take k blocks) in
    let more : flat_map f (take (k + 1) blocks) ≡ front ++ content =
    one_more f blocks k block within ∙ ap (λ b. front ++ f b) found ∙ ap (λ z. front ++ z) (sym is) in
    let place : k * size + length content ≡ (k + 1) * size = omega (arith, whole) in
    let long : length front + length content ≡ (k + 1) * size = omega (arith, far, place) in (
      put ∙ room_more front content old room (k * size) (length content) far here ∙ ap (λ z. z ++ drop (k * size + length content) old) (sym more)
          ∙ ap (λ n. flat_map f (take (k + 1) blocks) ++ drop n old) place,
      ap length more ∙ length-append front content ∙ long,
    )
