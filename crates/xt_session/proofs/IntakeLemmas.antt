-- Bytes that come behind those that are held.
use Rattle.std.proofs.Common.{List, ap, arith, length, length-drop, take, drop, ℕ, ◌++◌, ◌+◌, ◌≡◌, ◌≤◌, ◌∙◌}
use Rattle.std.proofs.Math.Seq.{take-add}
use Rattle.std.proofs.lemmas.List.{length-take, length-take-le}

-- what is held, and the bytes that came
pub held_more : (held count : ℕ) (old new view : List ℕ) → take held new ≡ take held old → take held old ≡ view → take (held + count) new ≡ view ++ take count (drop held new)
held_more held count old new view kept is = take-add held count new ∙ ap (λ front. front ++ take count (drop held new)) (kept ∙ is)

-- so many came
pub came : (held count : ℕ) (new : List ℕ) → held + count ≤ length new → length (take count (drop held new)) ≡ count
came held count new fits = let few : count ≤ length (drop held new) = omega (arith, length-drop held new) in length-take-le count (drop held new) few

-- no more than the room is held
pub small : (held : ℕ) (bytes : List ℕ) → held ≤ 8401 → length (take held bytes) ≤ 8401
small held bytes fits = omega (arith, length-take held bytes)
