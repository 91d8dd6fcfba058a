-- Texts put one after another.
use Rattle.std.proofs.Common.{List, None, Option, Some, [], append-nil, append_assoc, arith, length-append, refl, ℕ, ◌++◌, ◌≡◌}
use Rattle.std.proofs.lemmas.Grind.{common_steps}
use Rattle.xt_text.specs.Buffer.{put}

-- two texts put one after the other are the two joined
pub put_put : (o : Option (List ℕ)) (a b : List ℕ) → put (put o a) b ≡ put o (a ++ b)
put_put None a b = refl
put_put (Some held) a b = grind (arith, common_steps, append_assoc held a b, length-append a b, length-append held a)

-- no text leaves the buffer as it is
pub put_none : (o : Option (List ℕ)) → put o [] ≡ o
put_none None = refl
put_none (Some held) = grind (arith, common_steps, append-nil held)
