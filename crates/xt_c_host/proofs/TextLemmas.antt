-- A text that is put first.
use Rattle.std.proofs.Common.{List, None, Some, [], ap, arith, cond, length, ℕ, ◌≡◌, ◌≤◌}
use Rattle.std.proofs.lemmas.Bool.{le-leb}
use Rattle.xt_text.specs.Buffer.{put}

-- a text of at most 8,400 bytes that is put into an empty buffer is all that it holds
pub put_first : (text : List ℕ) → length text ≤ 8400 → put (Some []) text ≡ Some text
put_first text short = ap (λ b. cond b (Some text) None) (le-leb (length text) 8448 (omega (arith, short)))
