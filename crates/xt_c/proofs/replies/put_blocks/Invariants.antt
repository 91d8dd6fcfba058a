use Rattle.std.proofs.Common.{get_or, ℕ, ◌<◌, ◌≡◌}
use Rattle.xt_c.proofs.replies.put_blocks.Given as goal

-- the blocks so far stand in the room
abbrev pub invariant-loop-k : goal.invariant-loop-k
invariant-loop-k l = (i : ℕ) → i < l.k → get_or l.room i 0 ≡ get_or l.blocks i 0
