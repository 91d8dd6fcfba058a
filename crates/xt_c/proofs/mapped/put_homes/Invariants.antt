use Rattle.std.proofs.Common.{length, take, ◌≡◌}
use Rattle.xt_c.proofs.mapped.put_homes.Given as goal
use Rattle.xt_c.specs.Working.{with_homes}

-- the contents so far stand at their places, and the device is as long as it was
abbrev pub invariant-loop-k : goal.invariant-loop-k
invariant-loop-k l =
    (l.device ≡ with_homes l.mount (take l.k l.blocks) l.initial.device)
    × (length l.device ≡ length l.initial.device)
