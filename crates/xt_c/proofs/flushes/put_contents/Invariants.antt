use Rattle.std.proofs.Common.{drop, length, take, ◌++◌, ◌*◌, ◌≡◌}
use Rattle.std.specs.List.{flat_map}
use Rattle.xt_c.proofs.flushes.put_contents.Given as goal
use Rattle.xt_c.specs.Working.{content_in}

-- the contents so far stand at the front of the room, and behind them it is as it was
abbrev pub invariant-loop-k : goal.invariant-loop-k
invariant-loop-k l =
    (l.room ≡ flat_map (content_in l.mount) (take l.k l.blocks) ++ drop (l.k * l.size) l.initial.room)
    × (length (flat_map (content_in l.mount) (take l.k l.blocks)) ≡ l.k * l.size)
    × (length l.room ≡ length l.initial.room)
