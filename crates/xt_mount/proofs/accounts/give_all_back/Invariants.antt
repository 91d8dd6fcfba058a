use Rattle.std.proofs.Common.{◌≤◌, length}
use Rattle.xt_base.specs.Space.{granted}
use Rattle.xt_mount.proofs.accounts.give_all_back.Given as goal

abbrev pub invariant-loop-opened : goal.invariant-loop-opened
invariant-loop-opened l = granted l.transactions ≤ l.space.granted

abbrev pub decreases-loop-opened : goal.decreases-loop-opened
decreases-loop-opened l = length l.transactions
