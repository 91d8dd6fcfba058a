use Rattle.std.proofs.Common.{◌≡◌, ◌-◌, length, take}
use Rattle.xt_mount.proofs.snapshot.transactions_copy.Given as goal

-- the copies so far
abbrev pub invariant-loop-number : goal.invariant-loop-number
invariant-loop-number l = l.copies.items ≡ take l.index l.accounts.transactions

abbrev pub decreases-loop-number : goal.decreases-loop-number
decreases-loop-number l = length l.accounts.transactions - l.index
