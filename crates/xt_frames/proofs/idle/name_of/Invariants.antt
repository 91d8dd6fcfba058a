use Rattle.std.proofs.Common.{◌≡◌}
use Rattle.xt_frames.specs.Idle.{IsPacked, name_of}
use Rattle.xt_frames.proofs.idle.name_of.Given as goal

-- the block is not under a name that was seen
abbrev pub invariant-loop-name : goal.invariant-loop-name
invariant-loop-name l = record {
  same : name_of l.block l.name-iterator ≡ name_of l.block l.names.entries;
  packed : IsPacked l.name-iterator;
}
