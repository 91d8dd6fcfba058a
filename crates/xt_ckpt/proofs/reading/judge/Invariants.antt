use Rattle.std.proofs.Common.{◌≤◌, ◌-◌, length, take}
use Rattle.xt_ckpt.specs.Drafts.{seen}
use Rattle.xt_ckpt.specs.Fields.{Reads, opening}
use Rattle.xt_ckpt.proofs.reading.judge.Given as goal

abbrev pub invariant-fields : goal.invariant-fields
invariant-fields l = record {
  within : l.at ≤ length l.input;
  reads : Reads opening (take l.at l.input) (seen l.draft);
}

abbrev pub decreases-fields : goal.decreases-fields
decreases-fields l = length l.input - l.at
