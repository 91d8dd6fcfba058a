use Rattle.std.proofs.Common.{◌≡◌, length, take}
use Rattle.xt_items.specs.Plans.{inserted}
use Rattle.xt_items.proofs.plan.Earliest.insert.Given as goal

abbrev pub invariant-loop-place : goal.invariant-loop-place
invariant-loop-place l = record {
  count : l.self-inside.count ≡ l.place-end;
  slots : length l.self-inside.entries ≡ 8;
  list : inserted l.place l.carried (take l.self-inside.count l.self-inside.entries) ≡ inserted l.at l.fn.entry l.fn.self;
}
