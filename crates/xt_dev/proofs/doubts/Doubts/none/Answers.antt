use Rattle.std.proofs.Common.{arith, subst, sym}
use Rattle.std.specs.List.{IsDistinct}
use Rattle.std.specs.Prelude.{nat_eq}
use Rattle.xt_dev.proofs.Doubted.{none_twice}
use Rattle.xt_dev.proofs.doubts.Doubts.none.Goals as goal

pub invariant_of-result : goal.invariant_of-result
invariant_of-result c = record {
  room = omega (arith, c.new.ensures.len, c.new-2.ensures.len);
  once = subst (λ l. IsDistinct nat_eq l) (sym c.new-2.ensures.items) none_twice;
}
