use Rattle.std.proofs.Common.{Bool, List, arith, rules, subst, sym, ℕ, ◌≡◌}
use Rattle.std.specs.List.{IsDistinct}
use Rattle.std.specs.Prelude.{filter, nat_eq, not}
use Rattle.std.proofs.lemmas.Fn.{filter_same}
use Rattle.xt_dev.proofs.Doubted.{once_kept}
use Rattle.xt_dev.specs.Doubting.{is_among}
use Rattle.xt_dev.proofs.doubts.Doubts.synced.Goals as goal

pub returns-clause-doubtful : goal.returns-clause-doubtful
returns-clause-doubtful c = filter_same _ _ _ (λ x b f' k. search rules) _ _ c.retain.ensures.filtered

pub invariant_of-self : goal.invariant_of-self
invariant_of-self c =
    let old : List ℕ = c.args.self.now.doubtful.items in
    let written : List ℕ = c.args.self.now.written.items in
    let kept : ℕ → Bool = λ s. not (is_among written s) in
    let filtered : c.retain.new.self.items ≡ filter kept old = filter_same _ _ _ (λ x b f' k. search rules) _ _ c.retain.ensures.filtered in
    record {
      room = omega (arith, c.clear.ensures.len, c.retain.ensures.capacity, c.retain.ensures.bound);
      once = subst (λ l. IsDistinct nat_eq l) (sym filtered) (once_kept kept old c.args.self.now.once);
    }
