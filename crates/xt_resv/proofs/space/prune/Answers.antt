use Rattle.std.proofs.Common.{◌∙◌, ◌++◌, sym, ap, arith}
use Rattle.std.specs.Prelude.{option_to_list}
use Rattle.xt_resv.proofs.LandedLemmas.{all_counted, front_goes}
use Rattle.xt_resv.proofs.space.prune.Goals as goal

pub loop-least-preserved-in-Some : goal.loop-least-preserved-in-Some
loop-least-preserved-in-Some c =
    let cut = c.pop_front.ensures.items ∙ ap (λ o. option_to_list o ++ c.pop_front.new.self.items) c.in-Some.is in
    let goes = front_goes c.args.least c.loop-least.landed.items c.pop_front.new.self.items (c.in-Some.field-0-0, c.in-Some.cost) cut c.loop-least.invariant.rising (sym c.is_front_uncounted.ensures ∙ c.loop-least-test.true) in
    record {
      rising = goes.rising;
      total = omega (arith, goes.total, c.loop-least.invariant.total);
      left = goes.left ∙ c.loop-least.invariant.left;
      less = omega (arith, goes.total, c.loop-least.invariant.total, c.loop-least.invariant.less);
      count = omega (arith, c.pop_front.ensures.len, c.loop-least.invariant.count);
      room = c.pop_front.ensures.capacity ∙ c.loop-least.invariant.room;
    }

pub returns-clause-landed : goal.returns-clause-landed
returns-clause-landed c =
    all_counted c.args.least c.loop-least.landed.items c.loop-least.invariant.rising (sym c.is_front_uncounted.ensures ∙ c.loop-least-test.false) ∙ c.loop-least.invariant.left
