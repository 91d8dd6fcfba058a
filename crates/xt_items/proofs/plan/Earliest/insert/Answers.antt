use Rattle.std.proofs.Common.{◌≡◌, ◌∙◌, ap, arith, length, sym, take}
use Rattle.std.proofs.Math.ListN.{length-set}
use Rattle.std.proofs.lemmas.List.{length-take-le}
use Rattle.xt_items.specs.Plans.{inserted}
use Rattle.xt_items.proofs.PlanLemmas.{room_ends, room_left, shifted_more}
use Rattle.xt_items.proofs.plan.Earliest.insert.Goals as goal

pub loop-place-preserved : goal.loop-place-preserved
loop-place-preserved c =
    let now = c.loop-place.self-inside in
    let i = c.loop-place.invariant in
    record {
      count = i.count;
      slots = length-set now.entries _ _ ∙ i.slots;
      list = shifted_more c.loop-place.place now.count now.entries _ c.loop-place.carried (0, 0) (omega arith) (omega arith) i.list;
    }

pub returns-then-self-lt-FLUSH_BLOCKS : goal.returns-then-self-lt-FLUSH_BLOCKS
returns-then-self-lt-FLUSH_BLOCKS c =
    let now = c.loop-place.self-inside in
    let i = c.loop-place.invariant in
    let old : length (take c.self.inside.count c.self.inside.entries) ≡ c.self.inside.count = length-take-le c.self.inside.count c.self.inside.entries (omega arith) in
    let at : c.loop-place.place ≡ now.count = omega (arith, ap length c.self.view_is) in
    room_left 8 now.count now.entries (inserted c.args.at c.args.entry c.args.self.now) c.loop-place.carried (omega arith) (omega arith) (ap (λ k. inserted k c.loop-place.carried (take now.count now.entries)) (sym at) ∙ i.list)

pub returns-else-self-lt-FLUSH_BLOCKS : goal.returns-else-self-lt-FLUSH_BLOCKS
returns-else-self-lt-FLUSH_BLOCKS c =
    let now = c.loop-place.self-inside in
    let i = c.loop-place.invariant in
    let old : length (take c.self.inside.count c.self.inside.entries) ≡ c.self.inside.count = length-take-le c.self.inside.count c.self.inside.entries (omega arith) in
    let at : c.loop-place.place ≡ now.count = omega (arith, ap length c.self.view_is) in
    room_ends 8 now.count now.entries (inserted c.args.at c.args.entry c.args.self.now) c.loop-place.carried (omega arith) (omega arith) (ap (λ k. inserted k c.loop-place.carried (take now.count now.entries)) (sym at) ∙ i.list)
