use Rattle.std.proofs.Common.{◌∙◌, ap, sym}
use Rattle.xt_base.specs.Legs.{change_of}
use Rattle.xt_base.specs.Maps.{without}
use Rattle.xt_base.specs.State.{Leg}
use Rattle.xt_trans.proofs.ItemLemmas.{change_is, taken_leg}
use Rattle.xt_trans.specs.LegItems.{change_in, leg_of}
use Rattle.xt_trans.proofs.trans.TransRec.take_change.Goals as goal

pub returns : goal.returns
returns c =
    let block = c.in_ok-block.block in
    let left = c.take_dirty-item.ensures.leg ∙ ap (λ (l : Leg). record l { changes = without block l.changes }) c.self.view_is in
    let same = sym (ap (change_of block) c.self.view_is) ∙ change_is block c.self.inside.items c.self.invariant ∙ ap change_in (sym c.take_dirty-item.ensures.value) in
    taken_leg c.args.self.now (leg_of c.take_dirty-item.new.items) block (change_of block c.args.self.now) (change_in c.take_dirty-item.result) c.in_ok-block.ensures left same
