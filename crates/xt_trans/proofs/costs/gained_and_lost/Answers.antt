use Rattle.std.proofs.Common.{◌<◌, ◌∙◌, ◌≡◌, ap, arith, length}
use Rattle.std.proofs.lemmas.List.Sums.{sum_by-drop_more}
use Rattle.xt_trans.proofs.costs.gained_and_lost.Goals as goal
use Rattle.xt_trans.specs.LegItems.{gain_in, item_gain, item_loss, loss_in}

pub loop-e-preserved : goal.loop-e-preserved
loop-e-preserved c =
    let lt : c.loop-e.e-index < length c.args.items.now = omega arith in
    let i = c.loop-e.invariant in
    let gain : c.gain-gained.result ≡ gain_in c.args.list.now c.e-item.result = c.gain-gained.ensures.value ∙ ap (item_gain c.e-item.result.1) c.get-old.ensures in
    let loss : c.loss-lost.result ≡ loss_in c.args.list.now c.e-item.result = c.loss-lost.ensures.value ∙ ap (item_loss c.e-item.result.1) c.get-old.ensures in
    let gains = sum_by-drop_more (gain_in c.args.list.now) c.args.items.now c.loop-e.e-index c.e-item.result lt in
    let losses = sum_by-drop_more (loss_in c.args.list.now) c.args.items.now c.loop-e.e-index c.e-item.result lt in
    record {
      gained = omega (arith, i.gained, gain, gains, ap (gain_in c.args.list.now) c.e-item.is);
      lost = omega (arith, i.lost, loss, losses, ap (loss_in c.args.list.now) c.e-item.is);
      most_gained = omega (arith, i.most_gained, c.gain-gained.ensures.range);
      most_lost = omega (arith, i.most_lost, c.loss-lost.ensures.range);
    }
