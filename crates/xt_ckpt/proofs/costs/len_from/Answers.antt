use Rattle.std.proofs.Common.{◌≡◌, ◌+◌, ◌*◌, ◌<◌, ap, arith, drop, length, sum_by, ◌∙◌}
use Rattle.xt_ckpt.proofs.Entries.{cost_more}
use Rattle.xt_ckpt.specs.Entries.{chunks_at, entry_len}
use Rattle.xt_ckpt.proofs.costs.len_from.Goals as goal

pub loop-index-preserved : goal.loop-index-preserved
loop-index-preserved g c =
    let es = g.S.ItemSource.entries c.args.items.now in
    let less : c.loop-index.index < length es = omega (arith, c.item_count-index-end.ensures) in
    let cost : c.item_len-len.result ≡ 16 + 128 * length (chunks_at es c.loop-index.index) = c.item_len-len.ensures.value ∙ ap (λ (cs : _). 16 + 128 * length cs) c.chunks_at.ensures in
    record {
      sum = cost_more es c.loop-index.index c.loop-index.len c.item_len-len.result (sum_by entry_len (drop c.args.from es)) less cost c.loop-index.invariant.sum;
      range = omega (arith, c.item_len-len.ensures.range, c.loop-index.invariant.range, c.loop-index.invariant.from);
      from = omega (arith, c.loop-index.invariant.from);
      within = omega (arith, less);
    }
