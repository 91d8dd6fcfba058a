use Rattle.std.proofs.Common.{◌∙◌, ap, subst, sym}
use Rattle.std.specs.Prelude.{sum_by}
use Rattle.xt_base.proofs.RisingLemmas.{each_put}
use Rattle.xt_base.specs.Maps.{put}
use Rattle.xt_base.specs.Sound.{Each}
use Rattle.xt_base.specs.Space.{item_cost}
use Rattle.xt_items.proofs.NewLemmas.{chunks_stand}
use Rattle.xt_items.proofs.items.Items.put_first.Goals as goal
use Rattle.xt_items.specs.Lists.{HasFewChunks, Lists}

pub invariant_of-self : goal.invariant_of-self
invariant_of-self c =
    let block = c.args.block in
    let now = c.self.inside in
    let chunks = c.chunks-chunks.result in
    let items = c.put_both.ensures.items in (
      chunks_stand block c.args.vector now.vectors c.put_both.new.vectors now.cil c.put_both.new.cil c.self.invariant.0 c.put_both.ensures.vectors (items ∙ ap (λ s. put block s now.cil) c.chunks-chunks.ensures),
      c.weight_with-weight.ensures.value ∙ ap (λ (l : Lists). sum_by item_cost (put block chunks l.cil)) (sym c.self.view_is) ∙ ap (sum_by item_cost) (sym items),
      subst (Each HasFewChunks) (sym items) (each_put HasFewChunks block chunks now.cil c.weight_with-weight.ensures.few c.self.invariant.2),
    )
