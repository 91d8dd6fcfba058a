use Rattle.std.proofs.Common.{◌∙◌, ◌^◌, ◌<◌, All, ap, arith, length, subst}
use Rattle.std.proofs.lemmas.List.{take_all}
use Rattle.xt_base.specs.Chunks.{word_of}
use Rattle.xt_ckpt.specs.Entries.{IsStored}
use Rattle.xt_ckpt.proofs.Written.{stored_more}
use Rattle.xt_ckpt.proofs.writing.are_stored.Goals as goal

pub loop-index-preserved : goal.loop-index-preserved
loop-index-preserved g c =
    let es = g.S.ItemSource.entries c.args.items.now in
    let less : c.loop-index.index < length es = omega (arith, c.item_count-index-end.ensures) in
    let block = subst (λ b. b < 2 ^ 64) c.block_at-block.ensures c.block_at-block.type_inv in
    stored_more es c.loop-index.index c.word-word.result less block c.word-word.type_inv (c.word-word.ensures.value ∙ ap word_of c.chunks_at.ensures) (c.word-word.ensures.back ∙ c.chunks_at.ensures) c.loop-index.invariant

pub returns : goal.returns
returns g c =
    let es = g.S.ItemSource.entries c.args.items.now in
    subst (All IsStored) (take_all c.loop-index.index es (omega (arith, c.item_count-index-end.ensures))) c.loop-index.invariant
