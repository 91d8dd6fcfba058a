use Rattle.std.proofs.Common.{ap, subst, sym, ◌∙◌}
use Rattle.std.proofs.lemmas.List.Elements.{All-get_or}
use Rattle.xt_base.specs.Form.{Form}
use Rattle.xt_c.proofs.HomeLemmas.{next}
use Rattle.xt_c.proofs.flushes.put_contents.Goals as goal
use Rattle.xt_c.specs.Working.{content_in}
use Rattle.xt_mount.specs.Accounts.{IsUnchanged}

-- what holds of each block holds of the one at the place
pub content_of-requires-clause-unchanged : goal.content_of-requires-clause-unchanged
content_of-requires-clause-unchanged c =
    subst (λ b. IsUnchanged b c.args.mount.now.transactions) (sym c.index-blocks-k.is)
    (All-get_or (λ b. IsUnchanged b c.args.mount.now.transactions) c.args.blocks.now c.loop-k.k c.index-blocks-k.result c.loop-k-test.true c.requires.unchanged)

-- one content more stands at the front of the room
pub loop-k-preserved : goal.loop-k-preserved
loop-k-preserved c =
    let size_is = c.block_bytes-size.ensures.value ∙ ap (λ (f : Form). f.size) c.form.ensures in
    let step = next c.block_bytes-size.result (content_in c.args.mount.now) c.args.blocks.now c.loop-k.k c.index-blocks-k.result c.content_of.result.now c.args.room.now c.loop-k.room c.put_content_at.new.room
    c.loop-k-test.true (sym c.index-blocks-k.is) c.content_of.ensures.value (c.content_of.ensures.whole ∙ sym size_is) c.loop-k.invariant.0 c.loop-k.invariant.1 c.put_content_at.ensures.put in
    (step.0, step.1, c.put_content_at.ensures.same ∙ c.loop-k.invariant.2)
