use Rattle.std.proofs.Common.{◌≡◌, ◌∙◌, false, rules, sym, true}
use Rattle.xt_frames.proofs.BlockLemmas.{all_stays, one_leaves}
use Rattle.xt_frames.proofs.frames.Frames.settle_block.Goals as goal

pub returns-then-not-stays : goal.returns-then-not-stays
returns-then-not-stays c = λ busy same others.
    let leaves : c.args.stays ≡ false = search rules in
    c.leave.ensures ∙ one_leaves busy c.args.block c.args.self.now others c.args.is_kept (sym leaves ∙ same)

pub returns-else-not-stays : goal.returns-else-not-stays
returns-else-not-stays c = λ busy same others.
    let stays : c.args.stays ≡ true = search rules in
    all_stays busy c.args.block c.args.self.now others c.args.is_kept (sym stays ∙ same) c.idle_is_short.ensures
