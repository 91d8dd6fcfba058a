use Rattle.std.proofs.Common.{◌∙◌, ◌++◌, ◌∷◌, [], ap, sym}
use Rattle.xt_base.specs.State.{Transaction}
use Rattle.xt_mount.proofs.SnapshotLemmas.{taken_all, taken_more}
use Rattle.xt_mount.proofs.snapshot.transactions_copy.Goals as goal

pub loop-number-preserved : goal.loop-number-preserved
loop-number-preserved c =
    c.in_ok-push.ensures.items ∙ ap (λ (t : Transaction). c.loop-number.copies.items ++ (c.in-Some.number, t) ∷ []) c.in_ok-trans_copy.ensures
    ∙ ap (λ xs. xs ++ (c.in-Some.number, c.in-Some.opened) ∷ []) c.loop-number.invariant
    ∙ sym (taken_more c.args.accounts.now.transactions c.loop-number.index (c.in-Some.number, c.in-Some.opened) (sym c.in-Some.ensures))

pub returns : goal.returns
returns c = c.loop-number.invariant ∙ taken_all c.args.accounts.now.transactions c.loop-number.index (sym c.in_default.ensures)
