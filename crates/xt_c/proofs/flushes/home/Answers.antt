use Rattle.std.proofs.Common.{slice_get, subst, sym, ◌∙◌, Some, true, ◌≡◌}
use Rattle.xt_base.specs.Maps.{is_in}
use Rattle.xt_c.proofs.ElementLemmas.{all_at}
use Rattle.xt_c.proofs.flushes.home.Goals as goal
use Rattle.xt_mount.specs.Accounts.{IsUnchanged}

-- what holds of each block of the plan holds of the one at the place
pub home_of-requires-clause-unchanged : goal.home_of-requires-clause-unchanged
home_of-requires-clause-unchanged c =
    all_at (λ b. IsUnchanged b c.args.mount.now.transactions) c.in-Ok.plan c.args.index c.in-Some.block c.in-Ok.ensures.unchanged
    (subst (λ xs. slice_get xs c.args.index ≡ Some c.in-Some.block) c.blocks-2.ensures.value (sym c.block_at.ensures ∙ c.in-Some.is))

pub home_of-requires-clause-committed : goal.home_of-requires-clause-committed
home_of-requires-clause-committed c =
    all_at (λ b. is_in b c.args.mount.now.frames.committed ≡ true) c.in-Ok.plan c.args.index c.in-Some.block c.in-Ok.ensures.committed
    (subst (λ xs. slice_get xs c.args.index ≡ Some c.in-Some.block) c.blocks-2.ensures.value (sym c.block_at.ensures ∙ c.in-Some.is))
