use Rattle.std.proofs.Common.{ap, length, subst, sym, take, ◌/◌, ◌<◌, ◌∙◌}
use Rattle.std.proofs.lemmas.List.Elements.{All-get_or}
use Rattle.std.proofs.lemmas.List.Sums.{fold_more}
use Rattle.xt_c.proofs.MappedLemmas.{below_at}
use Rattle.xt_c.proofs.mapped.put_homes.Goals as goal
use Rattle.xt_c.specs.Working.{with_home, with_homes}
use Rattle.xt_mount.specs.Accounts.{IsUnchanged}

-- what holds of each block holds of the one at the place
pub put_home-requires-clause-unchanged : goal.put_home-requires-clause-unchanged
put_home-requires-clause-unchanged c =
    subst (λ b. IsUnchanged b c.args.mount.now.transactions) (sym c.index-blocks-k.is)
    (All-get_or (λ b. IsUnchanged b c.args.mount.now.transactions) c.args.blocks.now c.loop-k.k c.index-blocks-k.result c.loop-k-test.true c.requires.unchanged)

-- the device is as long as it was, so the block lies within it
pub put_home-requires-clause-within : goal.put_home-requires-clause-within
put_home-requires-clause-within c =
    subst (λ n. c.index-blocks-k.result < n / c.args.mount.now.form.size) (sym c.loop-k.invariant.1)
    (below_at (length c.args.device.now / c.args.mount.now.form.size) c.args.blocks.now c.loop-k.k c.index-blocks-k.result c.requires.within c.loop-k-test.true c.index-blocks-k.is)

-- one content more stands at its place
pub loop-k-preserved : goal.loop-k-preserved
loop-k-preserved c =
    let m = c.args.mount.now in
    let far = with_homes m (take c.loop-k.k c.args.blocks.now) c.args.device.now in (
      c.put_home.ensures.put ∙ ap (λ d. with_home m d c.index-blocks-k.result) c.loop-k.invariant.0 ∙ ap (with_home m far) c.index-blocks-k.is
          ∙ sym (fold_more (with_home m) c.args.device.now c.args.blocks.now c.loop-k.k c.index-blocks-k.result c.loop-k-test.true),
      c.put_home.ensures.same ∙ c.loop-k.invariant.1,
    )
