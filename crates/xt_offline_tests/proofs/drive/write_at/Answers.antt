use Rattle.std.proofs.Common.{◌<◌, arith, length, subst, sym}
use Rattle.std.proofs.lemmas.List.Elements.{All-get_or}
use Rattle.xt_mount.specs.Accounts.{IsUnchanged}
use Rattle.xt_offline_tests.proofs.drive.write_at.Goals as goal

pub committed-requires : goal.committed-requires
committed-requires c =
    let within : c.min.result < length c.args.blocks.now = omega (arith, c.min.ensures, c.requires.some) in
    subst (λ b. IsUnchanged b c.args.mount.now.transactions) (sym c.index-blocks-min.is)
    (All-get_or (λ b. IsUnchanged b c.args.mount.now.transactions) c.args.blocks.now c.min.result c.index-blocks-min.result within c.requires.unchanged)
