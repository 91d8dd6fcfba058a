use Rattle.std.proofs.Common.{◌∙◌}
use Rattle.xt_mount.proofs.AccountsLemmas.{open_in}
use Rattle.xt_mount.proofs.accounts.Accounts.is_open.Goals as goal

pub returns : goal.returns
returns c =
    let now = c.self.inside in
    c.contains.ensures ∙ open_in c.args.self.now now.space.size now.transactions now.space.landed now.journal c.self.view_is c.args.trans
