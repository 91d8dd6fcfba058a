use Rattle.std.proofs.Common.{◌∙◌, Some, ap, subst, sym}
use Rattle.std.specs.Prelude.{option_map}
use Rattle.xt_base.specs.State.{Transaction}
use Rattle.xt_frames.specs.Contents.{Bufs}
use Rattle.xt_journal.specs.Over.{trans_over}
use Rattle.xt_mount.proofs.AccountsLemmas.{at_in}
use Rattle.xt_mount.proofs.ShownLemmas.{frames_there}
use Rattle.xt_mount.proofs.accounts.Accounts.get.Goals as goal
use Rattle.xt_mount.specs.Shown.{HasFrames}

pub new-requires : goal.new-requires
new-requires c =
    let now = c.self.inside in
    let trans : Transaction = c.in-Some.opened.now in
    subst (λ (f : Bufs). HasFrames f.frames trans.leg) (sym c.frames.ensures) (frames_there now.journal.frames.frames c.args.trans trans now.transactions (sym c.in-Some.ensures) c.self.invariant.3)

pub returns-in-Some : goal.returns-in-Some
returns-in-Some c =
    let now = c.self.inside in
    let trans : Transaction = c.in-Some.opened.now in
    ap Some (c.new.ensures ∙ ap (λ (f : Bufs). trans_over f.frames trans) c.frames.ensures) ∙ ap (option_map (trans_over now.journal.frames.frames)) c.in-Some.ensures
    ∙ at_in c.args.self.now now.space.size now.transactions now.space.landed now.journal c.self.view_is c.args.trans

pub returns-in-None : goal.returns-in-None
returns-in-None c =
    let now = c.self.inside in
    ap (option_map (trans_over now.journal.frames.frames)) c.in-None.ensures ∙ at_in c.args.self.now now.space.size now.transactions now.space.landed now.journal c.self.view_is c.args.trans
