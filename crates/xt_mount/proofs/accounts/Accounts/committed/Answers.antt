use Rattle.std.proofs.Common.{◌∙◌, IfSome, Some, ap, subst, sym}
use Rattle.std.specs.Prelude.{option_map}
use Rattle.xt_base.specs.Maps.{at}
use Rattle.xt_frames.proofs.ContentLemmas.{at_committed}
use Rattle.xt_frames.specs.Contents.{Bufs}
use Rattle.xt_frames.specs.Kept.{Framed, IsClean}
use Rattle.xt_mount.proofs.AccountsLemmas.{unchanged_in}
use Rattle.xt_mount.proofs.ShownLemmas.{clean_nowhere}
use Rattle.xt_mount.proofs.accounts.Accounts.committed.Goals as goal
use Rattle.xt_mount.specs.Accounts.{AccountsState}

pub returns-in-Some : goal.returns-in-Some
returns-in-Some c =
    let now = c.self.inside in
    let frames = now.journal.frames.frames in
    let there = c.in-Some.ensures ∙ ap (λ (f : Bufs). at c.args.block f.frames) c.frames.ensures in
    let clean = subst (λ o. IfSome o IsClean) (sym there) (clean_nowhere frames c.args.block now.transactions (unchanged_in c.args.self.now now.space.size now.transactions now.space.landed now.journal c.self.view_is c.args.block c.requires) c.self.invariant.3) in
    ap Some (c.content.ensures.value ∙ clean) ∙ ap (option_map (λ (f : Framed). f.committed)) there ∙ sym (at_committed c.args.block frames) ∙ ap (λ (a : AccountsState). at c.args.block a.frames.committed) c.self.view_is

pub returns-in-None : goal.returns-in-None
returns-in-None c =
    let now = c.self.inside in
    let there = c.in-None.ensures ∙ ap (λ (f : Bufs). at c.args.block f.frames) c.frames.ensures in
    ap (option_map (λ (f : Framed). f.committed)) there ∙ sym (at_committed c.args.block now.journal.frames.frames) ∙ ap (λ (a : AccountsState). at c.args.block a.frames.committed) c.self.view_is
