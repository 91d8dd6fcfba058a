use Rattle.std.proofs.Common.{◌≡◌, ◌∙◌, IfSome, ap, sym}
use Rattle.std.proofs.lemmas.Bool.{false≢true}
use Rattle.std.specs.Prelude.{is_some}
use Rattle.xt_base.specs.Calls.{seen}
use Rattle.xt_base.specs.Maps.{at}
use Rattle.xt_base.specs.State.{Leg, Transaction}
use Rattle.xt_frames.specs.Contents.{contents_of}
use Rattle.xt_journal.specs.Over.{leg_over}
use Rattle.xt_mount.proofs.AccountsLemmas.{ok_then, open_in, shown_if}
use Rattle.xt_mount.proofs.ShownLemmas.{frames_there}
use Rattle.xt_mount.proofs.accounts.Accounts.seen.Goals as goal
use Rattle.xt_mount.specs.Accounts.{AccountsState}
use Rattle.xt_mount.specs.Shown.{has_in_place}

pub copy_seen-requires : goal.copy_seen-requires
copy_seen-requires c =
    let now = c.self.inside in
    λ here. frames_there now.journal.frames.frames c.args.trans c.in-Some.opened.now now.transactions (sym c.in-Some.ensures) c.self.invariant.3 c.args.block (sym (ap (has_in_place c.args.block) c.leg.ensures) ∙ here)

pub unreachable-requires : goal.unreachable-requires
unreachable-requires c =
    let now = c.self.inside in
    false≢true (ap is_some c.in-None.ensures ∙ open_in c.args.self.now now.space.size now.transactions now.space.landed now.journal c.self.view_is c.args.trans ∙ c.requires.there)

pub returns : goal.returns
returns c =
    let now = c.self.inside in
    let frames = now.journal.frames.frames in
    ok_then c.copy_seen.result (λ content. content ≡ seen now.journal.form.size c.args.block (leg_over frames c.leg.result.now) (contents_of now.journal.frames))
    (λ content. IfSome (at c.args.trans c.args.self.now.transactions) (λ t. content ≡ seen c.args.self.now.form.size c.args.block t.leg c.args.self.now.frames))
    (λ content is.
    shown_if c.args.self.now now.space.size now.transactions now.space.landed now.journal c.self.view_is c.args.trans c.in-Some.opened.now (sym c.in-Some.ensures)
    (λ (a : AccountsState) (t : Transaction). content ≡ seen a.form.size c.args.block t.leg a.frames)
    (is ∙ ap (λ (l : Leg). seen now.journal.form.size c.args.block (leg_over frames l) (contents_of now.journal.frames)) c.leg.ensures))
    c.copy_seen.ensures
