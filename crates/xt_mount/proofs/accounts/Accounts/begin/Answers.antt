use Rattle.std.proofs.Common.{◌∙◌, ◌*◌, List, ap, arith, length, subst, sym, ℕ}
use Rattle.xt_base.specs.Calls.{new_trans}
use Rattle.xt_base.specs.Maps.{put}
use Rattle.xt_base.specs.State.{Leg, Transaction}
use Rattle.xt_frames.proofs.EntryLemmas.{length_changed, put_changed}
use Rattle.xt_journal.specs.Over.{trans_over, transactions_over}
use Rattle.xt_mount.proofs.AccountsLemmas.{grant_is, granted_more, open_in, pages, rises_in}
use Rattle.xt_mount.proofs.ShownLemmas.{framed_opened}
use Rattle.xt_mount.proofs.accounts.Accounts.begin.Goals as goal
use Rattle.xt_mount.specs.Accounts.{AccountsState, opened_in, opened_with}
use Rattle.xt_mount.specs.Shown.{AreInFrames}
use Rattle.xt_resv.specs.Ledgers.{Grant, Ledger}

pub put_new-requires-clause-absent : goal.put_new-requires-clause-absent
put_new-requires-clause-absent c =
    let now = c.self.inside in
    open_in c.args.self.now now.space.size now.transactions now.space.landed now.journal c.self.view_is c.args.trans ∙ c.requires.free

pub put_new-requires-clause-room : goal.put_new-requires-clause-room
put_new-requires-clause-room c =
    let now = c.self.inside in
    omega (arith, length_changed (λ t u. trans_over now.journal.frames.frames u) now.transactions, ap (λ (a : AccountsState). length a.transactions) c.self.view_is, c.requires.few)

pub invariant_of-self-in-Ok : goal.invariant_of-self-in-Ok
invariant_of-self-in-Ok c =
    let now = c.self.inside in
    let rises = rises_in c.args.self.now now.space.size now.transactions now.space.landed now.journal c.self.view_is c.requires.rising in
    let absent = open_in c.args.self.now now.space.size now.transactions now.space.landed now.journal c.self.view_is c.args.trans ∙ c.requires.free in
    let more = granted_more c.args.trans c.new.result now.transactions _ rises absent c.put_new.ensures in
    let changed = c.in-Ok.ensures.ok in
    let given = grant_is _ c.in-Ok.ticket _ c.in-Ok.ensures.result in (
      omega (arith, more, ap (λ (g : Grant). g.unit * g.legs) given, ap (λ (l : Ledger). l.granted) changed, c.self.invariant.0, ap (λ (x : Transaction). x.unit * x.legs) c.new.ensures),
      ap (λ (l : Ledger). l.cil) changed ∙ c.self.invariant.1,
      ap (λ (l : Ledger). l.flight) changed ∙ c.self.invariant.2,
      subst (AreInFrames now.journal.frames.frames) (sym c.put_new.ensures) (framed_opened now.journal.frames.frames c.args.trans c.new.result now.transactions absent (ap (λ (x : Transaction). x.leg) c.new.ensures ∙ c.in_ok-leg.ensures) c.self.invariant.3),
    )

pub returns-clause-ok : goal.returns-clause-ok
returns-clause-ok c =
    let now = c.self.inside in
    let j = now.journal in
    let given = grant_is _ c.in-Ok.ticket _ c.in-Ok.ensures.result in
    let trans = c.new.ensures ∙ ap (λ (g : Grant). opened_with g c.in_ok-leg.leg) given ∙ ap (λ (l : Leg). record { unit = c.args.unit; legs = c.args.count; perm = c.args.perm; leg = l }) c.in_ok-leg.ensures in
    ap (λ (l : Ledger). pages l.size c.put_new.new.self l.landed j) c.in-Ok.ensures.ok
    ∙ ap (λ (xs : List (ℕ × Transaction)). pages now.space.size xs now.space.landed j) c.put_new.ensures
    ∙ ap (λ (xs : List (ℕ × Transaction)). record (pages now.space.size now.transactions now.space.landed j) { transactions = xs })
    (put_changed (λ t u. trans_over j.frames.frames u) c.args.trans c.new.result now.transactions
    ∙ ap (λ (x : Transaction). put c.args.trans (trans_over j.frames.frames x) (transactions_over j.frames.frames now.transactions)) trans)
    ∙ ap (opened_in c.args.trans (new_trans c.args.unit c.args.count c.args.perm)) c.self.view_is
