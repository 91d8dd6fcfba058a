use Rattle.std.proofs.Common.{◌≡◌, ◌∙◌, ◌*◌, ◌≤◌, ap, arith, sym}
use Rattle.xt_base.specs.Maps.{put}
use Rattle.xt_base.specs.Space.{cost}
use Rattle.xt_base.specs.State.{Transaction}
use Rattle.xt_journal.specs.Journals.{JournalState}
use Rattle.xt_journal.specs.Over.{trans_over}
use Rattle.xt_mount.proofs.AccountsLemmas.{alone_each, covered_there, fresh_in, granted_changed, lost_in_shut, lost_parts, next_there, open_in, pages, rises_in, shown_if}
use Rattle.xt_mount.proofs.ShownLemmas.{framed_next, same_beside}
use Rattle.xt_mount.proofs.accounts.Accounts.give_up.Goals as goal
use Rattle.xt_mount.specs.Accounts.{AccountsState, legs_in, lost_in}
use Rattle.xt_resv.specs.Ledgers.{Ledger}
use Rattle.xt_resv.specs.Mounts.{flight_of}

pub value_mut-opened-requires : goal.value_mut-opened-requires
value_mut-opened-requires c =
    let now = c.self.inside in
    open_in c.args.self.now now.space.size now.transactions now.space.landed now.journal c.self.view_is c.args.trans ∙ c.requires.there

pub give_up-requires-clause-kept : goal.give_up-requires-clause-kept
give_up-requires-clause-kept c =
    let now = c.self.inside in
    lost_in_shut c.args.self.now now.space.size now.transactions now.space.landed now.journal c.self.view_is c.args.trans c.value_mut-opened.result.now c.value_mut-opened.ensures.value c.requires.kept

pub give_up-requires-clause-fresh : goal.give_up-requires-clause-fresh
give_up-requires-clause-fresh c =
    let now = c.self.inside in
    fresh_in c.args.self.now now.space.size now.transactions now.space.landed now.journal c.self.view_is c.args.trans c.value_mut-opened.result.now c.value_mut-opened.ensures.value c.requires.fresh

pub give_up-requires-clause-granted : goal.give_up-requires-clause-granted
give_up-requires-clause-granted c =
    covered_there c.args.trans c.value_mut-opened.result.now c.self.inside.transactions c.value_mut-opened.ensures.value c.self.inside.space.granted c.self.invariant.0

pub invariant_of-self : goal.invariant_of-self
invariant_of-self c =
    let now = c.self.inside in
    let rises = rises_in c.args.self.now now.space.size now.transactions now.space.landed now.journal c.self.view_is c.requires.rising in
    let opened : Transaction = c.value_mut-opened.result.now in
    let is = c.value_mut-opened.ensures.value in
    let within : opened.unit * opened.legs ≤ now.space.granted = covered_there c.args.trans opened now.transactions is now.space.granted c.self.invariant.0 in
    let whole = granted_changed c.args.trans opened now.transactions is c.give_up.new.self rises in (
      omega (arith, whole, within, c.self.invariant.0, ap (λ (l : Ledger). l.granted) c.give_up.ensures.space, ap (λ (x : Transaction). x.unit * x.legs) c.give_up.ensures.trans),
      ap (λ (l : Ledger). l.cil) c.give_up.ensures.space ∙ c.self.invariant.1 ∙ ap (λ (l : JournalState). cost l.form.ends l.lists.cil) (sym c.give_up.ensures.rest),
      ap (λ (l : Ledger). l.flight) c.give_up.ensures.space ∙ c.self.invariant.2 ∙ ap (λ (l : JournalState). flight_of l.form.ends l.lists.flight) (sym c.give_up.ensures.rest),
      framed_next c.give_up.new.journal.frames.frames now.journal.frames.frames c.args.trans opened now.transactions is rises (alone_each c.args.self.now now.space.size now.transactions now.space.landed now.journal c.self.view_is c.args.trans opened is c.requires.alone)
          c.give_up.ensures.others c.give_up.ensures.clean c.give_up.new.self (ap (λ (x : Transaction). x.leg) c.give_up.ensures.trans) c.self.invariant.3,
    )

pub returns : goal.returns
returns c =
    let now = c.self.inside in
    let j = now.journal in
    let trans : Transaction = c.value_mut-opened.result.now in
    let is = c.value_mut-opened.ensures.value in
    let rises = rises_in c.args.self.now now.space.size now.transactions now.space.landed now.journal c.self.view_is c.requires.rising in
    let after : JournalState = c.give_up.new.journal in
    let same = same_beside after.frames.frames j.frames.frames c.args.trans trans now.transactions is rises (alone_each c.args.self.now now.space.size now.transactions now.space.landed now.journal c.self.view_is c.args.trans trans is c.requires.alone) c.give_up.ensures.others c.give_up.ensures.clean in
    let parts = lost_parts now.space.size now.transactions now.space.landed j after trans c.give_up.ensures.contents c.give_up.ensures.rest in
    shown_if c.args.self.now now.space.size now.transactions now.space.landed now.journal c.self.view_is c.args.trans trans is
    (λ (a : AccountsState) (x : Transaction). pages c.give_up.new.space.size (put c.args.trans c.give_up.new.self now.transactions) c.give_up.new.space.landed after ≡ legs_in c.args.trans 0 x (lost_in x a))
    (ap (λ (l : Ledger). pages l.size (put c.args.trans c.give_up.new.self now.transactions) l.landed after) c.give_up.ensures.space
    ∙ next_there c.args.self.now now.space.size now.transactions now.space.landed now.journal c.self.view_is c.args.trans trans is rises after same (lost_in (trans_over j.frames.frames trans)) parts c.give_up.new.self 0 c.give_up.ensures.trans)
