use Rattle.std.proofs.Common.{◌≡◌, ◌∙◌, ◌*◌, ◌≤◌, List, ap, arith, false, refl, sym, ℕ}
use Rattle.xt_base.specs.Calls.{legs_after}
use Rattle.xt_base.specs.Legs.{with_marks}
use Rattle.xt_base.specs.Maps.{put}
use Rattle.xt_base.specs.Space.{cost}
use Rattle.xt_base.specs.State.{Transaction}
use Rattle.xt_items.specs.Lists.{Lists, with_landed}
use Rattle.xt_journal.specs.Journals.{JournalState}
use Rattle.xt_journal.specs.Keeping.{HaveChunks}
use Rattle.xt_journal.specs.Over.{trans_over, transactions_over}
use Rattle.xt_journal.proofs.OverLemmas.{with_marks_over}
use Rattle.xt_mount.proofs.AccountsLemmas.{alone_each, contents_in, covered_there, grant_over, granted_changed, kept_parts, listed_in, next_there, open_in, pages, paid_in, rises_in, shown_fact, shown_if, space_is}
use Rattle.xt_mount.proofs.ShownLemmas.{framed_next, frames_there, same_beside}
use Rattle.xt_mount.proofs.accounts.Accounts.roll.Goals as goal
use Rattle.xt_mount.specs.Accounts.{AccountsState, kept_in, legs_in}
use Rattle.xt_resv.specs.Ledgers.{Grant, Ledger, is_no_room}
use Rattle.xt_resv.specs.Mounts.{flight_of, grant_of, ledger}

pub value_mut-opened-requires : goal.value_mut-opened-requires
value_mut-opened-requires c =
    let now = c.self.inside in
    open_in c.args.self.now now.space.size now.transactions now.space.landed now.journal c.self.view_is c.args.trans ∙ c.requires.there

pub roll-requires-clause-framed : goal.roll-requires-clause-framed
roll-requires-clause-framed c =
    let now = c.self.inside in
    frames_there now.journal.frames.frames c.args.trans c.value_mut-opened.result.now now.transactions c.value_mut-opened.ensures.value c.self.invariant.3

pub roll-requires-clause-frames : goal.roll-requires-clause-frames
roll-requires-clause-frames c =
    let now = c.self.inside in
    contents_in c.args.self.now now.space.size now.transactions now.space.landed now.journal c.self.view_is c.args.trans c.value_mut-opened.result.now c.value_mut-opened.ensures.value c.requires.contents

pub roll-requires-clause-cil : goal.roll-requires-clause-cil
roll-requires-clause-cil c =
    let now = c.self.inside in
    listed_in c.args.self.now now.space.size now.transactions now.space.landed now.journal c.self.view_is c.args.trans c.value_mut-opened.result.now c.value_mut-opened.ensures.value c.requires.list

pub roll-requires-clause-chunks : goal.roll-requires-clause-chunks
roll-requires-clause-chunks c =
    let now = c.self.inside in
    shown_fact c.args.self.now now.space.size now.transactions now.space.landed now.journal c.self.view_is c.args.trans c.value_mut-opened.result.now c.value_mut-opened.ensures.value
    (λ (a : AccountsState) (x : Transaction). HaveChunks a.items.cil x.leg.changes) c.requires.chunks

pub roll-requires-clause-granted : goal.roll-requires-clause-granted
roll-requires-clause-granted c =
    covered_there c.args.trans c.value_mut-opened.result.now c.self.inside.transactions c.value_mut-opened.ensures.value c.self.inside.space.granted c.self.invariant.0

pub roll-requires-clause-legs : goal.roll-requires-clause-legs
roll-requires-clause-legs c =
    let now = c.self.inside in
    shown_fact c.args.self.now now.space.size now.transactions now.space.landed now.journal c.self.view_is c.args.trans c.value_mut-opened.result.now c.value_mut-opened.ensures.value (λ (a : AccountsState) (x : Transaction). 1 ≤ x.legs) c.requires.legs

pub roll-requires-clause-paid : goal.roll-requires-clause-paid
roll-requires-clause-paid c =
    let now = c.self.inside in
    omega (arith, paid_in c.args.self.now now.space.size now.transactions now.space.landed now.journal c.self.view_is c.args.trans c.value_mut-opened.result.now c.value_mut-opened.ensures.value (λ (x : Transaction). x.unit) (λ x. refl) c.requires.paid, c.self.invariant.1)

pub roll-requires-clause-room : goal.roll-requires-clause-room
roll-requires-clause-room c =
    let now = c.self.inside in
    let j = now.journal in
    let trans : Transaction = c.value_mut-opened.result.now in
    let costs : ℕ = cost j.form.ends (with_marks trans.leg.changes j.lists.cil) in
    ap (λ (l : Ledger). is_no_room (grant_of trans) costs l) (space_is now.space j now.transactions c.self.invariant.0 c.self.invariant.1 c.self.invariant.2)
    ∙ sym (ap (λ (g : Grant). is_no_room g costs (ledger j.form.ends now.space.size (transactions_over j.frames.frames now.transactions) (with_landed now.space.landed j.lists))) (grant_over j.frames.frames trans))
    ∙ sym (ap (λ (list : List (ℕ × List ℕ)). is_no_room (grant_of (trans_over j.frames.frames trans)) (cost j.form.ends list) (ledger j.form.ends now.space.size (transactions_over j.frames.frames now.transactions) (with_landed now.space.landed j.lists))) (with_marks_over j.frames.frames trans.leg.changes j.lists.cil))
    ∙ shown_fact c.args.self.now now.space.size now.transactions now.space.landed now.journal c.self.view_is c.args.trans trans c.value_mut-opened.ensures.value
    (λ (a : AccountsState) (x : Transaction). is_no_room (grant_of x) (cost a.form.ends (with_marks x.leg.changes a.items.cil)) (ledger a.form.ends a.log_bytes a.transactions a.items) ≡ false) c.requires.room

pub invariant_of-self : goal.invariant_of-self
invariant_of-self c =
    let now = c.self.inside in
    let rises = rises_in c.args.self.now now.space.size now.transactions now.space.landed now.journal c.self.view_is c.requires.rising in
    let opened : Transaction = c.value_mut-opened.result.now in
    let is = c.value_mut-opened.ensures.value in
    let within : opened.unit * opened.legs ≤ now.space.granted = covered_there c.args.trans opened now.transactions is now.space.granted c.self.invariant.0 in
    let whole = granted_changed c.args.trans opened now.transactions is c.roll.new.self rises in (
      omega (arith, whole, within, c.self.invariant.0, ap (λ (l : Ledger). l.granted) c.roll.ensures.space, ap (λ (x : Transaction). x.unit * x.legs) c.roll.ensures.trans),
      ap (λ (l : Ledger). l.cil) c.roll.ensures.space
          ∙ sym (ap (λ (x : JournalState). cost x.form.ends x.lists.cil) c.roll.ensures.rest ∙ ap (λ (x : Lists). cost now.journal.form.ends x.cil) c.roll.ensures.lists
          ∙ ap (cost now.journal.form.ends) (with_marks_over now.journal.frames.frames opened.leg.changes now.journal.lists.cil)),
      ap (λ (l : Ledger). l.flight) c.roll.ensures.space ∙ c.self.invariant.2
          ∙ sym (ap (λ (x : JournalState). flight_of x.form.ends x.lists.flight) c.roll.ensures.rest ∙ ap (λ (x : Lists). flight_of now.journal.form.ends x.flight) c.roll.ensures.lists),
      framed_next c.roll.new.journal.frames.frames now.journal.frames.frames c.args.trans opened now.transactions is rises (alone_each c.args.self.now now.space.size now.transactions now.space.landed now.journal c.self.view_is c.args.trans opened is c.requires.alone)
          c.roll.ensures.others c.roll.ensures.clean c.roll.new.self (ap (λ (x : Transaction). x.leg) c.roll.ensures.trans) c.self.invariant.3,
    )

pub returns : goal.returns
returns c =
    let now = c.self.inside in
    let j = now.journal in
    let trans : Transaction = c.value_mut-opened.result.now in
    let is = c.value_mut-opened.ensures.value in
    let rises = rises_in c.args.self.now now.space.size now.transactions now.space.landed now.journal c.self.view_is c.requires.rising in
    let after : JournalState = c.roll.new.journal in
    let same = same_beside after.frames.frames j.frames.frames c.args.trans trans now.transactions is rises (alone_each c.args.self.now now.space.size now.transactions now.space.landed now.journal c.self.view_is c.args.trans trans is c.requires.alone) c.roll.ensures.others c.roll.ensures.clean in
    let parts = kept_parts now.space.size now.transactions now.space.landed j after trans c.roll.ensures.lists c.roll.ensures.contents c.roll.ensures.rest in
    shown_if c.args.self.now now.space.size now.transactions now.space.landed now.journal c.self.view_is c.args.trans trans is
    (λ (a : AccountsState) (x : Transaction). pages c.roll.new.space.size (put c.args.trans c.roll.new.self now.transactions) c.roll.new.space.landed after ≡ legs_in c.args.trans (legs_after x.legs) x (kept_in x a))
    (ap (λ (l : Ledger). pages l.size (put c.args.trans c.roll.new.self now.transactions) l.landed after) c.roll.ensures.space
    ∙ next_there c.args.self.now now.space.size now.transactions now.space.landed now.journal c.self.view_is c.args.trans trans is rises after same (kept_in (trans_over j.frames.frames trans)) parts c.roll.new.self (legs_after trans.legs) c.roll.ensures.trans)
