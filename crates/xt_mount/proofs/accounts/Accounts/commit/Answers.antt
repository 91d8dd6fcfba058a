use Rattle.std.proofs.Common.{◌≡◌, ◌∙◌, ◌*◌, ap, arith, length, refl, subst, sym, ℕ, List}
use Rattle.std.specs.Prelude.{is_some}
use Rattle.std.proofs.lemmas.Bool.{false≢true}
use Rattle.xt_base.specs.Legs.{with_marks}
use Rattle.xt_base.specs.Maps.{is_in}
use Rattle.xt_base.specs.Sound.{IsRising}
use Rattle.xt_base.specs.Space.{cost}
use Rattle.xt_base.specs.State.{Leg, Transaction}
use Rattle.xt_frames.specs.Contents.{contents_of}
use Rattle.xt_items.specs.Lists.{Lists}
use Rattle.xt_journal.proofs.OverLemmas.{with_marks_over}
use Rattle.xt_journal.specs.Journals.{JournalState}
use Rattle.xt_journal.specs.Keeping.{HaveChunks, edits_kept, marks_kept}
use Rattle.xt_journal.specs.Over.{changes_over, trans_over}
use Rattle.xt_mount.proofs.AccountsLemmas.{alone_each, closed_there, contents_in, covered, granted_out, kept_parts, listed_in, open_in, pages, paid_in, shown_fact, shown_if}
use Rattle.xt_mount.proofs.ShownLemmas.{framed_changes, framed_closed, frames_there, same_beside}
use Rattle.xt_mount.proofs.accounts.Accounts.commit.Goals as goal
use Rattle.xt_mount.specs.Accounts.{AccountsState, closed_in, kept_in}
use Rattle.xt_mount.specs.Shown.{AreInFrames, HasFrames}
use Rattle.xt_resv.specs.Ledgers.{Grant, Ledger}
use Rattle.xt_resv.specs.Mounts.{flight_of}

pub unreachable-requires : goal.unreachable-requires
unreachable-requires c =
    let now = c.self.inside in
    false≢true (ap is_some (sym c.in_default.is ∙ c.remove.ensures.value) ∙ open_in c.args.self.now now.space.size now.transactions now.space.landed now.journal c.self.view_is c.args.trans ∙ c.requires.there)

pub keep_changes-requires-clause-framed : goal.keep_changes-requires-clause-framed
keep_changes-requires-clause-framed c =
    let now = c.self.inside in
    let is = sym c.remove.ensures.value ∙ c.in-Some.is in
    framed_changes now.journal.frames.frames c.into_parts-ticket.result.1 c.changes_rise.ensures
    (subst (λ (l : Leg). HasFrames now.journal.frames.frames l) (sym c.into_parts-ticket.ensures.leg) (frames_there now.journal.frames.frames c.args.trans c.in-Some.opened now.transactions is c.self.invariant.3))

pub keep_changes-requires-clause-frames : goal.keep_changes-requires-clause-frames
keep_changes-requires-clause-frames c =
    let now = c.self.inside in
    omega (arith, contents_in c.args.self.now now.space.size now.transactions now.space.landed now.journal c.self.view_is c.args.trans c.in-Some.opened (sym c.remove.ensures.value ∙ c.in-Some.is) c.requires.contents, ap (λ (l : Leg). length l.changes) c.into_parts-ticket.ensures.leg)

pub keep_changes-requires-clause-cil : goal.keep_changes-requires-clause-cil
keep_changes-requires-clause-cil c =
    let now = c.self.inside in
    omega (arith, listed_in c.args.self.now now.space.size now.transactions now.space.landed now.journal c.self.view_is c.args.trans c.in-Some.opened (sym c.remove.ensures.value ∙ c.in-Some.is) c.requires.list, ap (λ (l : Leg). length l.changes) c.into_parts-ticket.ensures.leg)

pub keep_changes-requires-clause-chunks : goal.keep_changes-requires-clause-chunks
keep_changes-requires-clause-chunks c =
    let now = c.self.inside in
    let have = shown_fact c.args.self.now now.space.size now.transactions now.space.landed now.journal c.self.view_is c.args.trans c.in-Some.opened (sym c.remove.ensures.value ∙ c.in-Some.is)
    (λ (a : AccountsState) (x : Transaction). HaveChunks a.items.cil x.leg.changes) c.requires.chunks in
    subst (λ (l : Leg). HaveChunks now.journal.lists.cil (changes_over now.journal.frames.frames l.changes)) (sym c.into_parts-ticket.ensures.leg) have

pub commit-requires-clause-granted : goal.commit-requires-clause-granted
commit-requires-clause-granted c =
    covered c.args.trans c.in-Some.opened c.self.inside.transactions _ (sym c.remove.ensures.value ∙ c.in-Some.is) c.remove.ensures.rest c.into_parts-ticket.result.0 c.self.inside.space.granted c.into_parts-ticket.ensures.ticket c.self.invariant.0

pub commit-requires-clause-cost : goal.commit-requires-clause-cost
commit-requires-clause-cost c =
    let now = c.self.inside in
    let j = now.journal in
    let costed = c.cil_cost.ensures.value ∙ ap (λ (x : JournalState). cost x.form.ends x.lists.cil) c.keep_changes.ensures.rest ∙ ap (λ (x : Lists). cost j.form.ends x.cil) c.keep_changes.ensures.lists
    ∙ ap (cost j.form.ends) (with_marks_over j.frames.frames c.into_parts-ticket.result.1.changes j.lists.cil) ∙ ap (λ (l : Leg). cost j.form.ends (with_marks l.changes j.lists.cil)) c.into_parts-ticket.ensures.leg in
    omega (
      arith,
      costed,
      paid_in c.args.self.now now.space.size now.transactions now.space.landed now.journal c.self.view_is c.args.trans c.in-Some.opened (sym c.remove.ensures.value ∙ c.in-Some.is) (λ (x : Transaction). x.unit * x.legs) (λ x. refl) c.requires.paid,
      c.self.invariant.1,
      ap (λ (g : Grant). g.unit * g.legs) c.into_parts-ticket.ensures.ticket,
    )

pub invariant_of-self : goal.invariant_of-self
invariant_of-self c =
    let now = c.self.inside in
    let is = sym c.remove.ensures.value ∙ c.in-Some.is in
    let leg = c.into_parts-ticket.ensures.leg in
    let left = granted_out c.args.trans c.in-Some.opened now.transactions _ is c.remove.ensures.rest in
    let rises = subst IsRising c.entries-rise.ensures.value c.entries-rise.ensures.rising in (
      omega (arith, left, c.self.invariant.0, ap (λ (l : Ledger). l.granted) c.commit.ensures, ap (λ (g : Grant). g.unit * g.legs) c.into_parts-ticket.ensures.ticket),
      ap (λ (l : Ledger). l.cil) c.commit.ensures ∙ c.cil_cost.ensures.value,
      ap (λ (l : Ledger). l.flight) c.commit.ensures ∙ c.self.invariant.2
          ∙ sym (ap (λ (x : JournalState). flight_of x.form.ends x.lists.flight) c.keep_changes.ensures.rest ∙ ap (λ (x : Lists). flight_of now.journal.form.ends x.flight) c.keep_changes.ensures.lists),
      subst (AreInFrames c.keep_changes.new.self.frames.frames) (sym c.remove.ensures.rest)
          (framed_closed c.keep_changes.new.self.frames.frames now.journal.frames.frames c.args.trans c.in-Some.opened now.transactions is rises (alone_each c.args.self.now now.space.size now.transactions now.space.landed now.journal c.self.view_is c.args.trans c.in-Some.opened is c.requires.alone)
          (λ k out. c.keep_changes.ensures.others k (ap (λ (l : Leg). is_in k l.changes) leg ∙ out)) (λ k there. c.keep_changes.ensures.clean k (ap (λ (l : Leg). is_in k l.changes) leg ∙ there)) c.self.invariant.3),
    )

pub returns : goal.returns
returns c =
    let now = c.self.inside in
    let j = now.journal in
    let is = sym c.remove.ensures.value ∙ c.in-Some.is in
    let leg = c.into_parts-ticket.ensures.leg in
    let trans = c.in-Some.opened in
    let after = c.keep_changes.new.self in
    let rises = subst IsRising c.entries-rise.ensures.value c.entries-rise.ensures.rising in
    let same = same_beside after.frames.frames j.frames.frames c.args.trans trans now.transactions is rises (alone_each c.args.self.now now.space.size now.transactions now.space.landed now.journal c.self.view_is c.args.trans trans is c.requires.alone)
    (λ k out. c.keep_changes.ensures.others k (ap (λ (l : Leg). is_in k l.changes) leg ∙ out)) (λ k there. c.keep_changes.ensures.clean k (ap (λ (l : Leg). is_in k l.changes) leg ∙ there)) in
    let parts = kept_parts now.space.size now.transactions now.space.landed j after trans (c.keep_changes.ensures.lists ∙ ap (λ (l : Leg). marks_kept (changes_over j.frames.frames l.changes) j.lists) leg)
    (c.keep_changes.ensures.contents ∙ ap (λ (l : Leg). edits_kept (changes_over j.frames.frames l.changes) (contents_of j.frames)) leg) c.keep_changes.ensures.rest in
    shown_if c.args.self.now now.space.size now.transactions now.space.landed now.journal c.self.view_is c.args.trans trans is (λ (a : AccountsState) (x : Transaction). pages c.commit.new.self.size c.remove.new.self c.commit.new.self.landed after ≡ closed_in c.args.trans (kept_in x a))
    (ap (λ (l : Ledger). pages l.size c.remove.new.self l.landed after) c.commit.ensures ∙ ap (λ (xs : List (ℕ × Transaction)). pages now.space.size xs now.space.landed after) c.remove.ensures.rest
    ∙ closed_there c.args.self.now now.space.size now.transactions now.space.landed now.journal c.self.view_is c.args.trans trans is rises after same (kept_in (trans_over j.frames.frames trans)) parts)
