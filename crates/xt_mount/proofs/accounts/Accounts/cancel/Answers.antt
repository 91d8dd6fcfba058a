use Rattle.std.proofs.Common.{◌≡◌, ◌∙◌, ◌*◌, ap, arith, length, subst, sym, ℕ, List}
use Rattle.std.specs.Prelude.{is_none, is_some, ◌&&◌}
use Rattle.std.proofs.lemmas.Bool.{false≢true}
use Rattle.xt_base.specs.Legs.{is_dirty}
use Rattle.xt_base.specs.Maps.{is_in}
use Rattle.xt_base.specs.Sound.{IsRising}
use Rattle.xt_base.specs.Space.{cost}
use Rattle.xt_base.specs.State.{Leg, Transaction}
use Rattle.xt_frames.specs.Contents.{contents_of}
use Rattle.xt_journal.specs.Journals.{JournalState}
use Rattle.xt_journal.specs.Keeping.{leg_lost}
use Rattle.xt_journal.specs.Over.{trans_over}
use Rattle.xt_mount.proofs.AccountsLemmas.{alone_each, closed_there, covered, fresh_in, granted_out, lost_in_shut, lost_parts, open_in, pages, shown_if}
use Rattle.xt_mount.proofs.ShownLemmas.{framed_closed, same_beside}
use Rattle.xt_mount.proofs.accounts.Accounts.cancel.Goals as goal
use Rattle.xt_mount.specs.Accounts.{AccountsState, closed_in, lost_in}
use Rattle.xt_mount.specs.Shown.{AreInFrames}
use Rattle.xt_resv.specs.Ledgers.{Grant, Ledger}
use Rattle.xt_resv.specs.Mounts.{flight_of}

pub unreachable-requires : goal.unreachable-requires
unreachable-requires c =
    let now = c.self.inside in
    false≢true (ap is_some (sym c.in_default.is ∙ c.remove.ensures.value) ∙ open_in c.args.self.now now.space.size now.transactions now.space.landed now.journal c.self.view_is c.args.trans ∙ c.requires.there)

pub lose_leg-requires-clause-kept : goal.lose_leg-requires-clause-kept
lose_leg-requires-clause-kept c =
    let now = c.self.inside in
    ap (λ (l : Leg). is_dirty l && is_none now.journal.shut) c.into_parts-ticket.ensures.leg
    ∙ lost_in_shut c.args.self.now now.space.size now.transactions now.space.landed now.journal c.self.view_is c.args.trans c.in-Some.opened (sym c.remove.ensures.value ∙ c.in-Some.is) c.requires.kept

pub lose_leg-requires-clause-room : goal.lose_leg-requires-clause-room
lose_leg-requires-clause-room c =
    let now = c.self.inside in
    omega (arith, fresh_in c.args.self.now now.space.size now.transactions now.space.landed now.journal c.self.view_is c.args.trans c.in-Some.opened (sym c.remove.ensures.value ∙ c.in-Some.is) c.requires.fresh, ap (λ (l : Leg). length l.changes) c.into_parts-ticket.ensures.leg)

pub give_back-requires : goal.give_back-requires
give_back-requires c =
    covered c.args.trans c.in-Some.opened c.self.inside.transactions _ (sym c.remove.ensures.value ∙ c.in-Some.is) c.remove.ensures.rest c.into_parts-ticket.result.0 c.self.inside.space.granted c.into_parts-ticket.ensures.ticket c.self.invariant.0

pub invariant_of-self : goal.invariant_of-self
invariant_of-self c =
    let now = c.self.inside in
    let is = sym c.remove.ensures.value ∙ c.in-Some.is in
    let leg = c.into_parts-ticket.ensures.leg in
    let left = granted_out c.args.trans c.in-Some.opened now.transactions _ is c.remove.ensures.rest in
    let rises = subst IsRising c.entries-rise.ensures.value c.entries-rise.ensures.rising in (
      omega (arith, left, c.self.invariant.0, ap (λ (l : Ledger). l.granted) c.give_back.ensures, ap (λ (g : Grant). g.unit * g.legs) c.into_parts-ticket.ensures.ticket),
      ap (λ (l : Ledger). l.cil) c.give_back.ensures ∙ c.self.invariant.1 ∙ ap (λ (l : JournalState). cost l.form.ends l.lists.cil) (sym c.lose_leg.ensures.rest),
      ap (λ (l : Ledger). l.flight) c.give_back.ensures ∙ c.self.invariant.2 ∙ ap (λ (l : JournalState). flight_of l.form.ends l.lists.flight) (sym c.lose_leg.ensures.rest),
      subst (AreInFrames c.lose_leg.new.self.frames.frames) (sym c.remove.ensures.rest)
          (framed_closed c.lose_leg.new.self.frames.frames now.journal.frames.frames c.args.trans c.in-Some.opened now.transactions is rises (alone_each c.args.self.now now.space.size now.transactions now.space.landed now.journal c.self.view_is c.args.trans c.in-Some.opened is c.requires.alone)
          (λ k out. c.lose_leg.ensures.others k (ap (λ (l : Leg). is_in k l.changes) leg ∙ out)) (λ k there. c.lose_leg.ensures.clean k (ap (λ (l : Leg). is_in k l.changes) leg ∙ there)) c.self.invariant.3),
    )

pub returns : goal.returns
returns c =
    let now = c.self.inside in
    let j = now.journal in
    let is = sym c.remove.ensures.value ∙ c.in-Some.is in
    let leg = c.into_parts-ticket.ensures.leg in
    let trans = c.in-Some.opened in
    let after = c.lose_leg.new.self in
    let rises = subst IsRising c.entries-rise.ensures.value c.entries-rise.ensures.rising in
    let same = same_beside after.frames.frames j.frames.frames c.args.trans trans now.transactions is rises (alone_each c.args.self.now now.space.size now.transactions now.space.landed now.journal c.self.view_is c.args.trans trans is c.requires.alone)
    (λ k out. c.lose_leg.ensures.others k (ap (λ (l : Leg). is_in k l.changes) leg ∙ out)) (λ k there. c.lose_leg.ensures.clean k (ap (λ (l : Leg). is_in k l.changes) leg ∙ there)) in
    let parts = lost_parts now.space.size now.transactions now.space.landed j after trans (c.lose_leg.ensures.contents ∙ ap (λ (l : Leg). leg_lost l (contents_of j.frames)) leg) c.lose_leg.ensures.rest in
    shown_if c.args.self.now now.space.size now.transactions now.space.landed now.journal c.self.view_is c.args.trans trans is (λ (a : AccountsState) (x : Transaction). pages c.give_back.new.self.size c.remove.new.self c.give_back.new.self.landed after ≡ closed_in c.args.trans (lost_in x a))
    (ap (λ (l : Ledger). pages l.size c.remove.new.self l.landed after) c.give_back.ensures ∙ ap (λ (xs : List (ℕ × Transaction)). pages now.space.size xs now.space.landed after) c.remove.ensures.rest
    ∙ closed_there c.args.self.now now.space.size now.transactions now.space.landed now.journal c.self.view_is c.args.trans trans is rises after same (lost_in (trans_over j.frames.frames trans)) parts)
