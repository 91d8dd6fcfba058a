use Rattle.std.proofs.Common.{◌∙◌, ap, refl, sym}
use Rattle.xt_base.specs.Maps.{with_member}
use Rattle.xt_base.specs.State.{Leg, Transaction}
use Rattle.xt_mount.proofs.AccountsLemmas.{granted_lent, held_in, held_lent, open_in, rises_in}
use Rattle.xt_mount.proofs.ShownLemmas.{framed_marks}
use Rattle.xt_mount.proofs.accounts.Accounts.hold.Goals as goal
use Rattle.xt_mount.specs.Shown.{has_in_place}

pub value_mut-opened-requires : goal.value_mut-opened-requires
value_mut-opened-requires c =
    let now = c.self.inside in
    open_in c.args.self.now now.space.size now.transactions now.space.landed now.journal c.self.view_is c.args.trans ∙ c.requires.there

pub hold-requires : goal.hold-requires
hold-requires c =
    let now = c.self.inside in
    held_in c.args.self.now now.space.size now.transactions now.space.landed now.journal c.self.view_is c.args.trans c.value_mut-opened.result.now c.value_mut-opened.ensures.value c.args.block c.requires.few

pub invariant_of-self : goal.invariant_of-self
invariant_of-self c =
    let now = c.self.inside in
    let rises = rises_in c.args.self.now now.space.size now.transactions now.space.landed now.journal c.self.view_is c.requires.rising in (
      c.self.invariant.0 ∙ sym (granted_lent c.args.trans c.value_mut-opened.result.now c.hold.new.self now.transactions c.value_mut-opened.ensures.value rises _ c.hold.ensures),
      c.self.invariant.1,
      c.self.invariant.2,
      framed_marks now.journal.frames.frames c.args.trans c.value_mut-opened.result.now c.hold.new.self now.transactions c.value_mut-opened.ensures.value (λ k. ap (λ (x : Transaction). has_in_place k x.leg) c.hold.ensures)
          c.self.invariant.3,
    )

pub returns : goal.returns
returns c =
    let now = c.self.inside in
    held_lent c.args.self.now now.space.size now.transactions now.space.landed now.journal c.self.view_is c.args.trans c.value_mut-opened.result.now c.hold.new.self c.value_mut-opened.ensures.value c.requires.rising
    (λ (l : Leg). record l { holds = with_member c.args.block l.holds }) c.hold.ensures refl
