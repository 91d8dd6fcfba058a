use Rattle.std.proofs.Common.{◌∙◌, ap, sym}
use Rattle.xt_base.specs.Calls.{invalidated}
use Rattle.xt_base.specs.Space.{cost}
use Rattle.xt_base.specs.State.{Leg}
use Rattle.xt_journal.specs.Journals.{JournalState}
use Rattle.xt_journal.specs.Over.{leg_over}
use Rattle.xt_mount.proofs.AccountsLemmas.{few_in, open_in, stale_in, step_granted, stepped}
use Rattle.xt_mount.proofs.ShownLemmas.{framed_step}
use Rattle.xt_mount.proofs.accounts.Accounts.inval.Goals as goal
use Rattle.xt_mount.specs.Accounts.{AccountsState}
use Rattle.xt_resv.specs.Mounts.{flight_of}

pub value_mut-opened-requires : goal.value_mut-opened-requires
value_mut-opened-requires c =
    let now = c.self.inside in
    open_in c.args.self.now now.space.size now.transactions now.space.landed now.journal c.self.view_is c.args.trans ∙ c.requires.there

pub inval-requires-clause-few : goal.inval-requires-clause-few
inval-requires-clause-few c =
    let now = c.self.inside in
    few_in c.args.self.now now.space.size now.transactions now.space.landed now.journal c.self.view_is c.args.trans c.value_mut-opened.result.now c.value_mut-opened.ensures.value c.args.block c.requires.few

pub inval-requires-clause-fits : goal.inval-requires-clause-fits
inval-requires-clause-fits c =
    let now = c.self.inside in
    stale_in c.args.self.now now.space.size now.transactions now.space.landed now.journal c.self.view_is c.args.trans c.value_mut-opened.result.now c.value_mut-opened.ensures.value c.args.block c.requires.fits

pub invariant_of-self : goal.invariant_of-self
invariant_of-self c =
    let now = c.self.inside in
    let step = c.inval.ensures in (
      c.self.invariant.0 ∙ sym (step_granted c.args.self.now now.space.size now.transactions now.space.landed now.journal c.self.view_is c.args.trans c.value_mut-opened.result.now c.inval.new.self c.value_mut-opened.ensures.value
          c.requires.rising c.args.block c.inval.new.journal c.requires.alone (invalidated c.args.block (leg_over now.journal.frames.frames c.value_mut-opened.result.now.leg)) step),
      c.self.invariant.1 ∙ ap (λ (l : JournalState). cost l.form.ends l.lists.cil) (sym step.rest),
      c.self.invariant.2 ∙ ap (λ (l : JournalState). flight_of l.form.ends l.lists.flight) (sym step.rest),
      framed_step c.inval.new.journal.frames.frames now.journal.frames.frames c.args.trans c.value_mut-opened.result.now c.inval.new.self now.transactions c.value_mut-opened.ensures.value c.self.invariant.3 c.args.block step.step,
    )

pub returns : goal.returns
returns c =
    let now = c.self.inside in
    stepped c.args.self.now now.space.size now.transactions now.space.landed now.journal c.self.view_is c.args.trans c.value_mut-opened.result.now c.inval.new.self c.value_mut-opened.ensures.value c.requires.rising
    c.args.block c.inval.new.journal c.requires.alone (λ (a : AccountsState) (l : Leg). invalidated c.args.block l) c.inval.ensures
