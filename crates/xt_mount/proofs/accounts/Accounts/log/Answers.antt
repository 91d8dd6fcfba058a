use Rattle.std.proofs.Common.{◌∙◌, ◌+◌, ◌≤◌, Err, Ok, OnErr, Result, ap, length, subst, sym}
use Rattle.std.specs.declared.alloc.AllocError.{AllocError}
use Rattle.xt_base.specs.Calls.{logged_leg, seen}
use Rattle.xt_base.specs.Chunks.{marks}
use Rattle.xt_base.specs.Maps.{put}
use Rattle.xt_base.specs.Space.{cost, granted}
use Rattle.xt_base.specs.State.{Leg, Transaction}
use Rattle.xt_journal.specs.Journals.{JournalState}
use Rattle.xt_mount.proofs.AccountsLemmas.{alone_in, few_in, logged_in, open_in, rises_in, shown_fact, standing, stayed, step_granted, stepped}
use Rattle.xt_mount.proofs.ShownLemmas.{clean_alone, framed_step, frames_there}
use Rattle.xt_mount.proofs.accounts.Accounts.log.Goals as goal
use Rattle.xt_mount.specs.Accounts.{AccountsState}
use Rattle.xt_mount.specs.Shown.{AreInFrames, shown_logged}
use Rattle.xt_resv.specs.Mounts.{flight_of}

pub value_mut-opened-requires : goal.value_mut-opened-requires
value_mut-opened-requires c =
    let now = c.self.inside in
    open_in c.args.self.now now.space.size now.transactions now.space.landed now.journal c.self.view_is c.args.trans ∙ c.requires.there

pub log-requires-clause-few : goal.log-requires-clause-few
log-requires-clause-few c =
    let now = c.self.inside in
    few_in c.args.self.now now.space.size now.transactions now.space.landed now.journal c.self.view_is c.args.trans c.value_mut-opened.result.now c.value_mut-opened.ensures.value c.args.block c.requires.few

pub log-requires-clause-fits : goal.log-requires-clause-fits
log-requires-clause-fits c =
    let now = c.self.inside in
    logged_in c.args.self.now now.space.size now.transactions now.space.landed now.journal c.self.view_is c.args.trans c.value_mut-opened.result.now c.value_mut-opened.ensures.value c.args.block
    (marks c.args.first (length c.args.bytes.now)) c.requires.fits

pub log-requires-clause-seen : goal.log-requires-clause-seen
log-requires-clause-seen c =
    let now = c.self.inside in
    shown_fact c.args.self.now now.space.size now.transactions now.space.landed now.journal c.self.view_is c.args.trans c.value_mut-opened.result.now c.value_mut-opened.ensures.value
    (λ (a : AccountsState) (x : Transaction). c.args.first + length c.args.bytes.now ≤ length (seen a.form.size c.args.block x.leg a.frames)) c.requires.seen

pub log-requires-clause-framed : goal.log-requires-clause-framed
log-requires-clause-framed c =
    let now = c.self.inside in
    frames_there now.journal.frames.frames c.args.trans c.value_mut-opened.result.now now.transactions c.value_mut-opened.ensures.value c.self.invariant.3 c.args.block

pub log-requires-clause-clean : goal.log-requires-clause-clean
log-requires-clause-clean c =
    let now = c.self.inside in
    clean_alone now.journal.frames.frames c.args.trans c.args.block c.value_mut-opened.result.now now.transactions c.value_mut-opened.ensures.value
    (alone_in c.args.self.now now.space.size now.transactions now.space.landed now.journal c.self.view_is c.args.trans c.args.block c.requires.alone) c.self.invariant.3

pub invariant_of-self : goal.invariant_of-self
invariant_of-self c =
    let now = c.self.inside in
    let rises = rises_in c.args.self.now now.space.size now.transactions now.space.landed now.journal c.self.view_is c.requires.rising in
    let same = standing c.args.trans c.value_mut-opened.result.now c.log.new.self now.transactions c.value_mut-opened.ensures.value rises c.in_err-log.ensures.trans in
    let journal = c.in_err-log.ensures.journal in (
      c.self.invariant.0 ∙ ap granted (sym same),
      c.self.invariant.1 ∙ ap (λ (l : JournalState). cost l.form.ends l.lists.cil) (sym journal),
      c.self.invariant.2 ∙ ap (λ (l : JournalState). flight_of l.form.ends l.lists.flight) (sym journal),
      subst (λ (l : JournalState). AreInFrames l.frames.frames (put c.args.trans c.log.new.self now.transactions)) (sym journal) (subst (AreInFrames now.journal.frames.frames) (sym same) c.self.invariant.3),
    )

pub invariant_of-self-2 : goal.invariant_of-self-2
invariant_of-self-2 c =
    let now = c.self.inside in
    let step = c.in_ok-log.ensures.ok in (
      c.self.invariant.0 ∙ sym (step_granted c.args.self.now now.space.size now.transactions now.space.landed now.journal c.self.view_is c.args.trans c.value_mut-opened.result.now c.log.new.self c.value_mut-opened.ensures.value
          c.requires.rising c.args.block c.log.new.journal c.requires.alone (shown_logged c.args.block c.args.first c.args.bytes.now now.journal c.value_mut-opened.result.now.leg) step),
      c.self.invariant.1 ∙ ap (λ (l : JournalState). cost l.form.ends l.lists.cil) (sym step.rest),
      c.self.invariant.2 ∙ ap (λ (l : JournalState). flight_of l.form.ends l.lists.flight) (sym step.rest),
      framed_step c.log.new.journal.frames.frames now.journal.frames.frames c.args.trans c.value_mut-opened.result.now c.log.new.self now.transactions c.value_mut-opened.ensures.value c.self.invariant.3 c.args.block step.step,
    )

-- an error that is handed on is one
handed : {P : Type 0} (r : Result (Unit {0}) AllocError) → P → OnErr r P
handed (Ok x) h = tt
handed (Err e) h = h

pub returns-in_err-log-clause-err : goal.returns-in_err-log-clause-err
returns-in_err-log-clause-err c =
    let now = c.self.inside in
    let rises = rises_in c.args.self.now now.space.size now.transactions now.space.landed now.journal c.self.view_is c.requires.rising in
    handed c.from_residual.result
    (stayed c.args.self.now now.space.size now.transactions now.space.landed now.journal c.log.new.journal c.self.view_is c.args.trans c.value_mut-opened.result.now c.log.new.self c.value_mut-opened.ensures.value rises
    c.in_err-log.ensures.trans c.in_err-log.ensures.journal)

pub returns-clause-ok : goal.returns-clause-ok
returns-clause-ok c =
    let now = c.self.inside in
    stepped c.args.self.now now.space.size now.transactions now.space.landed now.journal c.self.view_is c.args.trans c.value_mut-opened.result.now c.log.new.self c.value_mut-opened.ensures.value c.requires.rising
    c.args.block c.log.new.journal c.requires.alone (λ (a : AccountsState) (l : Leg). logged_leg a.form.size c.args.block c.args.first c.args.bytes.now a.frames l) c.in_ok-log.ensures.ok
