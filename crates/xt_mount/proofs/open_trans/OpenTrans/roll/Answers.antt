use Rattle.std.proofs.Common.{◌≡◌, ◌∙◌, Bool, Err, Ok, Result, ap, arith, false, if◌then◌else◌, subst, sym, true, ℕ}
use Rattle.std.proofs.lemmas.Bool.{false≢true}
use Rattle.xt_base.specs.Legs.{with_marks}
use Rattle.xt_base.specs.Space.{cost}
use Rattle.xt_base.specs.State.{Transaction}
use Rattle.xt_base.specs.declared.steps.Errno.{Errno}
use Rattle.xt_base.specs.declared.steps.Errno.TheVariants.{Again}
use Rattle.xt_items.specs.Lists.{Lists}
use Rattle.xt_journal.proofs.OverLemmas.{with_marks_over}
use Rattle.xt_journal.specs.Journals.{JournalState}
use Rattle.xt_journal.specs.Keeping.{HaveChunks}
use Rattle.xt_journal.specs.Over.{changes_over}
use Rattle.xt_mount.proofs.ShownLemmas.{framed_changes}
use Rattle.xt_mount.proofs.open_trans.OpenTrans.roll.Goals as goal
use Rattle.xt_mount.specs.Shown.{HasFrames}
use Rattle.xt_resv.specs.Ledgers.{Grant, is_no_room, regranted}
use Rattle.xt_resv.specs.Mounts.{grant_of}

-- what was not refused was not an error
not_refused : (b : Bool) (r : Result (Unit {0}) Errno) (e : Errno) → r ≡ (if b then Err Again else Ok tt) → b ≡ false → r ≡ Err e → ⊥
not_refused true r e is room was = false≢true (sym room)
not_refused false r e is room was = cc

pub keep_changes-requires-clause-framed : goal.keep_changes-requires-clause-framed
keep_changes-requires-clause-framed c =
    let frames = c.args.journal.now.frames.frames in
    framed_changes frames c.self.inside.leg c.changes_rise.ensures (subst (λ (t : Transaction). HasFrames frames t.leg) (sym c.self.view_is) c.requires.framed)

pub keep_changes-requires-clause-chunks : goal.keep_changes-requires-clause-chunks
keep_changes-requires-clause-chunks c =
    let j = c.args.journal.now in
    subst (λ (t : Transaction). HaveChunks j.lists.cil (changes_over j.frames.frames t.leg.changes)) (sym c.self.view_is) c.requires.chunks

pub next_leg-requires-2-clause-cost : goal.next_leg-requires-2-clause-cost
next_leg-requires-2-clause-cost c =
    let j = c.args.journal.now in
    let costed = c.cil_cost.ensures.value ∙ ap (λ (x : JournalState). cost x.form.ends x.lists.cil) c.keep_changes.ensures.rest ∙ ap (λ (x : Lists). cost j.form.ends x.cil) c.keep_changes.ensures.lists
    ∙ ap (cost j.form.ends) (with_marks_over j.frames.frames c.self.inside.leg.changes j.lists.cil) ∙ ap (λ (t : Transaction). cost j.form.ends (with_marks t.leg.changes j.lists.cil)) c.self.view_is in
    omega (arith, costed, c.requires.paid, ap (λ (t : Transaction). t.unit) c.self.view_is)

pub unreachable-requires : goal.unreachable-requires
unreachable-requires c =
    let j = c.args.journal.now in
    let costed = c.cil_cost.ensures.value ∙ ap (λ (x : JournalState). cost x.form.ends x.lists.cil) c.keep_changes.ensures.rest ∙ ap (λ (x : Lists). cost j.form.ends x.cil) c.keep_changes.ensures.lists
    ∙ ap (cost j.form.ends) (with_marks_over j.frames.frames c.self.inside.leg.changes j.lists.cil) ∙ ap (λ (t : Transaction). cost j.form.ends (with_marks t.leg.changes j.lists.cil)) c.self.view_is in
    let granted = ap (λ (n : ℕ). record c.self.inside.ticket { charged = n }) c.self.invariant ∙ ap grant_of c.self.view_is in
    not_refused (is_no_room c.self.inside.ticket c.cil_cost.result c.args.space.now) c.next_leg-2.result c.in-Err.field-0 c.next_leg-2.ensures.result
    (ap (λ (g : Grant). is_no_room g c.cil_cost.result c.args.space.now) granted ∙ ap (λ (n : ℕ). is_no_room (grant_of c.args.self.now) n c.args.space.now) costed ∙ c.requires.room) c.in-Err.is

pub returns-clause-space : goal.returns-clause-space
returns-clause-space c =
    let j = c.args.journal.now in
    let costed = c.cil_cost.ensures.value ∙ ap (λ (x : JournalState). cost x.form.ends x.lists.cil) c.keep_changes.ensures.rest ∙ ap (λ (x : Lists). cost j.form.ends x.cil) c.keep_changes.ensures.lists
    ∙ ap (cost j.form.ends) (with_marks_over j.frames.frames c.self.inside.leg.changes j.lists.cil) ∙ ap (λ (t : Transaction). cost j.form.ends (with_marks t.leg.changes j.lists.cil)) c.self.view_is in
    let granted = ap (λ (n : ℕ). record c.self.inside.ticket { charged = n }) c.self.invariant ∙ ap grant_of c.self.view_is in
    c.in-Ok.ensures.ok.0 ∙ ap (λ (g : Grant). regranted g c.cil_cost.result c.args.space.now) granted ∙ ap (λ (n : ℕ). regranted (grant_of c.args.self.now) n c.args.space.now) costed
