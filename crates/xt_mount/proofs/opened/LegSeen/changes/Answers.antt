use Rattle.std.proofs.Common.{◌≡◌, ◌∙◌, IfOk, List, ap, map, subst, sym, ℕ}
use Rattle.xt_base.specs.Sound.{Each}
use Rattle.xt_base.specs.State.{Change, Leg}
use Rattle.xt_mount.proofs.ShownLemmas.{marked_each, shown_each}
use Rattle.xt_mount.proofs.opened.LegSeen.changes.Goals as goal
use Rattle.xt_mount.specs.Shown.{IsMarked, change_shown}
use Rattle.xt_trans.specs.declared.trans.ChangeMarks.{ChangeMarks}

pub changes_copied-requires-clause-marks : goal.changes_copied-requires-clause-marks
changes_copied-requires-clause-marks c =
    let leg : Leg = c.self.inside.leg.now in
    subst (λ (es : List (ℕ × ChangeMarks)). Each (IsMarked leg) es) (sym (c.deref.ensures.value ∙ c.in_ok-marks.ensures)) (marked_each c.self.inside.frames.now.frames leg c.changes_rise.ensures)

pub returns : goal.returns
returns c =
    let leg : Leg = c.self.inside.leg.now in
    let frames = c.self.inside.frames.now.frames in
    subst (λ (es : List (ℕ × Change)). IfOk c.changes_copied.result (λ changes. changes.items ≡ es))
    (ap (map (change_shown frames leg)) (c.deref.ensures.value ∙ c.in_ok-marks.ensures) ∙ shown_each frames leg c.changes_rise.ensures ∙ ap (λ (l : Leg). l.changes) c.self.view_is) c.changes_copied.ensures
