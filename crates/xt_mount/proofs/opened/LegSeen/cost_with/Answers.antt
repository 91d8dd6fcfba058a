use Rattle.std.proofs.Common.{◌∙◌, ap, sym}
use Rattle.xt_base.specs.Legs.{with_marks}
use Rattle.xt_base.specs.Space.{cost}
use Rattle.xt_base.specs.State.{Leg}
use Rattle.xt_journal.proofs.OverLemmas.{with_marks_over}
use Rattle.xt_mount.proofs.opened.LegSeen.cost_with.Goals as goal

pub returns : goal.returns
returns c =
    c.cost_with.ensures.value ∙ sym (ap (cost c.args.form.ends) (with_marks_over c.self.inside.frames.now.frames c.self.inside.leg.now.changes c.args.list.now))
    ∙ ap (λ (l : Leg). cost c.args.form.ends (with_marks l.changes c.args.list.now)) c.self.view_is
