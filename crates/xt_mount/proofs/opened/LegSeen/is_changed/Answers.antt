use Rattle.std.proofs.Common.{◌∙◌, ap, sym}
use Rattle.xt_base.specs.Maps.{is_in}
use Rattle.xt_base.specs.State.{Leg}
use Rattle.xt_journal.proofs.OverLemmas.{changed_over}
use Rattle.xt_mount.proofs.opened.LegSeen.is_changed.Goals as goal

pub returns : goal.returns
returns c = c.is_changed.ensures ∙ sym (changed_over c.self.inside.frames.now.frames c.args.block c.self.inside.leg.now) ∙ ap (λ (l : Leg). is_in c.args.block l.changes) c.self.view_is
