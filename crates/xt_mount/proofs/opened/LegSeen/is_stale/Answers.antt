use Rattle.std.proofs.Common.{◌∙◌, ap, sym}
use Rattle.xt_base.specs.Legs.{is_stale}
use Rattle.xt_base.specs.State.{Leg}
use Rattle.xt_journal.proofs.OverLemmas.{stale_over}
use Rattle.xt_mount.proofs.opened.LegSeen.is_stale.Goals as goal

pub returns : goal.returns
returns c = c.is_stale.ensures ∙ sym (stale_over c.self.inside.frames.now.frames c.args.block c.self.inside.leg.now) ∙ ap (λ (l : Leg). is_stale c.args.block l) c.self.view_is
