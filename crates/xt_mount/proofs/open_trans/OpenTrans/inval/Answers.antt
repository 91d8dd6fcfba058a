use Rattle.std.proofs.Common.{subst}
use Rattle.xt_base.specs.Sound.{IsRising}
use Rattle.xt_frames.specs.Contents.{Bufs}
use Rattle.xt_mount.proofs.StepLemmas.{stale_step}
use Rattle.xt_mount.proofs.open_trans.OpenTrans.inval.Goals as goal

pub returns : goal.returns
returns c =
    stale_step c.args.block c.args.journal.now c.args.self.now c.changes_rise.ensures (subst (λ (f : Bufs). IsRising f.frames) c.frames.ensures c.frames_rise.ensures) c.undo.new.self c.mark_stale.new.self
    c.undo.ensures c.mark_stale.ensures
