use Rattle.std.proofs.Common.{◌∙◌, sym}
use Rattle.xt_base.proofs.SoundSteps.{is_none_not}
use Rattle.xt_mount.proofs.machine.Machine.begin.Goals as goal

pub pieces_now-requires-clause-live : goal.pieces_now-requires-clause-live
pieces_now-requires-clause-live c = is_none_not c.args.self.now.accounts.shut (sym c.is_shut.ensures ∙ c.if-is_shut.false)
