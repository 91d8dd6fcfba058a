use Rattle.xt_mount.proofs.ChangedLemmas.{busy_given_up}
use Rattle.std.proofs.Common.{ap, arith, length, sym}
use Rattle.xt_base.proofs.SoundBounds.{few_holds}
use Rattle.xt_base.specs.State.{Leg}
use Rattle.xt_mount.specs.Machines.{state_of}
use Rattle.xt_mount.proofs.EndLemmas.{named}
use Rattle.xt_mount.proofs.machine.Machine.roll_shut.Goals as goal

pub held-requires : goal.held-requires
held-requires c = omega (arith, few_holds (state_of c.args.self.now) c.requires.sound c.args.trans c.in-Some.opened (sym (named (state_of c.args.self.now).transactions c.in-Some.ensures c.trans.view_is)), ap (λ (l : Leg). length l.holds) c.leg.ensures)

pub settle-requires : goal.settle-requires
settle-requires c =
    busy_given_up (state_of c.args.self.now) c.requires.sound c.args.trans c.in-Some.opened (named (state_of c.args.self.now).transactions c.in-Some.ensures c.trans.view_is) (state_of c.give_up_leg.new.self) c.give_up_leg.ensures
