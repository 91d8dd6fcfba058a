use Rattle.xt_mount.proofs.ChangedLemmas.{own_alone}
use Rattle.xt_mount.specs.Machines.{state_of}
use Rattle.xt_mount.proofs.KeepLemmas.{room_changed}
use Rattle.xt_mount.proofs.EndLemmas.{named}
use Rattle.xt_mount.proofs.machine.Machine.inval.Goals as goal

pub mark_stale-requires-clause-few : goal.mark_stale-requires-clause-few
mark_stale-requires-clause-few c = room_changed (state_of c.args.self.now) c.args.trans c.args.block c.in-Some.opened c.requires (named (state_of c.args.self.now).transactions c.in-Some.ensures c.trans.view_is) (c.inval_refusal.ensures.own c.in_default-inval_refusal.is)

pub mark_stale-requires-clause-alone : goal.mark_stale-requires-clause-alone
mark_stale-requires-clause-alone c = own_alone (state_of c.args.self.now) c.requires c.args.trans c.args.block (c.inval_refusal.ensures.own c.in_default-inval_refusal.is)
