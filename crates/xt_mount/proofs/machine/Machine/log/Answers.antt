use Rattle.xt_mount.specs.Machines.{state_of}
use Rattle.xt_mount.proofs.ChangedLemmas.{own_alone}
use Rattle.xt_mount.proofs.KeepLemmas.{room_changed}
use Rattle.xt_mount.proofs.EndLemmas.{named}
use Rattle.std.proofs.Common.{◌+◌, length}
use Rattle.xt_mount.proofs.SizeLemmas.{room_seen}
use Rattle.xt_mount.proofs.machine.Machine.log.Goals as goal

pub keep_edit-requires-clause-few : goal.keep_edit-requires-clause-few
keep_edit-requires-clause-few c =
    room_changed (state_of c.args.self.now) c.args.trans c.args.block c.in-Some.opened c.requires.sound (named (state_of c.args.self.now).transactions c.in-Some.ensures c.trans.view_is)
    (c.log_refusal.ensures.own c.in_default-log_refusal.is)

pub keep_edit-requires-clause-alone : goal.keep_edit-requires-clause-alone
keep_edit-requires-clause-alone c = own_alone (state_of c.args.self.now) c.requires.sound c.args.trans c.args.block (c.log_refusal.ensures.own c.in_default-log_refusal.is)

pub keep_edit-requires-clause-seen : goal.keep_edit-requires-clause-seen
keep_edit-requires-clause-seen c =
    room_seen (state_of c.args.self.now) c.args.trans c.args.block (c.args.first + length c.args.bytes.now) c.in-Some.opened c.requires.sized (named (state_of c.args.self.now).transactions c.in-Some.ensures c.trans.view_is)
    (c.log_refusal.ensures.size c.in_default-log_refusal.is)
