use Rattle.xt_mount.proofs.ChangedLemmas.{leg_alone}
use Rattle.xt_mount.proofs.RollLemmas.{fresh_room}
use Rattle.xt_mount.specs.Machines.{state_of}
use Rattle.xt_mount.proofs.EndLemmas.{as_named, named}
use Rattle.std.proofs.Common.{sym}
use Rattle.xt_mount.proofs.machine.Machine.close_aborted.Goals as goal

pub cancel-requires-clause-kept : goal.cancel-requires-clause-kept
cancel-requires-clause-kept c = as_named (state_of c.args.self.now).transactions _ (sym c.trans-2.view_is) c.requires.kept

pub cancel-requires-clause-fresh : goal.cancel-requires-clause-fresh
cancel-requires-clause-fresh c =
    as_named (state_of c.args.self.now).transactions _ (sym c.trans-2.view_is)
    (fresh_room (state_of c.args.self.now) c.requires.sound c.args.trans c.in-Some.opened (named (state_of c.args.self.now).transactions c.in-Some.ensures c.trans.view_is))

pub cancel-requires-clause-alone : goal.cancel-requires-clause-alone
cancel-requires-clause-alone c =
    leg_alone (state_of c.args.self.now) c.requires.sound c.args.trans _ c.in-Some.opened (named (state_of c.args.self.now).transactions c.in-Some.ensures c.trans.view_is) (sym c.trans-2.view_is)
