use Rattle.xt_mount.proofs.ChangedLemmas.{leg_alone}
use Rattle.xt_mount.proofs.RollLemmas.{contents_room, list_room, paid_by_grant}
use Rattle.xt_mount.specs.Machines.{state_of}
use Rattle.xt_mount.proofs.EndLemmas.{as_named, named}
use Rattle.std.proofs.Common.{sym}
use Rattle.xt_mount.proofs.SizeLemmas.{chunks_there}
use Rattle.xt_mount.proofs.machine.Machine.close.Goals as goal

pub commit-requires-clause-contents : goal.commit-requires-clause-contents
commit-requires-clause-contents c =
    as_named (state_of c.args.self.now).transactions _ (sym c.trans-2.view_is)
    (contents_room (state_of c.args.self.now) c.requires.sound c.args.trans c.in-Some.opened (named (state_of c.args.self.now).transactions c.in-Some.ensures c.trans.view_is))

pub commit-requires-clause-list : goal.commit-requires-clause-list
commit-requires-clause-list c =
    as_named (state_of c.args.self.now).transactions _ (sym c.trans-2.view_is)
    (list_room (state_of c.args.self.now) c.requires.sound c.args.trans c.in-Some.opened (named (state_of c.args.self.now).transactions c.in-Some.ensures c.trans.view_is))

pub commit-requires-clause-paid : goal.commit-requires-clause-paid
commit-requires-clause-paid c =
    as_named (state_of c.args.self.now).transactions _ (sym c.trans-2.view_is)
    (paid_by_grant (state_of c.args.self.now) c.requires.sound c.args.trans c.in-Some.opened (named (state_of c.args.self.now).transactions c.in-Some.ensures c.trans.view_is) c.requires.kept)

pub commit-requires-clause-alone : goal.commit-requires-clause-alone
commit-requires-clause-alone c =
    leg_alone (state_of c.args.self.now) c.requires.sound c.args.trans _ c.in-Some.opened (named (state_of c.args.self.now).transactions c.in-Some.ensures c.trans.view_is) (sym c.trans-2.view_is)

pub commit-requires-clause-chunks : goal.commit-requires-clause-chunks
commit-requires-clause-chunks c =
    as_named (state_of c.args.self.now).transactions _ (sym c.trans-2.view_is)
    (chunks_there (state_of c.args.self.now) c.args.trans c.in-Some.opened c.requires.sized (named (state_of c.args.self.now).transactions c.in-Some.ensures c.trans.view_is))
