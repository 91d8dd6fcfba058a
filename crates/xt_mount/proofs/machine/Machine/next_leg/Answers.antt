use Rattle.xt_mount.proofs.ChangedLemmas.{leg_alone}
use Rattle.xt_mount.proofs.RollLemmas.{contents_room, leg_left, list_room, paid_by_unit, room_there}
use Rattle.xt_mount.specs.Machines.{state_of}
use Rattle.xt_mount.proofs.EndLemmas.{as_named, named}
use Rattle.std.proofs.Common.{sym}
use Rattle.xt_mount.proofs.SizeLemmas.{chunks_there}
use Rattle.xt_mount.proofs.machine.Machine.next_leg.Goals as goal

pub roll-requires-clause-contents : goal.roll-requires-clause-contents
roll-requires-clause-contents c =
    as_named (state_of c.args.self.now).transactions _ (sym c.trans-2.view_is)
    (contents_room (state_of c.args.self.now) c.requires.sound c.args.trans c.in-Some.opened (named (state_of c.args.self.now).transactions c.in-Some.ensures c.trans.view_is))

pub roll-requires-clause-list : goal.roll-requires-clause-list
roll-requires-clause-list c =
    as_named (state_of c.args.self.now).transactions _ (sym c.trans-2.view_is)
    (list_room (state_of c.args.self.now) c.requires.sound c.args.trans c.in-Some.opened (named (state_of c.args.self.now).transactions c.in-Some.ensures c.trans.view_is))

pub roll-requires-clause-legs : goal.roll-requires-clause-legs
roll-requires-clause-legs c =
    as_named (state_of c.args.self.now).transactions _ (sym c.trans-2.view_is)
    (leg_left (state_of c.args.self.now) c.requires.sound c.args.trans c.in-Some.opened (named (state_of c.args.self.now).transactions c.in-Some.ensures c.trans.view_is) c.requires.live)

pub roll-requires-clause-paid : goal.roll-requires-clause-paid
roll-requires-clause-paid c =
    as_named (state_of c.args.self.now).transactions _ (sym c.trans-2.view_is)
    (paid_by_unit (state_of c.args.self.now) c.requires.sound c.args.trans c.in-Some.opened (named (state_of c.args.self.now).transactions c.in-Some.ensures c.trans.view_is))

pub roll-requires-clause-room : goal.roll-requires-clause-room
roll-requires-clause-room c =
    as_named (state_of c.args.self.now).transactions _ (sym c.trans-2.view_is)
    (room_there (state_of c.args.self.now) c.requires.sound c.args.trans c.in-Some.opened (named (state_of c.args.self.now).transactions c.in-Some.ensures c.trans.view_is) c.requires.room)

pub roll-requires-clause-alone : goal.roll-requires-clause-alone
roll-requires-clause-alone c =
    leg_alone (state_of c.args.self.now) c.requires.sound c.args.trans _ c.in-Some.opened (named (state_of c.args.self.now).transactions c.in-Some.ensures c.trans.view_is) (sym c.trans-2.view_is)

pub roll-requires-clause-chunks : goal.roll-requires-clause-chunks
roll-requires-clause-chunks c =
    as_named (state_of c.args.self.now).transactions _ (sym c.trans-2.view_is)
    (chunks_there (state_of c.args.self.now) c.args.trans c.in-Some.opened c.requires.sized (named (state_of c.args.self.now).transactions c.in-Some.ensures c.trans.view_is))
