use Rattle.xt_mount.proofs.ChangedLemmas.{leg_alone}
use Rattle.xt_mount.proofs.RollLemmas.{fresh_room}
use Rattle.xt_mount.specs.Machines.{state_of}
use Rattle.xt_mount.proofs.EndLemmas.{as_named, if_some, named, shut_kept}
use Rattle.std.proofs.Common.{◌≡◌, false, sym}
use Rattle.std.specs.Prelude.{is_none, ◌&&◌}
use Rattle.xt_base.specs.Legs.{is_dirty}
use Rattle.xt_base.specs.Maps.{at}
use Rattle.xt_base.specs.State.{State}
use Rattle.xt_mount.proofs.machine.Machine.give_up_leg.Goals as goal

pub give_up-requires-clause-kept : goal.give_up-requires-clause-kept
give_up-requires-clause-kept c =
    let s : State = state_of c.args.self.now in
    let leg = c.in-Some.opened.leg in
    as_named s.transactions _ (sym c.trans-2.view_is)
    (if_some (at c.args.trans s.transactions) (λ t. (is_dirty t.leg && is_none s.shut) ≡ false) c.in-Some.opened (named s.transactions c.in-Some.ensures c.trans.view_is) (shut_kept (is_dirty leg) s.shut c.requires.shut))

pub give_up-requires-clause-fresh : goal.give_up-requires-clause-fresh
give_up-requires-clause-fresh c =
    as_named (state_of c.args.self.now).transactions _ (sym c.trans-2.view_is)
    (fresh_room (state_of c.args.self.now) c.requires.sound c.args.trans c.in-Some.opened (named (state_of c.args.self.now).transactions c.in-Some.ensures c.trans.view_is))

pub give_up-requires-clause-alone : goal.give_up-requires-clause-alone
give_up-requires-clause-alone c =
    leg_alone (state_of c.args.self.now) c.requires.sound c.args.trans _ c.in-Some.opened (named (state_of c.args.self.now).transactions c.in-Some.ensures c.trans.view_is) (sym c.trans-2.view_is)
