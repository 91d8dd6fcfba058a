use Rattle.xt_mount.proofs.ChangedLemmas.{busy_aborted}
use Rattle.std.proofs.Common.{◌∙◌, ap, arith, length, sym}
use Rattle.xt_base.proofs.SoundBounds.{few_holds}
use Rattle.xt_base.specs.Calls.{held_of}
use Rattle.xt_base.specs.Legs.{is_dirty}
use Rattle.xt_base.specs.State.{Leg, State}
use Rattle.xt_mount.specs.Machines.{state_of}
use Rattle.xt_mount.proofs.EndLemmas.{cancelled, kept_shut, named, open_shut, sound_shut, there_shut}
use Rattle.xt_mount.proofs.StayLemmas.{others_cancelled, rising_cancelled}
use Rattle.xt_mount.proofs.machine.Machine.cancel.Goals as goal

pub held-requires : goal.held-requires
held-requires c = omega (arith, few_holds (state_of c.args.self.now) c.requires c.args.trans c.in-Some.opened (sym (named (state_of c.args.self.now).transactions c.in-Some.ensures c.trans.view_is)), ap (λ (l : Leg). length l.holds) c.leg.ensures)

pub close_aborted-requires-clause-sound : goal.close_aborted-requires-clause-sound
close_aborted-requires-clause-sound c =
    let s : State = state_of c.args.self.now in
    let opened = c.in-Some.opened in
    let there = named s.transactions c.in-Some.ensures c.trans.view_is in
    let clean = c.is_dirty-is_dirty.ensures ∙ ap is_dirty c.leg-2.ensures in
    sound_shut s c.args.trans opened there c.is_dirty-is_dirty.result clean (state_of c.shut_if.new.self) c.shut_if.ensures c.requires

pub close_aborted-requires-clause-there : goal.close_aborted-requires-clause-there
close_aborted-requires-clause-there c =
    let s : State = state_of c.args.self.now in
    let opened = c.in-Some.opened in
    let there = named s.transactions c.in-Some.ensures c.trans.view_is in
    let clean = c.is_dirty-is_dirty.ensures ∙ ap is_dirty c.leg-2.ensures in
    open_shut s c.args.trans opened there c.is_dirty-is_dirty.result clean (state_of c.shut_if.new.self) c.shut_if.ensures

pub close_aborted-requires-clause-kept : goal.close_aborted-requires-clause-kept
close_aborted-requires-clause-kept c =
    let s : State = state_of c.args.self.now in
    let opened = c.in-Some.opened in
    let there = named s.transactions c.in-Some.ensures c.trans.view_is in
    let clean = c.is_dirty-is_dirty.ensures ∙ ap is_dirty c.leg-2.ensures in
    kept_shut s c.args.trans opened there c.is_dirty-is_dirty.result clean (state_of c.shut_if.new.self) c.shut_if.ensures

pub returns-clause-ok : goal.returns-clause-ok
returns-clause-ok c =
    let s : State = state_of c.args.self.now in
    let opened = c.in-Some.opened in
    let there = named s.transactions c.in-Some.ensures c.trans.view_is in
    let clean = c.is_dirty-is_dirty.ensures ∙ ap is_dirty c.leg-2.ensures in
    cancelled s c.args.trans opened there c.is_dirty-is_dirty.result clean (state_of c.shut_if.new.self) c.shut_if.ensures c.in_ok-held.held (state_of c.close_aborted.new.self) (state_of c.settle_but.new.self) c.okay_of.result
    (c.in_ok-held.ensures.ok ∙ ap (λ (l : Leg). held_of l.holds) c.leg.ensures) c.close_aborted.ensures c.settle_but.ensures c.okay_of.ensures

pub settle_but-requires-clause-changed : goal.settle_but-requires-clause-changed
settle_but-requires-clause-changed c =
    let s : State = state_of c.args.self.now in
    let opened = c.in-Some.opened in
    let there = named s.transactions c.in-Some.ensures c.trans.view_is in
    let clean = c.is_dirty-is_dirty.ensures ∙ ap is_dirty c.leg-2.ensures in
    let mid : State = state_of c.shut_if.new.self in
    busy_aborted mid (sound_shut s c.args.trans opened there c.is_dirty-is_dirty.result clean mid c.shut_if.ensures c.requires) c.args.trans opened
    (there_shut s c.args.trans opened there c.is_dirty-is_dirty.result clean mid c.shut_if.ensures) (state_of c.close_aborted.new.self) c.close_aborted.ensures

pub settle_but-requires-clause-others : goal.settle_but-requires-clause-others
settle_but-requires-clause-others c =
    let s : State = state_of c.args.self.now in
    let opened = c.in-Some.opened in
    let there = named s.transactions c.in-Some.ensures c.trans.view_is in
    let clean = c.is_dirty-is_dirty.ensures ∙ ap is_dirty c.leg-2.ensures in
    let mid : State = state_of c.shut_if.new.self in
    others_cancelled mid (state_of c.close_aborted.new.self) c.args.trans opened (sound_shut s c.args.trans opened there c.is_dirty-is_dirty.result clean mid c.shut_if.ensures c.requires)
    (there_shut s c.args.trans opened there c.is_dirty-is_dirty.result clean mid c.shut_if.ensures) c.close_aborted.ensures c.only_clean-only.result c.only_clean-only.ensures.clean c.only_clean-only.ensures.others

pub settle_but-requires-clause-rising : goal.settle_but-requires-clause-rising
settle_but-requires-clause-rising c =
    let s : State = state_of c.args.self.now in
    let opened = c.in-Some.opened in
    let there = named s.transactions c.in-Some.ensures c.trans.view_is in
    let clean = c.is_dirty-is_dirty.ensures ∙ ap is_dirty c.leg-2.ensures in
    let mid : State = state_of c.shut_if.new.self in
    rising_cancelled mid (state_of c.close_aborted.new.self) c.args.trans opened (sound_shut s c.args.trans opened there c.is_dirty-is_dirty.result clean mid c.shut_if.ensures c.requires)
    (there_shut s c.args.trans opened there c.is_dirty-is_dirty.result clean mid c.shut_if.ensures) c.close_aborted.ensures
