use Rattle.xt_mount.proofs.ChangedLemmas.{busy_rolled}
use Rattle.std.proofs.Common.{◌∙◌, ◌<◌, ap, arith, length, refl, subst, sym, if◌then◌else◌}
use Rattle.std.specs.Prelude.{not}
use Rattle.xt_base.proofs.SoundBounds.{few_holds}
use Rattle.xt_base.specs.Calls.{gives, held_of}
use Rattle.xt_base.specs.Legs.{is_dirty}
use Rattle.xt_base.specs.State.{Leg}
use Rattle.xt_mount.proofs.EndLemmas.{if_some, named}
use Rattle.xt_mount.proofs.RollLemmas.{changes_rise, grant_there, paid_unit, roll_goes_on, roll_waits, room_is}
use Rattle.xt_mount.proofs.WantLemmas.{on_err, roll_names}
use Rattle.xt_mount.specs.Machines.{state_of}
use Rattle.xt_mount.proofs.StayLemmas.{others_committed, rising_committed}
use Rattle.xt_base.specs.Calls.{legs_after, with_legs}
use Rattle.xt_mount.proofs.machine.Machine.roll.Goals as goal

pub finds_no_room-requires-clause-rising : goal.finds_no_room-requires-clause-rising
finds_no_room-requires-clause-rising c = changes_rise (state_of c.args.self.now) c.requires.sound c.args.trans c.in-Some.opened (named (state_of c.args.self.now).transactions c.in-Some.ensures c.trans.view_is)

pub finds_no_room-requires-clause-granted : goal.finds_no_room-requires-clause-granted
finds_no_room-requires-clause-granted c = grant_there (state_of c.args.self.now) c.requires.sound c.args.trans c.in-Some.opened (named (state_of c.args.self.now).transactions c.in-Some.ensures c.trans.view_is)

pub finds_no_room-requires-clause-paid : goal.finds_no_room-requires-clause-paid
finds_no_room-requires-clause-paid c = paid_unit (state_of c.args.self.now) c.requires.sound c.args.trans c.in-Some.opened (named (state_of c.args.self.now).transactions c.in-Some.ensures c.trans.view_is)

pub returns-then-finds_no_room-clause-ok : goal.returns-then-finds_no_room-clause-ok
returns-then-finds_no_room-clause-ok c =
    roll_waits (state_of c.args.self.now) c.requires.sound c.args.trans c.in-Some.opened (named (state_of c.args.self.now).transactions c.in-Some.ensures c.trans.view_is) (ap not (sym c.perm.ensures ∙ c.if-not-perm.false)) (sym c.is_shut.ensures ∙ c.if-is_shut.false) (room_is (state_of c.args.self.now) c.requires.sound c.args.trans c.in-Some.opened (named (state_of c.args.self.now).transactions c.in-Some.ensures c.trans.view_is) ∙ sym c.finds_no_room.ensures ∙ c.if-finds_no_room.true) _ c.ask_space.ensures

pub held-requires : goal.held-requires
held-requires c = omega (arith, few_holds (state_of c.args.self.now) c.requires.sound c.args.trans c.in-Some.opened (sym (named (state_of c.args.self.now).transactions c.in-Some.ensures c.trans.view_is)), ap (λ (l : Leg). length l.holds) c.leg.ensures)

pub next_leg-requires-clause-room : goal.next_leg-requires-clause-room
next_leg-requires-clause-room c = if_some _ _ c.in-Some.opened (named (state_of c.args.self.now).transactions c.in-Some.ensures c.trans.view_is) (room_is (state_of c.args.self.now) c.requires.sound c.args.trans c.in-Some.opened (named (state_of c.args.self.now).transactions c.in-Some.ensures c.trans.view_is) ∙ sym c.finds_no_room.ensures ∙ c.if-finds_no_room.false)

pub returns-clause-ok : goal.returns-clause-ok
returns-clause-ok c =
    ap (λ r. gives r (state_of c.settle_but.new.self)) c.committed_of.ensures
    ∙ roll_goes_on (state_of c.args.self.now) c.requires.sound c.args.trans c.in-Some.opened (named (state_of c.args.self.now).transactions c.in-Some.ensures c.trans.view_is) (ap not (sym c.perm.ensures ∙ c.if-not-perm.false)) (sym c.is_shut.ensures ∙ c.if-is_shut.false) (room_is (state_of c.args.self.now) c.requires.sound c.args.trans c.in-Some.opened (named (state_of c.args.self.now).transactions c.in-Some.ensures c.trans.view_is) ∙ sym c.finds_no_room.ensures ∙ c.if-finds_no_room.false) c.in_ok-held.held c.commit_number-number.result _ _
    (c.in_ok-held.ensures.ok ∙ ap (λ (l : Leg). held_of l.holds) c.leg.ensures)
    (c.commit_number-number.ensures ∙ ap (λ b. if b then (state_of c.args.self.now).items.open_number else 0) (c.is_dirty.ensures ∙ ap is_dirty c.leg-2.ensures))
    c.next_leg.ensures c.settle_but.ensures

pub returns-in_err-held-clause-want : goal.returns-in_err-held-clause-want
returns-in_err-held-clause-want c =
    on_err c.from_residual.result _
    (roll_names (state_of c.args.self.now) c.args.trans c.in-Some.opened _ (named (state_of c.args.self.now).transactions c.in-Some.ensures c.trans.view_is) (subst (λ (l : Leg). 0 < length l.holds) c.leg.ensures c.in_err-held.ensures.want) (ap not (sym c.perm.ensures ∙ c.if-not-perm.false))
    (sym c.is_shut.ensures ∙ c.if-is_shut.false) (room_is (state_of c.args.self.now) c.requires.sound c.args.trans c.in-Some.opened (named (state_of c.args.self.now).transactions c.in-Some.ensures c.trans.view_is) ∙ sym c.finds_no_room.ensures ∙ c.if-finds_no_room.false))

pub settle_but-requires-clause-rising : goal.settle_but-requires-clause-rising
settle_but-requires-clause-rising c =
    rising_committed (state_of c.args.self.now) (state_of c.next_leg.new.self) c.args.trans c.in-Some.opened (λ u x. with_legs c.args.trans (legs_after u.legs) u x) c.requires.sound
    (named (state_of c.args.self.now).transactions c.in-Some.ensures c.trans.view_is) c.next_leg.ensures (λ u x. refl)

pub settle_but-requires-clause-others : goal.settle_but-requires-clause-others
settle_but-requires-clause-others c =
    others_committed (state_of c.args.self.now) (state_of c.next_leg.new.self) c.args.trans c.in-Some.opened (λ u x. with_legs c.args.trans (legs_after u.legs) u x) c.requires.sound
    (named (state_of c.args.self.now).transactions c.in-Some.ensures c.trans.view_is) c.next_leg.ensures c.only_unchanged-only.result (λ b u x others. others) c.only_unchanged-only.ensures

pub settle_but-requires-clause-changed : goal.settle_but-requires-clause-changed
settle_but-requires-clause-changed c =
    busy_rolled (state_of c.args.self.now) c.requires.sound c.args.trans c.in-Some.opened (named (state_of c.args.self.now).transactions c.in-Some.ensures c.trans.view_is) (state_of c.next_leg.new.self) (λ u. legs_after u.legs) c.next_leg.ensures
