use Rattle.xt_mount.proofs.ChangedLemmas.{busy_aborted, busy_ended}
use Rattle.std.proofs.Common.{◌∙◌, ◌≡◌, ap, arith, false, length, refl, sym}
use Rattle.std.specs.Prelude.{is_none, is_some, ◌&&◌}
use Rattle.xt_base.specs.Legs.{is_dirty}
use Rattle.xt_base.specs.Maps.{at}
use Rattle.xt_base.proofs.SoundBounds.{few_holds}
use Rattle.xt_base.specs.State.{Leg, State}
use Rattle.xt_mount.specs.Machines.{state_of}
use Rattle.xt_mount.proofs.EndLemmas.{and_right, if_some, named, shut_kept}
use Rattle.xt_mount.proofs.StayLemmas.{others_committed, rising_committed}
use Rattle.xt_base.specs.Calls.{closed}
use Rattle.xt_mount.proofs.machine.Machine.commit.Goals as goal

pub held-requires : goal.held-requires
held-requires c = omega (arith, few_holds (state_of c.args.self.now) c.requires.sound c.args.trans c.in-Some.opened (sym (named (state_of c.args.self.now).transactions c.in-Some.ensures c.trans.view_is)), ap (λ (l : Leg). length l.holds) c.leg.ensures)

pub close_aborted-requires-clause-kept : goal.close_aborted-requires-clause-kept
close_aborted-requires-clause-kept c =
    let s : State = state_of c.args.self.now in
    let leg = c.in-Some.opened.leg in
    if_some (at c.args.trans s.transactions) (λ t. (is_dirty t.leg && is_none s.shut) ≡ false) c.in-Some.opened (named s.transactions c.in-Some.ensures c.trans.view_is)
    (shut_kept (is_dirty leg) s.shut (and_right _ (is_some s.shut) (sym c.gives_up.ensures ∙ c.if-gives_up.true)))

pub settle_but-requires-clause-rising : goal.settle_but-requires-clause-rising
settle_but-requires-clause-rising c =
    rising_committed (state_of c.args.self.now) (state_of c.close.new.self) c.args.trans c.in-Some.opened (λ u x. closed c.args.trans x) c.requires.sound
    (named (state_of c.args.self.now).transactions c.in-Some.ensures c.trans.view_is) c.close.ensures (λ u x. refl)

pub settle_but-requires-clause-others : goal.settle_but-requires-clause-others
settle_but-requires-clause-others c =
    others_committed (state_of c.args.self.now) (state_of c.close.new.self) c.args.trans c.in-Some.opened (λ u x. closed c.args.trans x) c.requires.sound
    (named (state_of c.args.self.now).transactions c.in-Some.ensures c.trans.view_is) c.close.ensures c.only_unchanged-only.result (λ b u x others. others) c.only_unchanged-only.ensures

pub settle-requires : goal.settle-requires
settle-requires c =
    busy_aborted (state_of c.args.self.now) c.requires.sound c.args.trans c.in-Some.opened (named (state_of c.args.self.now).transactions c.in-Some.ensures c.trans.view_is) (state_of c.close_aborted.new.self) c.close_aborted.ensures

pub settle_but-requires-clause-changed : goal.settle_but-requires-clause-changed
settle_but-requires-clause-changed c =
    busy_ended (state_of c.args.self.now) c.requires.sound c.args.trans c.in-Some.opened (named (state_of c.args.self.now).transactions c.in-Some.ensures c.trans.view_is) (state_of c.close.new.self) c.close.ensures
