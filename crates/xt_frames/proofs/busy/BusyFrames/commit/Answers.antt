use Rattle.std.proofs.Common.{◌∙◌, ap, sym}
use Rattle.std.specs.Option.{option_copied_mut}
use Rattle.xt_frames.proofs.BusyLemmas.{changed_in_slot, missing, not_missing, tied_in_slot}
use Rattle.xt_frames.specs.Kept.{committed_now}
use Rattle.xt_frames.proofs.busy.BusyFrames.commit.Goals as goal

pub unreachable-requires : goal.unreachable-requires
unreachable-requires c = missing c.self.inside.frames c.self.inside.index c.args.self.now c.args.block c.self.invariant c.self.view_is c.requires (c.in_default.ensures ∙ c.get.ensures)

pub unreachable-requires-in-None : goal.unreachable-requires-in-None
unreachable-requires-in-None c =
    not_missing c.self.inside.frames c.self.inside.index c.args.block c.in-Some.key c.self.invariant (sym (c.in-Some.ensures ∙ c.get.ensures)) (sym c.get_mut.ensures.value ∙ ap option_copied_mut c.in-None.is)

pub invariant_of-self : goal.invariant_of-self
invariant_of-self c =
    let was = sym c.get_mut.ensures.value ∙ ap option_copied_mut c.in-Some-get_mut.is in
    tied_in_slot c.self.inside.frames c.self.inside.index c.args.block c.in-Some.key c.in-Some-get_mut.frame.now c.commit.new.self c.self.invariant (sym (c.in-Some.ensures ∙ c.get.ensures)) was

pub returns : goal.returns
returns c =
    let was = sym c.get_mut.ensures.value ∙ ap option_copied_mut c.in-Some-get_mut.is in
    changed_in_slot c.self.inside.frames c.self.inside.index c.args.block c.in-Some.key c.in-Some-get_mut.frame.now c.commit.new.self c.self.invariant (sym (c.in-Some.ensures ∙ c.get.ensures)) was
    c.args.self.now c.self.view_is committed_now c.commit.ensures
