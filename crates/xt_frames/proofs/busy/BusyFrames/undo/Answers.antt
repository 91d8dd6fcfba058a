use Rattle.std.proofs.Common.{◌∙◌, ap, sym}
use Rattle.std.specs.Option.{option_copied_mut}
use Rattle.xt_frames.proofs.BusyLemmas.{changed_in_slot, not_missing, tied_in_slot, unchanged_none}
use Rattle.xt_frames.specs.Kept.{undone}
use Rattle.xt_frames.proofs.busy.BusyFrames.undo.Goals as goal

pub returns-in_default : goal.returns-in_default
returns-in_default c = unchanged_none c.self.inside.frames c.self.inside.index c.args.self.now c.args.block undone c.self.invariant c.self.view_is (c.in_default.ensures ∙ c.get.ensures)

pub unreachable-requires : goal.unreachable-requires
unreachable-requires c =
    not_missing c.self.inside.frames c.self.inside.index c.args.block c.in-Some.key c.self.invariant (sym (c.in-Some.ensures ∙ c.get.ensures)) (sym c.get_mut.ensures.value ∙ ap option_copied_mut c.in-None.is)

pub invariant_of-self : goal.invariant_of-self
invariant_of-self c =
    let was = sym c.get_mut.ensures.value ∙ ap option_copied_mut c.in-Some-get_mut.is in
    tied_in_slot c.self.inside.frames c.self.inside.index c.args.block c.in-Some.key c.in-Some-get_mut.frame.now c.undo.new.self c.self.invariant (sym (c.in-Some.ensures ∙ c.get.ensures)) was

pub returns : goal.returns
returns c =
    let was = sym c.get_mut.ensures.value ∙ ap option_copied_mut c.in-Some-get_mut.is in
    changed_in_slot c.self.inside.frames c.self.inside.index c.args.block c.in-Some.key c.in-Some-get_mut.frame.now c.undo.new.self c.self.invariant (sym (c.in-Some.ensures ∙ c.get.ensures)) was
    c.args.self.now c.self.view_is undone c.undo.ensures
