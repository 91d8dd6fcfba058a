use Rattle.std.proofs.Common.{◌∙◌, None, Some, ap, sym, ℕ}
use Rattle.std.specs.Prelude.{option_map}
use Rattle.xt_base.proofs.ViewLemmas.{view_without}
use Rattle.xt_base.specs.Maps.{at, without}
use Rattle.xt_frames.proofs.BusyLemmas.{busy_without, found_at, key_there, tied_without}
use Rattle.xt_frames.specs.Busy.{busy_of, frame_in}
use Rattle.xt_frames.specs.Kept.{Framed}
use Rattle.xt_frames.proofs.busy.BusyFrames.remove.Goals as goal

pub returns-in_err-key-clause-value : goal.returns-in_err-key-clause-value
returns-in_err-key-clause-value c =
    c.from_residual.ensures ∙ found_at c.self.inside.frames c.self.inside.index c.args.block None c.self.invariant c.in_err-key.ensures.value ∙ ap (at c.args.block) c.self.view_is

pub returns-in_err-key-clause-rest : goal.returns-in_err-key-clause-rest
returns-in_err-key-clause-rest c =
    ap (busy_of c.self.inside.frames) c.remove.ensures.rest ∙ view_without (frame_in c.self.inside.frames) 0 c.args.block c.self.inside.index c.self.invariant.rising
    ∙ ap (without c.args.block) c.self.view_is

pub remove-frame-requires : goal.remove-frame-requires
remove-frame-requires c = key_there c.self.inside.frames c.self.inside.index c.args.block c.in_ok-key.key c.self.invariant (sym c.in_ok-key.ensures.value)

pub invariant_of-self-2 : goal.invariant_of-self-2
invariant_of-self-2 c =
    tied_without c.self.inside.frames c.remove-frame.new.self c.self.inside.index c.args.block c.in_ok-key.key c.self.invariant (sym c.in_ok-key.ensures.value) c.remove-frame.ensures.updates
    c.remove.new.self c.remove.ensures.rest c.remove-frame.ensures.len c.remove-frame.ensures.capacity

pub returns-clause-value : goal.returns-clause-value
returns-clause-value c =
    ap (option_map (λ (e : ℕ × Framed). e.1)) (sym c.remove-frame.ensures.value)
    ∙ found_at c.self.inside.frames c.self.inside.index c.args.block (Some c.in_ok-key.key) c.self.invariant c.in_ok-key.ensures.value ∙ ap (at c.args.block) c.self.view_is

pub returns-clause-rest : goal.returns-clause-rest
returns-clause-rest c =
    busy_without c.self.inside.frames c.remove-frame.new.self c.self.inside.index c.args.block c.in_ok-key.key c.self.invariant (sym c.in_ok-key.ensures.value) c.remove-frame.ensures.updates
    c.remove.new.self c.remove.ensures.rest ∙ ap (without c.args.block) c.self.view_is
