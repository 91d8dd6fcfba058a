use Rattle.std.proofs.Common.{◌≡◌, ◌∙◌, List, ap, arith, length, sym, ℕ}
use Rattle.xt_frames.proofs.BusyLemmas.{at_placed, frame_placed, key_there, length_tied, less_is, rest_placed, tied_without}
use Rattle.xt_frames.specs.Kept.{Framed}
use Rattle.xt_frames.proofs.busy.BusyFrames.remove_at.Goals as goal

pub remove_at-block-requires : goal.remove_at-block-requires
remove_at-block-requires c =
    let same : length c.self.inside.index ≡ length c.args.self.now = sym (length_tied c.self.inside.frames c.self.inside.index c.self.invariant) ∙ ap (λ (xs : List (ℕ × Framed)). length xs) c.self.view_is in
    omega (arith, c.requires, same)

pub remove-frame-requires : goal.remove-frame-requires
remove-frame-requires c =
    key_there c.self.inside.frames c.self.inside.index c.remove_at-block.result.0 c.remove_at-block.result.1 c.self.invariant (at_placed 0 c.args.index c.self.inside.index c.remove_at-block.result c.self.invariant.rising c.remove_at-block.ensures.value)

pub invariant_of-self : goal.invariant_of-self
invariant_of-self c =
    tied_without c.self.inside.frames c.remove-frame.new.self c.self.inside.index c.remove_at-block.result.0 c.remove_at-block.result.1 c.self.invariant (at_placed 0 c.args.index c.self.inside.index c.remove_at-block.result c.self.invariant.rising c.remove_at-block.ensures.value)
    c.remove-frame.ensures.updates c.remove_at-block.new.self (less_is c.self.inside.frames c.remove-frame.new.self c.self.inside.index c.remove_at-block.new.self c.args.self.now c.args.index c.remove_at-block.result.0 c.remove_at-block.result.1 c.self.invariant c.self.view_is c.remove_at-block.ensures.value c.remove_at-block.ensures.rest) c.remove-frame.ensures.len c.remove-frame.ensures.capacity

pub returns-clause-value : goal.returns-clause-value
returns-clause-value c = frame_placed c.self.inside.frames c.remove-frame.new.self c.self.inside.index c.remove_at-block.new.self c.args.self.now c.args.index c.remove_at-block.result.0 c.remove_at-block.result.1 c.self.invariant c.self.view_is c.remove_at-block.ensures.value c.remove_at-block.ensures.rest c.remove-frame.result c.remove-frame.ensures.value

pub returns-clause-rest : goal.returns-clause-rest
returns-clause-rest c = rest_placed c.self.inside.frames c.remove-frame.new.self c.self.inside.index c.remove_at-block.new.self c.args.self.now c.args.index c.remove_at-block.result.0 c.remove_at-block.result.1 c.self.invariant c.self.view_is c.remove_at-block.ensures.value c.remove_at-block.ensures.rest c.remove-frame.ensures.updates
