use Rattle.std.proofs.Common.{◌∙◌, ◌+◌, ◌++◌, List, ap, arith, drop, length, take, ℕ}
use Rattle.xt_frames.proofs.FreshLemmas.{are_cut, fresh_cut, length_fresh}
use Rattle.xt_frames.proofs.fresh.FreshBlocks.remove_at.Goals as goal

pub remove_at-marks-requires : goal.remove_at-marks-requires
remove_at-marks-requires c =
    omega (arith, c.requires, length_fresh c.self.inside.marks c.self.invariant, ap (λ (ks : List ℕ). length ks) c.self.view_is)

pub invariant_of-self : goal.invariant_of-self
invariant_of-self c = are_cut c.self.inside.marks c.remove_at-marks.new.self c.args.index c.self.invariant c.remove_at-marks.ensures.rest

pub returns : goal.returns
returns c =
    fresh_cut c.self.inside.marks c.remove_at-marks.new.self c.args.index c.self.invariant c.remove_at-marks.ensures.rest ∙ ap (λ (ks : List ℕ). take c.args.index ks ++ drop (c.args.index + 1) ks) c.self.view_is
