use Rattle.std.proofs.Common.{◌∙◌, List, ap, arith, length, sym, ℕ}
use Rattle.std.specs.Prelude.{slice_get}
use Rattle.xt_frames.proofs.FreshLemmas.{fresh_there, length_fresh}
use Rattle.xt_frames.proofs.fresh.FreshBlocks.at.Goals as goal

pub entry_at-requires : goal.entry_at-requires
entry_at-requires c =
    omega (arith, c.requires, length_fresh c.self.inside.marks c.self.invariant, ap (λ (ks : List ℕ). length ks) c.self.view_is)

pub returns : goal.returns
returns c = ap (λ ks. slice_get ks c.args.index) (sym c.self.view_is) ∙ fresh_there c.self.inside.marks c.args.index c.entry_at.result c.self.invariant c.entry_at.ensures
