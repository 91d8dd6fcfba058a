use Rattle.std.proofs.Common.{◌∙◌, List, ap, length, sym, ℕ}
use Rattle.xt_frames.proofs.FreshLemmas.{length_fresh}
use Rattle.xt_frames.proofs.fresh.FreshBlocks.len.Goals as goal

pub returns-clause-value : goal.returns-clause-value
returns-clause-value c = c.len.ensures.value ∙ sym (length_fresh c.self.inside.marks c.self.invariant) ∙ ap (λ (ks : List ℕ). length ks) c.self.view_is
