use Rattle.std.proofs.Common.{◌∙◌, List, ap, length, sym, ℕ}
use Rattle.xt_frames.proofs.BusyLemmas.{length_tied}
use Rattle.xt_frames.specs.Kept.{Framed}
use Rattle.xt_frames.proofs.busy.BusyFrames.len.Goals as goal

pub returns-clause-value : goal.returns-clause-value
returns-clause-value c = c.len.ensures.value ∙ sym (length_tied c.self.inside.frames c.self.inside.index c.self.invariant) ∙ ap (λ (xs : List (ℕ × Framed)). length xs) c.self.view_is
