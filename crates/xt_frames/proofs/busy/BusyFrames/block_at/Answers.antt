use Rattle.std.proofs.Common.{◌≡◌, ◌<◌, ◌≤◌, ◌∙◌, List, ap, arith, length, sym, ℕ}
use Rattle.std.specs.Prelude.{option_map}
use Rattle.xt_frames.proofs.BusyLemmas.{content_here, length_tied, no_block}
use Rattle.xt_frames.specs.Kept.{Framed}
use Rattle.xt_frames.proofs.busy.BusyFrames.block_at.Goals as goal

pub returns-then-index-entries-clause-value : goal.returns-then-index-entries-clause-value
returns-then-index-entries-clause-value c =
    let lt : c.args.index < length c.entries-entries.result.now = omega arith in
    sym (ap (option_map (λ (e : ℕ × Framed). e.0)) (content_here c.self.inside.frames c.self.inside.index c.entries-entries.result.now c.args.self.now c.args.index c.self.invariant c.entries-entries.ensures.value c.self.view_is lt).1)

pub returns-else-index-entries-clause-value : goal.returns-else-index-entries-clause-value
returns-else-index-entries-clause-value c =
    let same : length c.entries-entries.result.now ≡ length c.args.self.now =
    ap (λ (xs : List (ℕ × ℕ)). length xs) c.entries-entries.ensures.value ∙ sym (length_tied c.self.inside.frames c.self.inside.index c.self.invariant) ∙ ap (λ (xs : List (ℕ × Framed)). length xs) c.self.view_is
    in let le : length c.args.self.now ≤ c.args.index = omega (arith, same) in
    no_block c.args.self.now c.args.index le
