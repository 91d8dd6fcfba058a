use Rattle.std.proofs.Common.{◌∙◌, List, Some, ap, sym, ℕ}
use Rattle.std.specs.Prelude.{option_map, slice_get}
use Rattle.xt_frames.proofs.IdleLemmas.{block_under, first_block}
use Rattle.xt_frames.specs.Idle.{Idle}
use Rattle.xt_frames.proofs.idle.IdleList.first.Goals as goal

pub returns-in-Some-idle : goal.returns-in-Some-idle
returns-in-Some-idle c =
    ap (λ (i : Idle). block_under (Some (c.in-Some.field-0-0.now, i))) (sym c.in-Some-idle.is)
    ∙ ap block_under c.in-Some.ensures ∙ first_block c.self.inside.names.entries c.self.invariant.packed ∙ ap (λ (xs : List (ℕ × List ℕ)). option_map (λ (e : ℕ × List ℕ). e.0) (slice_get xs 0)) c.self.view_is

pub returns-in-None-idle : goal.returns-in-None-idle
returns-in-None-idle c =
    ap (λ (i : Idle). block_under (Some (c.in-Some.field-0-0.now, i))) (sym c.in-None-idle.is)
    ∙ ap block_under c.in-Some.ensures ∙ first_block c.self.inside.names.entries c.self.invariant.packed ∙ ap (λ (xs : List (ℕ × List ℕ)). option_map (λ (e : ℕ × List ℕ). e.0) (slice_get xs 0)) c.self.view_is

pub returns-in-None : goal.returns-in-None
returns-in-None c = ap block_under c.in-None.ensures ∙ first_block c.self.inside.names.entries c.self.invariant.packed ∙ ap (λ (xs : List (ℕ × List ℕ)). option_map (λ (e : ℕ × List ℕ). e.0) (slice_get xs 0)) c.self.view_is
