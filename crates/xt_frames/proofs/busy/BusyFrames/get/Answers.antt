use Rattle.std.proofs.Common.{◌∙◌, None, Some, ap, ℕ}
use Rattle.std.specs.Prelude.{option_map}
use Rattle.xt_base.specs.Maps.{at}
use Rattle.xt_frames.proofs.BusyLemmas.{found_at}
use Rattle.xt_frames.specs.Kept.{Framed}
use Rattle.xt_frames.proofs.busy.BusyFrames.get.Goals as goal

pub returns-in-Some-get : goal.returns-in-Some-get
returns-in-Some-get c =
    ap (option_map (λ (e : ℕ × Framed). e.1)) c.in-Some-get.ensures
    ∙ found_at c.self.inside.frames c.self.inside.index c.args.block (Some c.in-Some.key) c.self.invariant (c.in-Some.ensures ∙ c.get.ensures) ∙ ap (at c.args.block) c.self.view_is

pub returns-in-None-get : goal.returns-in-None-get
returns-in-None-get c =
    ap (option_map (λ (e : ℕ × Framed). e.1)) c.in-None-get.ensures
    ∙ found_at c.self.inside.frames c.self.inside.index c.args.block (Some c.in-Some.key) c.self.invariant (c.in-Some.ensures ∙ c.get.ensures) ∙ ap (at c.args.block) c.self.view_is

pub returns-in-None : goal.returns-in-None
returns-in-None c = found_at c.self.inside.frames c.self.inside.index c.args.block None c.self.invariant (c.in-None.ensures ∙ c.get.ensures) ∙ ap (at c.args.block) c.self.view_is
