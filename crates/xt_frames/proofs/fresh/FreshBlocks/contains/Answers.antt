use Rattle.std.proofs.Common.{◌∙◌, ap, sym}
use Rattle.xt_base.proofs.ViewLemmas.{has_keys}
use Rattle.xt_base.specs.Maps.{has}
use Rattle.xt_base.specs.Views.{key_if}
use Rattle.xt_frames.specs.Fresh.{is_fresh_mark}
use Rattle.xt_frames.proofs.fresh.FreshBlocks.contains.Goals as goal

pub returns-in-Some : goal.returns-in-Some
returns-in-Some c =
    c.is_fresh.ensures ∙ ap (key_if is_fresh_mark) c.in-Some.ensures ∙ sym (has_keys is_fresh_mark 0 c.args.block c.self.inside.marks c.self.invariant.rising) ∙ ap (λ ks. has ks c.args.block) c.self.view_is

pub returns-in-None : goal.returns-in-None
returns-in-None c = ap (key_if is_fresh_mark) c.in-None.ensures ∙ sym (has_keys is_fresh_mark 0 c.args.block c.self.inside.marks c.self.invariant.rising) ∙ ap (λ ks. has ks c.args.block) c.self.view_is
