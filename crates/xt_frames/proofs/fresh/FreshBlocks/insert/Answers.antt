use Rattle.std.proofs.Common.{◌∙◌, List, ap, arith, length, ℕ}
use Rattle.xt_base.proofs.ViewLemmas.{keys_put}
use Rattle.xt_base.specs.Maps.{with_member}
use Rattle.xt_base.specs.Marks.{Marks}
use Rattle.xt_frames.proofs.FreshLemmas.{are_put, length_fresh}
use Rattle.xt_frames.specs.Fresh.{fresh_of, is_fresh_mark}
use Rattle.xt_frames.proofs.fresh.FreshBlocks.insert.Goals as goal

pub put-requires : goal.put-requires
put-requires c = λ absent.
    omega (arith, c.requires, length_fresh c.self.inside.marks c.self.invariant, ap (λ (ks : List ℕ). length ks) c.self.view_is)

pub invariant_of-self : goal.invariant_of-self
invariant_of-self c =
    are_put c.self.inside.marks c.put.new.self c.args.block c.fresh_mark.result c.self.invariant (ap (λ (m : Marks). m.fresh) c.fresh_mark.ensures) c.put.ensures

pub returns : goal.returns
returns c =
    ap fresh_of c.put.ensures ∙ keys_put is_fresh_mark 0 c.args.block c.fresh_mark.result c.self.inside.marks c.self.invariant.rising (ap (λ (m : Marks). m.fresh) c.fresh_mark.ensures)
    ∙ ap (with_member c.args.block) c.self.view_is
