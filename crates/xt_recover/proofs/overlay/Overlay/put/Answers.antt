use Rattle.std.proofs.Common.{◌∙◌, sym}
use Rattle.xt_recover.proofs.WholeLemmas.{taken_ok, whole_put}
use Rattle.xt_recover.specs.Sizes.{block_size}
use Rattle.xt_recover.proofs.overlay.Overlay.put.Goals as goal

pub invariant_of-self-2 : goal.invariant_of-self-2
invariant_of-self-2 c = record {
  one_of = c.args.self.now.one_of;
  whole = whole_put (block_size c.args.self.now.size) c.args.block c.args.content c.args.self.now.contents.entries c.insert.new.self.entries c.args.self.now.whole c.requires.whole
      (taken_ok c.insert.result _ (sym c.is_err.ensures.value ∙ c.if-is_err.false) c.insert.ensures.entries);
}
