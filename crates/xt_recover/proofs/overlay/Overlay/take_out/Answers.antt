use Rattle.xt_recover.proofs.WholeLemmas.{whole_without}
use Rattle.xt_recover.specs.Sizes.{block_size}
use Rattle.xt_recover.proofs.overlay.Overlay.take_out.Goals as goal

pub invariant_of-self : goal.invariant_of-self
invariant_of-self c = record {
  one_of = c.args.self.now.one_of;
  whole = whole_without (block_size c.args.self.now.size) c.args.block c.args.self.now.contents.entries c.remove-content.new.self.entries c.args.self.now.whole c.remove-content.ensures.entries;
}
