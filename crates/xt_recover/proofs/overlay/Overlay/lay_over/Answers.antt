use Rattle.std.proofs.Common.{◌∙◌, sym}
use Rattle.xt_recover.proofs.WholeLemmas.{whole_at}
use Rattle.xt_recover.specs.Sizes.{block_size}
use Rattle.xt_recover.proofs.overlay.Overlay.lay_over.Goals as goal

pub copy_chunks-requires : goal.copy_chunks-requires
copy_chunks-requires c = record {
  whole = whole_at (block_size c.args.self.now.size) c.args.block c.in-Some.content.now c.args.self.now.contents.entries c.args.self.now.whole c.in-Some.ensures.value ∙ sym c.requires;
}
