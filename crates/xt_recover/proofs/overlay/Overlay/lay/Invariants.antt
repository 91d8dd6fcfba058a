use Rattle.std.proofs.Common.{◌≡◌, drop}
use Rattle.xt_ckpt.specs.Grammar.{entries}
use Rattle.xt_recover.specs.Overlaid.{overlaid, with_items}
use Rattle.xt_recover.proofs.overlay.Overlay.lay.Given as goal

abbrev pub invariant-loop-item : goal.invariant-loop-item
invariant-loop-item l = record {
  laid : with_items (entries (drop l.item-index l.items)) (overlaid l.self) ≡ with_items (entries l.items) (overlaid l.fn.self);
  size : l.self.size ≡ l.fn.self.size;
}
