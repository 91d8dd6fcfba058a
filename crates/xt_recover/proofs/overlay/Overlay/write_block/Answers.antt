use Rattle.std.proofs.Common.{◌∙◌, ap, rules}
use Rattle.xt_recover.proofs.WriteLemmas.{stopped_write}
use Rattle.xt_recover.specs.Chunks.{merged}
use Rattle.xt_recover.specs.Overlaid.{overlaid}
use Rattle.xt_recover.proofs.overlay.Overlay.write_block.Goals as goal

pub returns-in-Err-clause-stopped : goal.returns-in-Err-clause-stopped
returns-in-Err-clause-stopped g c =
    stopped_write (overlaid c.args.self.now) c.args.block c.args.content.now c.read_block.new.room c.copy_chunks.new.block (g.H.HomeDevice.home_tells c.args.home.now) (g.H.HomeDevice.home_tells c.read_block.new.home)
    (g.H.HomeDevice.home_tells c.write.new.self) (g.H.HomeDevice.home_taken c.args.home.now) (g.H.HomeDevice.home_taken c.read_block.new.home) (g.H.HomeDevice.home_taken c.write.new.self)
    c.requires.own (search rules)
    (c.copy_chunks.ensures ∙ ap (λ set. merged set c.args.content.now c.read_block.new.room) c.chunks_of.ensures) c.in_ok-read_block.ensures.told c.in-Err.ensures.told
