use Rattle.xt_recover.proofs.WholeLemmas.{whole_first}
use Rattle.xt_recover.proofs.WriteLemmas.{on_err, so_end, so_next, stopped_behind, stopped_sync}
use Rattle.xt_recover.specs.Overlaid.{overlaid}
use Rattle.xt_recover.specs.Sizes.{block_size}
use Rattle.xt_recover.proofs.overlay.Overlay.write_over.Goals as goal

pub write_block-requires-clause-own : goal.write_block-requires-clause-own
write_block-requires-clause-own g c =
    whole_first (block_size c.args.self.now.size) (c.in-Some.block.now, c.in-Some.content.now) c.args.self.now.contents.entries c.loop-block.invariant.done c.loop-block.block-iterator c.next.new.self c.args.self.now.whole
    c.loop-block.invariant.parts c.in-Some.ensures.steps

pub loop-block-preserved : goal.loop-block-preserved
loop-block-preserved g c =
    so_next (overlaid c.args.self.now) c.loop-block.block-iterator (c.in-Some.block.now, c.in-Some.content.now) c.next.new.self (g.H.HomeDevice.home_tells c.args.home.now) (g.H.HomeDevice.home_tells c.loop-block.home)
    (g.H.HomeDevice.home_tells c.write_block.new.home) (g.H.HomeDevice.home_taken c.args.home.now) (g.H.HomeDevice.home_taken c.loop-block.home) (g.H.HomeDevice.home_taken c.write_block.new.home) c.in-Some.ensures.steps c.loop-block.invariant c.in_ok-write_block.ensures.written

pub returns-in-Ok-clause-written : goal.returns-in-Ok-clause-written
returns-in-Ok-clause-written g c =
    so_end (overlaid c.args.self.now) c.loop-block.block-iterator (g.H.HomeDevice.home_tells c.args.home.now) (g.H.HomeDevice.home_tells c.loop-block.home) (g.H.HomeDevice.home_tells c.sync.new.self)
    (g.H.HomeDevice.home_taken c.args.home.now) (g.H.HomeDevice.home_taken c.loop-block.home) (g.H.HomeDevice.home_taken c.sync.new.self) (c.in-None.ensures.steps).0 c.loop-block.invariant c.in-Ok.ensures.told

pub returns-in_err-write_block-clause-stopped : goal.returns-in_err-write_block-clause-stopped
returns-in_err-write_block-clause-stopped g c =
    on_err _ _ (stopped_behind (overlaid c.args.self.now) c.loop-block.block-iterator (g.H.HomeDevice.home_tells c.args.home.now) (g.H.HomeDevice.home_tells c.loop-block.home) (g.H.HomeDevice.home_tells c.write_block.new.home)
    (g.H.HomeDevice.home_taken c.args.home.now) (g.H.HomeDevice.home_taken c.loop-block.home) (g.H.HomeDevice.home_taken c.write_block.new.home) c.loop-block.invariant c.in_err-write_block.ensures.stopped)

pub returns-in-Err-clause-stopped : goal.returns-in-Err-clause-stopped
returns-in-Err-clause-stopped g c =
    stopped_sync (overlaid c.args.self.now) c.loop-block.block-iterator (g.H.HomeDevice.home_tells c.args.home.now) (g.H.HomeDevice.home_tells c.loop-block.home) (g.H.HomeDevice.home_tells c.sync.new.self)
    (g.H.HomeDevice.home_taken c.args.home.now) (g.H.HomeDevice.home_taken c.loop-block.home) (g.H.HomeDevice.home_taken c.sync.new.self) c.loop-block.invariant c.in-Err.ensures.told
