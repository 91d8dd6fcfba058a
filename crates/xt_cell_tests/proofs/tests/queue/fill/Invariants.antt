use Rattle.std.proofs.Common.{◌-◌, ◌≡◌}
use Rattle.xt_queue.specs.Passes.{fresh_posts}
use Rattle.xt_cell_tests.proofs.tests.queue.fill.Given as goal

abbrev pub invariant-loop-low : goal.invariant-loop-low
invariant-loop-low g l = record {
  posts : l.posts.items ≡ fresh_posts l.queue (16 - l.low);
}
