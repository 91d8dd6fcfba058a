use Rattle.std.proofs.Common.{◌≡◌}
use Rattle.xt_queue.specs.Passes.{fresh_posts}
use Rattle.xt_queue.proofs.jobs.JobQueue.post_passes.Given as goal

abbrev pub invariant-loop-slot : goal.invariant-loop-slot
invariant-loop-slot l = record {
  queue : l.maker.queue ≡ l.self;
  made : l.maker.made ≡ l._slot;
  posts : l.posts.items ≡ fresh_posts l.self l._slot;
}
