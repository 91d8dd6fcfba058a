use Rattle.std.proofs.Common.{◌+◌, ◌≡◌}
use Rattle.xt_queue.specs.Passes.{fresh_works}
use Rattle.xt_queue.proofs.jobs.JobQueue.work_passes.Given as goal

abbrev pub invariant-loop-index : goal.invariant-loop-index
invariant-loop-index l = record {
  queue : l.maker.queue ≡ l.self;
  made : l.maker.made ≡ l.index + 16;
  works : l.works.items ≡ fresh_works l.self l.index;
}
