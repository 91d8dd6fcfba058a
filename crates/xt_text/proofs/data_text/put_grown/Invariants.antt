use Rattle.std.proofs.Common.{length, ◌+◌, ◌≡◌, ◌≤◌}
use Rattle.xt_text.specs.Buffer.{put}
use Rattle.xt_text.specs.DataText.{after_run, grown, runs, runs_text}
use Rattle.xt_text.proofs.data_text.put_grown.Given as goal

abbrev pub invariant-loop-rest : goal.invariant-loop-rest
invariant-loop-rest l = record {
  text : put l.out (after_run l.last (grown l.left.place l.left.more (runs l.rest))) ≡ put l.fn.out (runs_text (grown l.fn.growth.place l.fn.growth.more (runs l.bytes)));
  few : length l.rest + l.left.more ≤ 4096;
}

abbrev pub decreases-loop-rest : goal.decreases-loop-rest
decreases-loop-rest l = length l.rest
