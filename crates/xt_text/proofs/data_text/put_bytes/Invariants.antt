use Rattle.std.proofs.Common.{length, ◌≡◌}
use Rattle.xt_text.specs.Buffer.{put}
use Rattle.xt_text.specs.DataText.{after_run, runs, spelling}
use Rattle.xt_text.proofs.data_text.put_bytes.Given as goal

abbrev pub invariant-loop-rest : goal.invariant-loop-rest
invariant-loop-rest l = put l.out (after_run l.last (runs l.rest)) ≡ put l.fn.out (spelling l.bytes)

abbrev pub decreases-loop-rest : goal.decreases-loop-rest
decreases-loop-rest l = length l.rest
