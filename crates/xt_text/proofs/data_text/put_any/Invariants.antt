use Rattle.std.proofs.Common.{replicate, ◌≡◌}
use Rattle.std.specs.List.{flat_map}
use Rattle.xt_text.specs.Buffer.{put}
use Rattle.xt_text.specs.DataText.{hex}
use Rattle.xt_text.proofs.data_text.put_any.Given as goal

abbrev pub invariant-loop : goal.invariant-loop
invariant-loop l = l.out ≡ put l.fn.out (flat_map hex (replicate l.counter l.run.byte))
