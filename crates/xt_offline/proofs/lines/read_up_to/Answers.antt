use Rattle.std.proofs.Common.{ap}
use Rattle.xt_offline.proofs.ScriptLemmas.{read_limited}
use Rattle.xt_offline.proofs.lines.read_up_to.Goals as goal

-- src/lines.rt:18:1
pub returns : goal.returns
returns g c = read_limited (g.R.Read.remaining c.args.reader.now) (g.R.Read.remaining c.take.result.inner.now) c.take.result.limit c.new-got.result.items c.read_to_end.new.buf.items
    (ap (λ r. g.R.Read.remaining r.now) c.take.ensures.inner) c.take.ensures.limit c.new-got.ensures.items c.in_ok-read_to_end.ensures.bytes
