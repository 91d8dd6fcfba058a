use Rattle.xt_offline.proofs.DumpLemmas.{begun_last}
use Rattle.xt_offline.proofs.PlayLemmas.{on_err}
use Rattle.xt_offline.proofs.logdump.dump_to_the_end.Goals as goal

pub returns-in_err-map_err-clause-begun : goal.returns-in_err-map_err-clause-begun
returns-in_err-map_err-clause-begun g c = on_err _ _ (begun_last c.args.limit (g.R.Read.remaining c.args.reader.now) _ _ _ c.in_ok-status.status c.in_ok-status.ensures.printed c.flush.ensures.bytes)
