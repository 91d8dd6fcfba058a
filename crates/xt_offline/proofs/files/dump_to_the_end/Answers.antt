use Rattle.xt_offline.proofs.FilesLemmas.{files_last}
use Rattle.xt_offline.proofs.PlayLemmas.{on_err}
use Rattle.xt_offline.proofs.files.dump_to_the_end.Goals as goal

pub returns-in_err-map_err-clause-begun : goal.returns-in_err-map_err-clause-begun
returns-in_err-map_err-clause-begun g c =
    on_err _ _ (files_last c.args.limit (g.R.Read.remaining c.args.first.now) (g.R.Read.remaining c.args.second.now) _ _ _ c.in_ok-dumped.dumped c.in_ok-dumped.ensures.printed c.flush.ensures.bytes)
