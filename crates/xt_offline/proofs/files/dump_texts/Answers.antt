use Rattle.xt_offline.proofs.FilesLemmas.{files_none}
use Rattle.xt_offline.proofs.PlayLemmas.{on_err}
use Rattle.xt_offline.proofs.files.dump_texts.Goals as goal

pub returns-in_err-piece-clause-begun : goal.returns-in_err-piece-clause-begun
returns-in_err-piece-clause-begun g c = on_err _ _ (files_none c.args.limit (g.R.Read.remaining c.args.first.now) (g.R.Read.remaining c.args.second.now) (g.W.Write.contents c.args.writer.now))

pub returns-in_err-text-clause-begun : goal.returns-in_err-text-clause-begun
returns-in_err-text-clause-begun g c = on_err _ _ (files_none c.args.limit (g.R.Read.remaining c.args.first.now) (g.R.Read.remaining c.args.second.now) (g.W.Write.contents c.args.writer.now))
