use Rattle.xt_offline.proofs.FilesLemmas.{bad_map, both_known, err_map, files_none, ok_map}
use Rattle.xt_offline.proofs.PlayLemmas.{on_err}
use Rattle.xt_offline.proofs.files.dump_by_pieces.Goals as goal

pub returns-in_err-one-clause-begun : goal.returns-in_err-one-clause-begun
returns-in_err-one-clause-begun g c = on_err _ _ (files_none c.args.limit (g.R.Read.remaining c.args.first.now) (g.R.Read.remaining c.args.second.now) (g.W.Write.contents c.args.writer.now))

pub returns-in_err-other-clause-begun : goal.returns-in_err-other-clause-begun
returns-in_err-other-clause-begun g c = on_err _ _ (files_none c.args.limit (g.R.Read.remaining c.args.first.now) (g.R.Read.remaining c.args.second.now) (g.W.Write.contents c.args.writer.now))

pub returns-clause-printed : goal.returns-clause-printed
returns-clause-printed g c =
    ok_map c.dump_opened.result _ _ (λ ended is. both_known (g.R.Read.remaining c.args.first.now) (g.R.Read.remaining c.args.second.now) _ _ _ (λ a b s t. is c.args.limit a b s t c.in_ok-one.ensures.limit c.in_ok-other.ensures.limit)
    c.in_ok-one.ensures.opened c.in_ok-other.ensures.opened) c.dump_opened.ensures.printed

pub returns-clause-begun : goal.returns-clause-begun
returns-clause-begun g c =
    bad_map c.dump_opened.result _ _ (λ is. both_known (g.R.Read.remaining c.args.first.now) (g.R.Read.remaining c.args.second.now) _ _ _ (λ a b s t. is c.args.limit a b s t c.in_ok-one.ensures.limit c.in_ok-other.ensures.limit)
    c.in_ok-one.ensures.opened c.in_ok-other.ensures.opened) c.dump_opened.ensures.begun

pub returns-clause-why : goal.returns-clause-why
returns-clause-why g c =
    err_map c.dump_opened.result _ _ (λ fault is. both_known (g.R.Read.remaining c.args.first.now) (g.R.Read.remaining c.args.second.now) _ _ _ (λ a b s t. is c.args.limit a b s t c.in_ok-one.ensures.limit c.in_ok-other.ensures.limit)
    c.in_ok-one.ensures.opened c.in_ok-other.ensures.opened) c.dump_opened.ensures.why
