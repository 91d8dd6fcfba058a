use Rattle.xt_offline.proofs.PlayLemmas.{on_err}
use Rattle.xt_offline.proofs.SealedLemmas.{begun_bad, begun_texts, whole_ok, why_bad}
use Rattle.xt_window.specs.Window.{ahead}
use Rattle.xt_offline.proofs.sealed.SealedFile.dump.Goals as goal

pub returns-in_err-print_texts-clause-begun : goal.returns-in_err-print_texts-clause-begun
returns-in_err-print_texts-clause-begun g c = on_err _ _ (begun_texts (ahead c.args.self.now.window (g.R.Read.remaining c.args.reader.now)) c.args.self.now _ _ c.in_err-print_texts.ensures.begun)

pub returns-clause-printed : goal.returns-clause-printed
returns-clause-printed g c =
    whole_ok c.print_end.result (ahead c.args.self.now.window (g.R.Read.remaining c.args.reader.now)) c.args.self.now c.print_texts.new.self (g.R.Read.remaining c.print_texts.new.reader) _ _ _
    c.in_ok-print_texts.ensures.printed c.in_ok-print_texts.ensures.further.0 c.print_end.ensures.printed

pub returns-clause-begun : goal.returns-clause-begun
returns-clause-begun g c =
    begun_bad c.print_end.result (ahead c.args.self.now.window (g.R.Read.remaining c.args.reader.now)) c.args.self.now c.print_texts.new.self (g.R.Read.remaining c.print_texts.new.reader) _ _ _
    c.in_ok-print_texts.ensures.printed c.in_ok-print_texts.ensures.further.0 c.print_end.ensures.begun

pub returns-clause-why : goal.returns-clause-why
returns-clause-why g c =
    why_bad c.print_end.result (ahead c.args.self.now.window (g.R.Read.remaining c.args.reader.now)) c.args.self.now c.print_texts.new.self (g.R.Read.remaining c.print_texts.new.reader) _ _
    c.in_ok-print_texts.ensures.printed c.in_ok-print_texts.ensures.further c.print_end.ensures.why
