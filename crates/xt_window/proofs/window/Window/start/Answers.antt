use Rattle.xt_window.proofs.StartLemmas.{is_start}
use Rattle.xt_window.proofs.window.Window.start.Goals as goal

pub returns-clause-found : goal.returns-clause-found
returns-clause-found g c =
    is_start c.args.self.now c.fill.new.self c.judge_start.new.self (g.R.Read.remaining c.args.reader.now) (g.R.Read.remaining c.fill.new.reader) c.judge_start.result c.in_ok-fill.ensures.more
    c.in_ok-fill.ensures.held c.judge_start.ensures
