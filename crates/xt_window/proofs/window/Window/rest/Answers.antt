use Rattle.xt_seal.specs.Headers.{head_bytes}
use Rattle.xt_window.proofs.RestLemmas.{rest_known}
use Rattle.xt_window.proofs.window.Window.rest.Goals as goal

pub returns-clause-found : goal.returns-clause-found
returns-clause-found g c =
    rest_known (head_bytes c.args.header.now) c.args.self.now c.fill.new.self (g.R.Read.remaining c.args.reader.now) (g.R.Read.remaining c.fill.new.reader) c.judge_rest.result c.in_ok-fill.ensures.more
    c.in_ok-fill.ensures.held c.judge_rest.ensures.judged
