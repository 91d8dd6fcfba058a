use Rattle.std.proofs.Common.{Some, subst, ◌∙◌}
use Rattle.xt_window.proofs.WindowLemmas.{is_ahead, is_of_grammar, same_limit}
use Rattle.xt_window.specs.Window.{IsNext}
use Rattle.xt_window.proofs.window.Window.next.Goals as goal

pub returns-in-Some-clause-grammar : goal.returns-in-Some-clause-grammar
returns-in-Some-clause-grammar g c =
    let next : IsNext c.loop.self (Some c.in-Some.found) c.judge.new.self = subst (λ o. IsNext c.loop.self o c.judge.new.self) c.in-Some.is c.in_ok-found.ensures.judged in
    is_of_grammar c.loop.self c.judge.new.self c.in-Some.found next

pub returns-in-Some-clause-found : goal.returns-in-Some-clause-found
returns-in-Some-clause-found g c =
    let next : IsNext c.loop.self (Some c.in-Some.found) c.judge.new.self = subst (λ o. IsNext c.loop.self o c.judge.new.self) c.in-Some.is c.in_ok-found.ensures.judged in
    is_ahead c.args.self.now c.loop.self c.judge.new.self (g.R.Read.remaining c.args.reader.now) (g.R.Read.remaining c.loop.reader) c.in-Some.found c.loop.invariant c.judge.ensures.bound next

pub returns-in-Some-clause-limit : goal.returns-in-Some-clause-limit
returns-in-Some-clause-limit g c =
    let next : IsNext c.loop.self (Some c.in-Some.found) c.judge.new.self = subst (λ o. IsNext c.loop.self o c.judge.new.self) c.in-Some.is c.in_ok-found.ensures.judged in
    same_limit c.loop.self c.judge.new.self c.in-Some.found next ∙ c.loop.invariant.limit
