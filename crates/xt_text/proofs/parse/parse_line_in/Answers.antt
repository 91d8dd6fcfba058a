use Rattle.std.proofs.Common.{Ok, rules}
use Rattle.xt_text.proofs.ParseLemmas.{gives_own}
use Rattle.xt_text.proofs.parse.parse_line_in.Goals as goal
use Rattle.xt_text.specs.LineReading.{parsed}
use Rattle.xt_text.specs.Reading.{Gives}

pub returns-in_err-read_step-clause-only : goal.returns-in_err-read_step-clause-only
returns-in_err-read_step-clause-only c =
    let gives : Gives c.from_residual.result (parsed c.args.line.now) = search rules in
    λ step is e. gives_own _ step c.from_residual.result is e gives

pub returns-clause-only : goal.returns-clause-only
returns-clause-only c =
    let gives : Gives (Ok c.read_step.new.step) (parsed c.args.line.now) = search rules in
    λ step is e. gives_own _ step (Ok c.read_step.new.step) is e gives
