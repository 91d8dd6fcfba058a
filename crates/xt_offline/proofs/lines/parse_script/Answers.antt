use Rattle.std.proofs.Common.{Err, length, true≢false, ◌+◌, ◌∙◌, ap, subst, sym}
use Rattle.std.specs.Prelude.{◌==◌}
use Rattle.xt_offline.specs.Script.{IsBadScript}
use Rattle.xt_offline.proofs.ScriptLemmas.{bad_here, bad_line, parsed_behind}
use Rattle.xt_offline.proofs.lines.parse_script.Goals as goal

pub returns-in-Err-Spelling-clause-bad : goal.returns-in-Err-Spelling-clause-bad
returns-in-Err-Spelling-clause-bad c = subst (λ n. IsBadScript c.args.script.now (n + 1)) (sym (c.len-number.ensures ∙ c.loop-rest.steps.ok.0))
    (bad_here c.args.script.now c.loop-rest.steps.items c.loop-rest.rest.now c.first_line.result.0.now c.first_line.result.1.now c.loop-rest.invariant c.first_line.ensures.cut
    (λ none. true≢false (sym (c.is_empty.ensures ∙ ap (λ r. length r == 0) none) ∙ c.loop-rest-test.true))
    c.first_line.ensures.line
    (bad_line c.first_line.result.0.now (c.in-Err-Spelling.ensures.bad (ap Err c.in-Err-Spelling.field-0-is))))

pub loop-rest-preserved : goal.loop-rest-preserved
loop-rest-preserved c =
    parsed_behind c.args.script.now c.loop-rest.steps.items c.parse_line_behind.new.steps.items c.loop-rest.rest.now c.first_line.result.0.now c.first_line.result.1.now c.loop-rest.invariant c.first_line.ensures.cut
    (λ none. true≢false (sym (c.is_empty.ensures ∙ ap (λ r. length r == 0) none) ∙ c.loop-rest-test.true))
    c.in-Ok.ensures.put
