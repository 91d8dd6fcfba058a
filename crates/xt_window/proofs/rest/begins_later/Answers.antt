use Rattle.std.proofs.Common.{arith, ◌≤◌, length, rules, sym, true≢false}
use Rattle.std.proofs.lemmas.List.{length-drop}
use Rattle.xt_window.proofs.RestLemmas.{later_more, later_nothing, later_text}
use Rattle.xt_window.proofs.rest.begins_later.Goals as goal

pub returns-in-Ok-Text-clause-later : goal.returns-in-Ok-Text-clause-later
returns-in-Ok-Text-clause-later c = λ same.
    let long : 8 ≤ length c.args.input.now = search rules in
    later_text c.args.head.now c.args.input.now c.in-Ok-Text.field-0 c.in-Ok-Text.checkpoint c.in-Ok-Text.field-0-1 c.judge_sealed.new.sealer c.in-Ok-Text.field-0-is long _ (omega (arith, length-drop 8 c.args.input.now)) (c.in-Ok-Text.ensures.judged c.args.head.now _ c.behind-sealer.ensures)

pub returns-in-Ok-Nothing-clause-none : goal.returns-in-Ok-Nothing-clause-none
returns-in-Ok-Nothing-clause-none c = λ same.
    let long : 8 ≤ length c.args.input.now = search rules in
    later_nothing c.args.head.now c.args.input.now c.in-Ok-Nothing.field-0 c.judge_sealed.new.sealer c.in-Ok-Nothing.field-0-is long _ (omega (arith, length-drop 8 c.args.input.now)) (c.in-Ok-Nothing.ensures.judged c.args.head.now _ c.behind-sealer.ensures)

pub returns-in-Ok-More-clause-none : goal.returns-in-Ok-More-clause-none
returns-in-Ok-More-clause-none c = λ same.
    let long : 8 ≤ length c.args.input.now = search rules in
    later_more c.args.head.now c.args.input.now c.in-Ok-More.field-0 c.judge_sealed.new.sealer c.in-Ok-More.field-0-is long _ (omega (arith, length-drop 8 c.args.input.now)) (c.in-Ok-More.ensures.judged c.args.head.now _ c.behind-sealer.ensures)
