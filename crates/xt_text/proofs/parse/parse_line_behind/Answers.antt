use Rattle.std.proofs.Common.{[], ◌≡◌, ◌∙◌, ap, length, slice_set, sym}
use Rattle.std.proofs.lemmas.List.{set_at}
use Rattle.xt_text.proofs.parse.parse_line_behind.Goals as goal

pub returns-in-Ok-read_step-clause-put : goal.returns-in-Ok-read_step-clause-put
returns-in-Ok-read_step-clause-put c =
    let len : length c.args.steps.now.items ≡ c.len-at.result = sym (c.len-at.ensures ∙ c.args.steps.now.ok.0) in
    record {
      step = c.read_step.new.step;
      read = c.in-Ok-read_step.ensures.value;
      valid = c.in-Ok-read_step.ensures.valid;
      own = c.in-Ok-read_step.ensures.found;
      behind = ap (λ xs. slice_set xs c.len-at.result c.read_step.new.step) c.in-Ok.ensures.items ∙ set_at c.args.steps.now.items c.any_step.result [] c.read_step.new.step c.len-at.result len;
    }
