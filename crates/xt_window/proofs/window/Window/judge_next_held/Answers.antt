use Rattle.std.proofs.Common.{refl, rules, sym, true, ◌≡◌}
use Rattle.xt_window.proofs.WindowLemmas.{more_next, nothing_next, text_next}
use Rattle.xt_window.proofs.window.Window.judge_next_held.Goals as goal

pub returns-in-Ok-Nothing-clause-judged : goal.returns-in-Ok-Nothing-clause-judged
returns-in-Ok-Nothing-clause-judged c = λ head before seals. (nothing_next head before _ _ _ _ _ c.in-Ok-Nothing.field-0-is c.held.ensures (c.in-Ok-Nothing.ensures.judged head before seals), refl)

pub returns-in-Ok-More-clause-judged : goal.returns-in-Ok-More-clause-judged
returns-in-Ok-More-clause-judged c = λ head before seals.
    let over : c.args.self.now.is_ended ≡ true = search rules in
    (more_next head before _ _ _ _ _ c.in-Ok-More.field-0-is c.held.ensures over (c.in-Ok-More.ensures.judged head before seals), refl)

pub returns-in-Ok-Text-clause-judged : goal.returns-in-Ok-Text-clause-judged
returns-in-Ok-Text-clause-judged c = λ head before seals. (
  c.in-Ok-Text.len,
  (text_next head before _ _ _ _ _ _ _ c.in-Ok-Text.field-0-is c.held.ensures c.take_sealed-seal.ensures.seal (c.in-Ok-Text.ensures.judged head before seals), c.take_sealed-seal.ensures.taken),
)
