use Rattle.std.proofs.Common.{arith, ◌≡◌, ◌≤◌, ap, drop, length, rules, sym, take}
use Rattle.std.proofs.lemmas.List.{length-take-le}
use Rattle.xt_seal.specs.Headers.{head_bytes}
use Rattle.xt_window.proofs.RestLemmas.{head_of, later_as}
use Rattle.xt_window.proofs.window.Window.judge_rest.Goals as goal

pub slice_bounds-head-end : goal.slice_bounds-head-end
slice_bounds-head-end c =
    let long : length c.begin.result.0 ≡ 64 = search rules in
    sym (length-take-le 56 c.begin.result.0 (omega (arith, long)))

pub returns-in-Ok-true-clause-judged : goal.returns-in-Ok-true-clause-judged
returns-in-Ok-true-clause-judged c =
    let long : length c.begin.result.0 ≡ 64 = search rules in
    later_as (take 56 c.begin.result.0) (head_bytes c.args.header.now) c.held-held.result.now c.args.self.now.bytes (head_of c.args.header.now c.begin.result.0 long c.begin.ensures.bytes) c.held-held.ensures
    (c.in-Ok-true.ensures.later c.in-Ok-true.field-0-test)

pub returns-in-Ok-false-clause-judged : goal.returns-in-Ok-false-clause-judged
returns-in-Ok-false-clause-judged c =
    let long : length c.begin.result.0 ≡ 64 = search rules in
    let few : length c.args.self.now.bytes ≤ 263212 = search rules in
    let head : take 56 c.begin.result.0 ≡ head_bytes c.args.header.now = head_of c.args.header.now c.begin.result.0 long c.begin.ensures.bytes in (
      ap (λ xs. length xs) c.held-held.ensures,
      few,
      λ has. c.in-Ok-false.ensures.none c.in-Ok-false.field-0-test (later_as (head_bytes c.args.header.now) (take 56 c.begin.result.0) c.args.self.now.bytes c.held-held.result.now (sym head) (sym c.held-held.ensures) has),
    )
