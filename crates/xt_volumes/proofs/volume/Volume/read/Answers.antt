use Rattle.std.proofs.Common.{rules, sym, ◌∙◌, ◌≡◌}
use Rattle.std.specs.Prelude.{is_some}
use Rattle.std.specs.String.{string_bytes}
use Rattle.xt_volumes.proofs.VolumeLemmas.{found_spelled, left_out_is, some_is, three_are}
use Rattle.xt_volumes.proofs.volume.Volume.read.Goals as goal

-- a word whose size is no number spells none
pub returns-in_default-size_of-clause-none : goal.returns-in_default-size_of-clause-none
returns-in_default-size_of-clause-none c = λ ok v s.
    let parts = c.in-Some.ensures.parts v s in
    let size = c.size_of.ensures v.size s.in_range.3 parts.5 in
    search (rules, size, c.in_default-size_of.is)

-- and neither does one that is not as its parts are spelled
pub returns-then-not-branch-clause-none : goal.returns-then-not-branch-clause-none
returns-then-not-branch-clause-none c = λ ok v s.
    let parts = c.in-Some.ensures.parts v s in
    let numbers = three_are _ _ _ _ _ _ (sym c.in-Some-numbers.is ∙ c.numbers.ensures v.slot v.log_bytes v.blocks s.in_range.0 s.in_range.1 s.in_range.2 parts.0 parts.1 parts.2) in
    let size = some_is _ _ (sym c.in-Some-size_of.is ∙ c.size_of.ensures v.size s.in_range.3 parts.5) in
    let home : string_bytes c.in_ok-from_str.field-0 ≡ string_bytes v.home = search (rules, parts, c.in_ok-from_str.ensures) in
    let log : string_bytes c.in_ok-from_str-2.field-0 ≡ string_bytes v.log = search (rules, parts, c.in_ok-from_str-2.ensures) in
    let says : is_some c.in-Some.said ≡ c.is_some.result = search (rules, c.is_some.ensures) in
    let is = found_spelled _ v _ _ _ _ c.in_ok-is_spelled.ensures says parts.6 (search (rules, numbers)) (search (rules, numbers)) (search (rules, numbers)) size home log in
    search (rules, is, c.if-not-branch.true)

-- one that is spells a volume
pub returns-clause-spelled : goal.returns-clause-spelled
returns-clause-spelled c = record {
  says_size = c.is_some.result;
  word_is = c.in_ok-is_spelled.ensures.0 (search (rules, c.if-not-branch.false));
  left_out = λ none. left_out_is c.in-Some.said c.size_of.result c.in-Some-size_of.size c.size_of.ensures c.in-Some-size_of.is (search (rules, none, c.is_some.ensures));
  in_range = search rules;
  home = search rules;
  log = search rules;
}
