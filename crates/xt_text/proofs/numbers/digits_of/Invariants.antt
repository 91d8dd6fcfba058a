use Rattle.std.proofs.Common.{drop, ◌≡◌}
use Rattle.xt_text.specs.Reading.{number_with}
use Rattle.xt_text.proofs.numbers.digits_of.Given as goal

abbrev pub invariant-loop-digit : goal.invariant-loop-digit
invariant-loop-digit l = number_with l.number (drop l.digit-index l.word) ≡ number_with 0 l.word
