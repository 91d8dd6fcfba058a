use Rattle.std.proofs.Common.{length, ◌≡◌}
use Rattle.xt_text.specs.LineReading.{before, behind}
use Rattle.xt_text.specs.Reading.{number_with}
use Rattle.xt_text.proofs.numbers.digits_before.Given as goal

abbrev pub invariant-loop-digit : goal.invariant-loop-digit
invariant-loop-digit l = record {
  number : number_with l.number (before l.separator l.rest) ≡ number_with 0 (before l.separator l.text);
  rest : behind l.separator l.rest ≡ behind l.separator l.text;
}

abbrev pub decreases-loop-digit : goal.decreases-loop-digit
decreases-loop-digit l = length l.rest
