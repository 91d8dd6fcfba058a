use Rattle.std.proofs.Common.{drop, ◌++◌, ◌≡◌}
use Rattle.xt_text.specs.HomeReading.{named}
use Rattle.xt_text.proofs.home_answers.named.Given as goal

abbrev pub invariant-loop-letter : goal.invariant-loop-letter
invariant-loop-letter l = l.oks.items ++ named (drop l.letter-index l.words) ≡ named l.words
