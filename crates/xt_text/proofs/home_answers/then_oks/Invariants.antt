use Rattle.std.proofs.Common.{drop, ◌≡◌}
use Rattle.xt_text.specs.Buffer.{put}
use Rattle.xt_text.specs.Lines.{oks_text}
use Rattle.xt_text.proofs.home_answers.then_oks.Given as goal

abbrev pub invariant-loop-ok : goal.invariant-loop-ok
invariant-loop-ok l = put l.out (oks_text (drop l.ok-index l.oks)) ≡ put l.fn.out (oks_text l.oks)
