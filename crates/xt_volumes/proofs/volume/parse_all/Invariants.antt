use Rattle.std.proofs.Common.{◌≡◌, All, vec_len}
use Rattle.xt_volumes.proofs.VolumeLemmas.{SpelledTo}
use Rattle.xt_volumes.specs.Volumes.{IsNamed}
use Rattle.xt_volumes.proofs.volume.parse_all.Given as goal

-- each word so far spells a volume
abbrev pub invariant-loop-word : goal.invariant-loop-word
invariant-loop-word l = record {
  named : All (IsNamed l.words) l.spelled.items;
  spelled : SpelledTo l.words l.word-index;
  count : vec_len l.spelled ≡ l.word-index;
}
