use Rattle.std.proofs.Common.{drop, ◌≡◌}
use Rattle.std.specs.List.{flat_map}
use Rattle.xt_text.specs.Buffer.{put}
use Rattle.xt_text.specs.DataText.{hex}
use Rattle.xt_text.specs.Items.{word_text}
use Rattle.xt_text.proofs.print_ckpt.put_word.Given as goal

abbrev pub invariant-loop-byte : goal.invariant-loop-byte
invariant-loop-byte l = put l.out (flat_map hex (drop l.byte-index l.byte-items)) ≡ put l.fn.out (word_text l.word)
