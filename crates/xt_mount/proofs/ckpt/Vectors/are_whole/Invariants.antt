use Rattle.std.proofs.Common.{All, take}
use Rattle.xt_ckpt.specs.Entries.{IsWhole}
use Rattle.xt_mount.specs.Texts.{entries_of}
use Rattle.xt_mount.proofs.ckpt.Vectors.are_whole.Given as goal

abbrev pub invariant-loop-v : goal.invariant-loop-v
invariant-loop-v l = All IsWhole (entries_of (take l.v-index l.v-items))
