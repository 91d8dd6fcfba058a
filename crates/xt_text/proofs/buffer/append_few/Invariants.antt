use Rattle.std.proofs.Common.{take, ◌≡◌, ◌+◌, ◌++◌}
use Rattle.std.specs.Prelude.{vec_capacity, vec_len}
use Rattle.xt_text.proofs.buffer.append_few.Given as goal

abbrev pub invariant-loop-byte : goal.invariant-loop-byte
invariant-loop-byte l = record {
  items : l.bytes.items ≡ l.fn.bytes.items ++ take l.byte-index l.more;
  room : vec_capacity l.bytes ≡ vec_capacity l.fn.bytes;
  count : vec_len l.bytes ≡ vec_len l.fn.bytes + l.byte-index;
}
