use Rattle.std.proofs.Common.{length, ◌≡◌, ◌≤◌}
use Rattle.xt_text.specs.DataReading.{reads}
use Rattle.xt_text.specs.declared.data_text.Place.TheVariants.{Front}
use Rattle.xt_text.proofs.data_text.read_plain.Given as goal

abbrev pub invariant-loop-byte : goal.invariant-loop-byte
invariant-loop-byte l = record {
  rest : reads l.bytes.items Front l.rest ≡ reads l.fn.bytes.items Front l.text;
  short : length l.bytes.items ≤ 4096;
}

abbrev pub decreases-loop-byte : goal.decreases-loop-byte
decreases-loop-byte l = length l.rest
