use Rattle.std.proofs.Common.{[], drop, length, ◌≡◌, ◌≤◌}
use Rattle.xt_text.specs.DataReading.{reads}
use Rattle.xt_text.specs.declared.data_text.Place.TheVariants.{Front}
use Rattle.xt_text.proofs.data_text.read_parts.Given as goal

abbrev pub invariant-loop-c : goal.invariant-loop-c
invariant-loop-c l = record {
  rest : reads l.bytes.items l.place (drop l.c-index l.rest) ≡ reads [] Front l.fn.text;
  short : length l.bytes.items ≤ 4096;
}
