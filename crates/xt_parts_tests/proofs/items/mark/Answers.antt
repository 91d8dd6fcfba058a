use Rattle.std.proofs.Common.{◌∙◌, [], ap, length, sym, unwrap_or}
use Rattle.xt_base.specs.Maps.{at}
use Rattle.xt_parts_tests.proofs.items.mark.Goals as goal
use Rattle.xt_vectors.proofs.VectorLemmas.{all_within}

pub mark-requires-2-clause-within : goal.mark-requires-2-clause-within
mark-requires-2-clause-within c =
    all_within (unwrap_or (at c.args.block c.args.items.now.cil) []) c.mark.result c.in-Ok-Ok.content (sym (ap length c.bytes.ensures.value) ∙ c.if-bytes-ne-BLOCK_BYTES.false)
