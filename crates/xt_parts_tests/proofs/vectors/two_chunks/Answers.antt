use Rattle.std.proofs.Common.{◌∙◌, ap, length, subst, sym}
use Rattle.xt_base.specs.Sized.{IsWithin}
use Rattle.xt_parts_tests.proofs.vectors.two_chunks.Goals as goal
use Rattle.xt_vectors.proofs.VectorLemmas.{all_within}

pub filled-requires : goal.filled-requires
filled-requires c =
    subst (IsWithin (length c.in-Some.content)) (sym c.union-chunks.ensures) (all_within c.mark.result c.mark-2.result c.in-Some.content (sym (ap length c.bytes.ensures.value) ∙ c.if-bytes-eq-BLOCK_BYTES.true))
