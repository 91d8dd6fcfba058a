use Rattle.std.proofs.Common.{◌∙◌}
use Rattle.xt_seal.proofs.HeaderLemmas.{block_size_is, generation_is, header_is, link_is, log_bytes_is, name_is, salt_is}
use Rattle.xt_seal.proofs.header.Header.with_fields.Goals as goal

pub returns : goal.returns
returns c = λ h rest fits is.
    header_is _ _ _ _ _ _ h (c.u32_at.ensures ∙ block_size_is h _ rest fits is) (c.u32_at-2.ensures ∙ log_bytes_is h _ rest fits is) (c.u64_at.ensures ∙ generation_is h _ rest fits is)
    (c.u64_at-2.ensures ∙ salt_is h _ rest fits is) (c.copy_from_slice.ensures.after ∙ link_is h _ rest fits is) (c.copy_from_slice-2.ensures.after ∙ name_is h _ rest fits is)
