use Rattle.std.proofs.Common.{◌∙◌, ◌++◌, ap, refl}
use Rattle.xt_seal.proofs.HeaderLemmas.{put_last}
use Rattle.xt_seal.specs.Headers.{head_bytes}
use Rattle.xt_seal.specs.Seal.{seal_of}
use Rattle.xt_seal.proofs.header.Header.begin.Goals as goal

pub returns-clause-bytes : goal.returns-clause-bytes
returns-clause-bytes c =
    put_last 56 8 _ _ _ c.copy_from_slice.ensures.len refl ∙ ap (λ t. t ++ c.copy_from_slice-2.new.self) (c.copy_from_slice.ensures.after ∙ c.head-head.ensures)
    ∙ ap (λ t. head_bytes c.args.self.now ++ t) (c.copy_from_slice-2.ensures.after ∙ c.new-sealer.ensures.seal ∙ ap seal_of c.head-head.ensures)
