use Rattle.std.proofs.Common.{◌∙◌, ap, sym}
use Rattle.std.specs.Prelude.{◌==◌}
use Rattle.std.proofs.lemmas.Nat.Bits.{shr_and_one}
use Rattle.xt_base.specs.Maps.{has}
use Rattle.xt_base.proofs.ChunkLemmas.{has-places_of}
use Rattle.xt_base.proofs.chunks.Chunks.has.Goals as goal

pub returns : goal.returns
returns c =
    ap (λ n. n == 1) (shr_and_one c.self.inside.bits c.args.k) ∙ sym (has-places_of c.self.inside.bits c.args.k c.requires) ∙ ap (λ s. has s c.args.k) c.self.view_is
