use Rattle.std.proofs.Common.{◌∙◌}
use Rattle.xt_seal.proofs.SealLemmas.{noted, seals_as}
use Rattle.xt_seal.proofs.sealer.Sealer.note.Goals as goal

pub returns : goal.returns
returns c = λ head before text seals.
    let old = seals_as _ _ head before text c.self.view_is seals in
    (old.0, c.write.ensures ∙ noted c.self.inside.text head before text c.args.piece.now old.1)
