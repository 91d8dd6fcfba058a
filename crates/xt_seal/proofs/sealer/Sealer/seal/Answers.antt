use Rattle.std.proofs.Common.{◌≡◌, ◌∙◌, ◌++◌, ap}
use Rattle.std.specs.Hash.DefaultHasher as sip
use Rattle.std.specs.Int.{to_be_bytes, w64}
use Rattle.xt_seal.proofs.SealLemmas.{behind_seal, seal_is, seals_as}
use Rattle.xt_seal.specs.Seal.{text_seal}
use Rattle.xt_seal.proofs.sealer.Sealer.seal.Goals as goal

pub returns-clause-seal : goal.returns-clause-seal
returns-clause-seal c = λ head before text seals.
    let old = seals_as _ _ head before text c.self.view_is seals in
    c.to_be_bytes-seal.ensures ∙ ap (λ n. to_be_bytes w64 n) c.finish.ensures ∙ seal_is c.self.inside.text (head ++ before ++ text) old.1

pub returns-clause-next : goal.returns-clause-next
returns-clause-next c = λ head before text seals.
    let old = seals_as _ _ head before text c.self.view_is seals in
    let seal : c.to_be_bytes-seal.result ≡ text_seal head before text = c.to_be_bytes-seal.ensures ∙ ap (λ n. to_be_bytes w64 n) c.finish.ensures ∙ seal_is c.self.inside.text (head ++ before ++ text) old.1 in
    (old.0, c.write.ensures ∙ ap (sip.write c.self.inside.head) seal ∙ behind_seal c.self.inside.head head (text_seal head before text) old.0)
