use Rattle.std.proofs.Common.{◌≡◌, ◌∙◌, List, ap, ℕ}
use Rattle.std.specs.Hash.DefaultHasher as sip
use Rattle.std.specs.Int.{to_be_bytes, w64}
use Rattle.xt_seal.proofs.SealLemmas.{seal_is}
use Rattle.xt_volumes.proofs.name.seal_of.Goals as goal

pub returns-clause-seal : goal.returns-clause-seal
returns-clause-seal c =
    let bytes : List ℕ = c.args.bytes.now in
    let summed : c.write.new.self ≡ sip.write sip.initial bytes = c.write.ensures ∙ ap (λ x. sip.write x bytes) c.new-hasher.ensures in
    c.to_be_bytes.ensures ∙ ap (λ n. to_be_bytes w64 n) c.finish.ensures ∙ seal_is c.write.new.self bytes summed
