use Rattle.std.proofs.Common.{◌≡◌, ◌∙◌, List, ap, ℕ}
use Rattle.std.specs.Hash.DefaultHasher as sip
use Rattle.std.specs.Int.{to_be_bytes, w64}
use Rattle.xt_seal.proofs.SealLemmas.{behind_seal, seal_is}
use Rattle.xt_seal.specs.Seal.{seal_of}
use Rattle.xt_seal.proofs.sealer.Sealer.new.Goals as goal

pub returns-clause-seals : goal.returns-clause-seals
returns-clause-seals c =
    let head : List ℕ = c.args.head.now in
    let first : c.write.new.self ≡ sip.write sip.initial head = c.write.ensures ∙ ap (λ x. sip.write x head) c.new-hasher.ensures in
    let seal : c.to_be_bytes-seal.result ≡ seal_of head = c.to_be_bytes-seal.ensures ∙ ap (λ n. to_be_bytes w64 n) c.finish.ensures ∙ seal_is c.write.new.self head first in
    (first, c.write-2.ensures ∙ ap (sip.write c.write.new.self) seal ∙ behind_seal c.write.new.self head (seal_of head) first)

pub returns-clause-seal : goal.returns-clause-seal
returns-clause-seal c =
    let head : List ℕ = c.args.head.now in
    let first : c.write.new.self ≡ sip.write sip.initial head = c.write.ensures ∙ ap (λ x. sip.write x head) c.new-hasher.ensures in
    c.to_be_bytes-seal.ensures ∙ ap (λ n. to_be_bytes w64 n) c.finish.ensures ∙ seal_is c.write.new.self head first
