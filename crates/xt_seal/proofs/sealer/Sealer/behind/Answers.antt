use Rattle.std.proofs.Common.{◌≡◌, ◌∙◌, List, ap, ℕ}
use Rattle.std.specs.Hash.DefaultHasher as sip
use Rattle.xt_seal.proofs.SealLemmas.{behind_seal}
use Rattle.xt_seal.proofs.sealer.Sealer.behind.Goals as goal

pub returns : goal.returns
returns c =
    let first : c.write.new.self ≡ sip.write sip.initial c.args.head.now = c.write.ensures ∙ ap (λ x. sip.write x c.args.head.now) c.new-hasher.ensures in
    (first, c.write-2.ensures ∙ behind_seal c.write.new.self c.args.head.now c.args.seal.now first)
