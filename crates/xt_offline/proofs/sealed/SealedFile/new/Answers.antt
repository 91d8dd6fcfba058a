use Rattle.std.proofs.Common.{[], length, rules, subst, sym, ◌≡◌}
use Rattle.xt_offline.proofs.SealedLemmas.{seal_behind}
use Rattle.xt_seal.specs.Headers.{head_bytes}
use Rattle.xt_seal.specs.Seal.{Seals, seal_of}
use Rattle.xt_offline.proofs.sealed.SealedFile.new.Goals as goal

pub returns-clause-chained : goal.returns-clause-chained
returns-clause-chained c =
    let long : length c.begin-sealer.result.0 ≡ 64 = search rules in
    let last : c.copy_from_slice.new.self ≡ seal_of (head_bytes c.args.header) = seal_behind c.args.header c.begin-sealer.result.0 c.copy_from_slice.new.self c.begin-sealer.ensures.bytes long c.copy_from_slice.ensures.after in
    subst (λ l. Seals c.begin-sealer.result.1 (head_bytes c.args.header) l []) (sym last) c.begin-sealer.ensures.seals

pub returns-clause-unprinted : goal.returns-clause-unprinted
returns-clause-unprinted c =
    let long : length c.begin-sealer.result.0 ≡ 64 = search rules in
    λ front. (seal_behind c.args.header c.begin-sealer.result.0 c.copy_from_slice.new.self c.begin-sealer.ensures.bytes long c.copy_from_slice.ensures.after, front)
