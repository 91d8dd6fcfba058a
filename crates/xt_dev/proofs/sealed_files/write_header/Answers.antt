use Rattle.std.proofs.Common.{length, rules, ◌≡◌, ◌∙◌}
use Rattle.xt_dev.proofs.Sealed.{header_end}
use Rattle.xt_seal.specs.Headers.{head_bytes}
use Rattle.xt_dev.proofs.sealed_files.write_header.Goals as goal

pub returns-clause-seal : goal.returns-clause-seal
returns-clause-seal g c =
    let long : length c.begin-sealer.result.0 ≡ 64 = search rules in
    c.copy_from_slice.ensures.after ∙ header_end (head_bytes c.args.header.now) c.begin-sealer.result.0 long c.begin-sealer.ensures.bytes
