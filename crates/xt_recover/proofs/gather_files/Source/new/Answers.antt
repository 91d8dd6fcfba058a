use Rattle.std.proofs.Common.{arith, length, rules, ◌≡◌, ◌∙◌}
use Rattle.std.proofs.lemmas.List.{length-drop}
use Rattle.xt_recover.proofs.FilesLemmas.{begun_source, seal_behind_head}
use Rattle.xt_seal.specs.Headers.{head_bytes}
use Rattle.xt_seal.specs.Seal.{seal_of}
use Rattle.xt_recover.proofs.gather_files.Source.new.Goals as goal

pub returns-clause-begun : goal.returns-clause-begun
returns-clause-begun c = λ bytes left begun past.
    let long : length c.begin.result.0 ≡ 64 = search rules in
    let last : c.copy_from_slice.new.self ≡ seal_of (head_bytes c.args.begun.header) =
    c.copy_from_slice.ensures.after ∙ seal_behind_head c.begin.result.0 c.args.begun.header 8 long (omega (arith, long, length-drop 56 c.begin.result.0)) c.begin.ensures.bytes in
    begun_source bytes left c.args.which c.args.window c.args.begun c.copy_from_slice.new.self begun past last
