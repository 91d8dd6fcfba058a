use Rattle.xt_recover.proofs.FilesLemmas.{bare_known, fault_then, ok_then}
use Rattle.xt_recover.specs.Gathering.{IsGathered, IsWhyLog}
use Rattle.xt_recover.specs.Overlaid.{overlaid}
use Rattle.xt_recover.proofs.gather_files.gather_bare.Goals as goal

pub returns-clause-gathered : goal.returns-clause-gathered
returns-clause-gathered g c =
    ok_then c.gather_by_pieces.result _ _ c.gather_by_pieces.ensures.gathered
    (λ counts is bytes past. bare_known bytes c.args.window (g.L.Read.remaining c.args.log.now) (λ xs. IsGathered xs counts (overlaid c.gather_by_pieces.new.overlay)) past is)

pub returns-clause-why : goal.returns-clause-why
returns-clause-why g c =
    fault_then c.gather_by_pieces.result _ _ c.gather_by_pieces.ensures.why
    (λ fault is bytes past. bare_known bytes c.args.window (g.L.Read.remaining c.args.log.now) (λ xs. IsWhyLog xs fault) past is)
