use Rattle.std.proofs.Common.{[], ap, refl, subst}
use Rattle.xt_recover.proofs.FilesLemmas.{alone_gathered, fault_then, nothing_yet, ok_then, so_far_begun}
use Rattle.xt_recover.specs.FilesGathering.{IsWhyNewer}
use Rattle.xt_recover.specs.Overlaid.{Overlaid, overlaid}
use Rattle.xt_recover.proofs.gather_files.gather_alone.Goals as goal

pub returns-clause-gathered : goal.returns-clause-gathered
returns-clause-gathered g c =
    ok_then c.lay_newer.result _ _ c.lay_newer.ensures.read
    (λ counts read bytes begun.
    alone_gathered bytes c.args.source.header (overlaid c.args.overlay.now) (overlaid c.lay_newer.new.overlay) counts
    (read bytes [] (so_far_begun bytes [] c.args.source (g.L.Read.remaining c.args.log.now) 0 (overlaid c.args.overlay.now) begun refl (nothing_yet (overlaid c.args.overlay.now) c.requires.none))))

pub returns-clause-why : goal.returns-clause-why
returns-clause-why g c =
    fault_then c.lay_newer.result _ _ c.lay_newer.ensures.why
    (λ fault why bytes begun.
    subst (λ size. IsWhyNewer bytes [] size c.args.source.which c.args.source.header fault) (ap (λ (o : Overlaid). o.size) c.requires.none)
    (why bytes [] (so_far_begun bytes [] c.args.source (g.L.Read.remaining c.args.log.now) 0 (overlaid c.args.overlay.now) begun refl (nothing_yet (overlaid c.args.overlay.now) c.requires.none))))
