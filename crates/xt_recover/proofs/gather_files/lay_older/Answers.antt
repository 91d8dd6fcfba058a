use Rattle.std.proofs.Common.{[], subst, sym, ◌∙◌}
use Rattle.xt_recover.proofs.FilesLemmas.{older_read, older_unlinked, other_bytes, same_bytes, sealed_older}
use Rattle.xt_recover.proofs.GatherLemmas.{err_then}
use Rattle.xt_recover.specs.FilesGathering.{IsWhySealed}
use Rattle.xt_recover.specs.Overlaid.{overlaid}
use Rattle.xt_recover.proofs.gather_files.lay_older.Goals as goal

pub returns-in_err-texts-clause-why : goal.returns-in_err-texts-clause-why
returns-in_err-texts-clause-why g c =
    err_then c.from_residual.result _ _ c.from_residual.ensures.1
    (λ fault is bytes so.
    sealed_older bytes (overlaid c.args.overlay.now).size c.args.source.now.which c.args.source.now.header c.args.link fault
    (subst (IsWhySealed bytes [] (overlaid c.args.overlay.now).size c.args.source.now.which c.args.source.now.header) (sym is) (c.in_err-texts.ensures.why bytes [] so)))

pub returns-then-ne-clause-why : goal.returns-then-ne-clause-why
returns-then-ne-clause-why g c = λ bytes so.
    older_unlinked bytes c.args.source.now c.lay_sealed.new.source (g.L.Read.remaining c.lay_sealed.new.log) c.in_ok-texts.texts (overlaid c.args.overlay.now) (overlaid c.lay_sealed.new.overlay) c.args.link c.rotten.result
    (c.in_ok-texts.ensures.read bytes [] so) c.in_ok-texts.ensures.which c.rotten.ensures (other_bytes c.lay_sealed.new.source.last c.args.link (sym c.if-ne.true ∙ c.ne.ensures))

pub returns-clause-read : goal.returns-clause-read
returns-clause-read g c = λ bytes so.
    older_read bytes c.args.source.now c.lay_sealed.new.source (g.L.Read.remaining c.lay_sealed.new.log) c.in_ok-texts.texts (overlaid c.args.overlay.now) (overlaid c.lay_sealed.new.overlay) c.args.link
    (c.in_ok-texts.ensures.read bytes [] so) (same_bytes c.lay_sealed.new.source.last c.args.link (sym c.if-ne.false ∙ c.ne.ensures))
