use Rattle.std.proofs.Common.{subst, sym}
use Rattle.std.specs.Prelude.{IfSome}
use Rattle.xt_recover.proofs.FilesLemmas.{newer_read, newer_rotten, sealed_newer}
use Rattle.xt_recover.proofs.GatherLemmas.{err_then}
use Rattle.xt_recover.specs.FilesGathering.{IsWhyNotTorn, IsWhySealed}
use Rattle.xt_recover.specs.Overlaid.{overlaid}
use Rattle.xt_recover.specs.declared.gather.LogFault.{LogFault}
use Rattle.xt_seal.specs.Headers.{head_bytes}
use Rattle.xt_window.specs.Window.{ahead}
use Rattle.xt_recover.proofs.gather_files.lay_newer.Goals as goal

pub returns-in_err-texts-clause-why : goal.returns-in_err-texts-clause-why
returns-in_err-texts-clause-why g c =
    err_then c.from_residual.result _ _ c.from_residual.ensures.1
    (λ fault is bytes front so.
    sealed_newer bytes front (overlaid c.args.overlay.now).size c.args.source.now.which c.args.source.now.header fault
    (subst (IsWhySealed bytes front (overlaid c.args.overlay.now).size c.args.source.now.which c.args.source.now.header) (sym is) (c.in_err-texts.ensures.why bytes front so)))

pub returns-in_err-rest-clause-why : goal.returns-in_err-rest-clause-why
returns-in_err-rest-clause-why g c =
    err_then c.from_residual-in_err-rest.result _ _ c.from_residual-in_err-rest.ensures.1
    (λ fault is bytes front so.
    newer_rotten bytes front c.args.source.now c.lay_sealed.new.source (g.L.Read.remaining c.lay_sealed.new.log) c.args.before c.in_ok-texts.texts (overlaid c.args.overlay.now) (overlaid c.lay_sealed.new.overlay) fault
    (c.in_ok-texts.ensures.read bytes front so) c.in_ok-texts.ensures.which
    (subst
    (λ f. IfSome (ahead c.lay_sealed.new.source.window (g.L.Read.remaining c.lay_sealed.new.log)) (λ rest. IsWhyNotTorn (head_bytes c.lay_sealed.new.source.header) rest (LogFault.Rotten c.lay_sealed.new.source.which c.lay_sealed.new.source.window.offset) f))
    (sym is) c.in_err-rest.ensures.why))

pub returns-clause-read : goal.returns-clause-read
returns-clause-read g c = λ bytes front so.
    newer_read bytes front c.args.source.now c.lay_sealed.new.source (g.L.Read.remaining c.lay_sealed.new.log) c.args.before c.in_ok-texts.texts c.in_ok-rest.rest (overlaid c.args.overlay.now) (overlaid c.lay_sealed.new.overlay)
    (c.in_ok-texts.ensures.read bytes front so) c.in_ok-rest.ensures.torn
