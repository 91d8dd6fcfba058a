use Rattle.std.proofs.Common.{rules, subst, sym, ◌+◌, ◌≡◌}
use Rattle.xt_recover.proofs.FilesLemmas.{IsLayingOn, laying_end, laying_first, laying_more, laying_other, text_taken}
use Rattle.xt_recover.proofs.GatherLemmas.{err_then}
use Rattle.xt_recover.specs.FilesGathering.{IsWhyNotBehind}
use Rattle.xt_recover.specs.Overlaid.{overlaid}
use Rattle.xt_recover.proofs.gather_files.lay_sealed.Goals as goal

pub loop-texts-init : goal.loop-texts-init
loop-texts-init g c = record { laying = laying_first c.args.source.now (g.L.Read.remaining c.args.log.now) c.args.before (overlaid c.args.overlay.now); tied = c.requires.ended }

pub lay_behind-requires-clause-one_of : goal.lay_behind-requires-clause-one_of
lay_behind-requires-clause-one_of g c = (text_taken c.in-Ok-Some.field-0 c.in-Ok-Some.text c.in-Ok-Some.field-0-is c.in-Ok-Some.ensures.text).one_of

pub lay_behind-requires-clause-form : goal.lay_behind-requires-clause-form
lay_behind-requires-clause-form g c = (text_taken c.in-Ok-Some.field-0 c.in-Ok-Some.text c.in-Ok-Some.field-0-is c.in-Ok-Some.ensures.text).form

pub lay_behind-requires-clause-within : goal.lay_behind-requires-clause-within
lay_behind-requires-clause-within g c = (text_taken c.in-Ok-Some.field-0 c.in-Ok-Some.text c.in-Ok-Some.field-0-is c.in-Ok-Some.ensures.text).within

pub returns-in_err-lay_behind-in-Ok-Some-clause-why : goal.returns-in_err-lay_behind-in-Ok-Some-clause-why
returns-in_err-lay_behind-in-Ok-Some-clause-why g c =
    err_then c.from_residual.result _ _ c.from_residual.ensures.1
    (λ fault is.
    laying_other c.args.source.now c.loop-texts.source (g.L.Read.remaining c.args.log.now) (g.L.Read.remaining c.loop-texts.log) (g.L.Read.remaining c.next_sealed.new.reader) c.args.before c.loop-texts.texts
    (overlaid c.args.overlay.now) (overlaid c.loop-texts.overlay) c.in-Ok-Some.text c.next_sealed.new.sealer c.next_sealed.new.self c.in-Ok-Some.field-0 fault c.in-Ok-Some.field-0-is c.loop-texts.invariant.laying c.in-Ok-Some.ensures.found
    (subst (λ r. IsWhyNotBehind c.loop-texts.texts c.in-Ok-Some.text.checkpoint.size (overlaid c.loop-texts.overlay) r fault) c.rotten-rotten.ensures
    (subst (IsWhyNotBehind c.loop-texts.texts c.in-Ok-Some.text.checkpoint.size (overlaid c.loop-texts.overlay) c.rotten-rotten.result) (sym is) c.in_err-lay_behind-in-Ok-Some.ensures.why)))

pub returns-in-Ok-None-clause-read : goal.returns-in-Ok-None-clause-read
returns-in-Ok-None-clause-read g c =
    let same : c.next_sealed.new.sealer ≡ c.loop-texts.source.sealer = search rules in
    laying_end c.args.source.now c.loop-texts.source (g.L.Read.remaining c.args.log.now) (g.L.Read.remaining c.loop-texts.log) (g.L.Read.remaining c.next_sealed.new.reader) c.args.before c.loop-texts.texts
    (overlaid c.args.overlay.now) (overlaid c.loop-texts.overlay) c.next_sealed.new.sealer c.next_sealed.new.self c.in-Ok-None.field-0 c.in-Ok-None.field-0-is c.loop-texts.invariant.laying c.in-Ok-None.ensures.found same

pub returns-in-Ok-None-clause-which : goal.returns-in-Ok-None-clause-which
returns-in-Ok-None-clause-which g c = c.loop-texts.invariant.laying.which

pub returns-in-Ok-None-clause-header : goal.returns-in-Ok-None-clause-header
returns-in-Ok-None-clause-header g c = c.loop-texts.invariant.laying.header

pub loop-texts-preserved : goal.loop-texts-preserved
loop-texts-preserved g c = record {
  laying = subst
      (λ xs. IsLayingOn c.args.source.now (record { which = c.loop-texts.source.which; window = c.next_sealed.new.self; header = c.loop-texts.source.header; sealer = c.next_sealed.new.sealer; last = xs })
      (g.L.Read.remaining c.args.log.now) (g.L.Read.remaining c.next_sealed.new.reader) c.args.before (c.loop-texts.texts + 1) (overlaid c.args.overlay.now) (overlaid c.lay_behind.new.overlay))
      (sym c.copy_from_slice.ensures.after)
      (laying_more c.args.source.now c.loop-texts.source (g.L.Read.remaining c.args.log.now) (g.L.Read.remaining c.loop-texts.log) (g.L.Read.remaining c.next_sealed.new.reader) c.args.before c.loop-texts.texts
      (overlaid c.args.overlay.now) (overlaid c.loop-texts.overlay) (overlaid c.lay_behind.new.overlay) c.in-Ok-Some.text c.next_sealed.new.sealer c.next_sealed.new.self c.in-Ok-Some.field-0 c.in-Ok-Some.field-0-is
      c.loop-texts.invariant.laying c.in-Ok-Some.ensures.found c.in_ok-lay_behind-in-Ok-Some.ensures.alike c.in_ok-lay_behind-in-Ok-Some.ensures.laid);
  tied = c.in-Ok-Some.ensures.tied;
}
