use Rattle.std.proofs.Common.{subst, sym}
use Rattle.xt_recover.proofs.GatherLemmas.{err_then, gathered_rest, stands_first, stands_more, text_found, why_not_laid}
use Rattle.xt_recover.specs.Gathering.{IsWhyNotLaid}
use Rattle.xt_recover.specs.Overlaid.{overlaid}
use Rattle.xt_window.specs.Window.{ahead}
use Rattle.xt_recover.proofs.gather.gather_by_pieces.Goals as goal

pub loop-texts-init : goal.loop-texts-init
loop-texts-init g c = record {
  stands = stands_first (g.L.Read.remaining c.args.log.now) c.args.window.now (overlaid c.args.overlay.now) c.requires.first c.requires.none;
  tied = c.requires.ended;
}

pub lay_text-requires : goal.lay_text-requires
lay_text-requires g c =
    let found = text_found c.in-Ok-Text.field-0 c.in-Ok-Text.checkpoint c.in-Ok-Text.field-0-is c.in-Ok-Text.ensures.grammar in
    record { one_of = found.one_of; form = found.form; within = found.within }

pub returns-in-Ok-Rest-clause-gathered : goal.returns-in-Ok-Rest-clause-gathered
returns-in-Ok-Rest-clause-gathered g c =
    gathered_rest (ahead c.args.window.now (g.L.Read.remaining c.args.log.now)) c.loop-texts.window c.next.new.self (g.L.Read.remaining c.loop-texts.log) (g.L.Read.remaining c.next.new.reader) c.loop-texts.texts
    (overlaid c.loop-texts.overlay) c.in-Ok-Rest.field-0 c.in-Ok-Rest.rest c.in-Ok-Rest.field-0-is c.loop-texts.invariant.stands c.in-Ok-Rest.ensures.found

pub loop-texts-preserved : goal.loop-texts-preserved
loop-texts-preserved g c = record {
  stands = stands_more (ahead c.args.window.now (g.L.Read.remaining c.args.log.now)) c.loop-texts.window c.next.new.self (g.L.Read.remaining c.loop-texts.log) (g.L.Read.remaining c.next.new.reader) c.loop-texts.texts
      (overlaid c.loop-texts.overlay) (overlaid c.lay_text.new.overlay) c.in-Ok-Text.field-0 c.in-Ok-Text.checkpoint c.in-Ok-Text.field-0-is c.loop-texts.invariant.stands c.in-Ok-Text.ensures.found
      c.in_ok-lay_text-in-Ok-Text.ensures.alike c.in_ok-lay_text-in-Ok-Text.ensures.laid;
  tied = c.in-Ok-Text.ensures.tied;
}

pub returns-in_err-lay_text-in-Ok-Text-clause-why : goal.returns-in_err-lay_text-in-Ok-Text-clause-why
returns-in_err-lay_text-in-Ok-Text-clause-why g c =
    err_then c.from_residual.result _ _ c.from_residual.ensures.1
    (λ fault is.
    why_not_laid (ahead c.args.window.now (g.L.Read.remaining c.args.log.now)) c.loop-texts.window c.next.new.self (g.L.Read.remaining c.loop-texts.log) (g.L.Read.remaining c.next.new.reader) c.loop-texts.texts
    (overlaid c.loop-texts.overlay) c.in-Ok-Text.field-0 c.in-Ok-Text.checkpoint c.offset-offset.result fault c.in-Ok-Text.field-0-is c.loop-texts.invariant.stands c.in-Ok-Text.ensures.found
    c.offset-offset.ensures.value
    (subst (IsWhyNotLaid c.loop-texts.texts c.in-Ok-Text.checkpoint.size (overlaid c.loop-texts.overlay) c.offset-offset.result) (sym is) c.in_err-lay_text-in-Ok-Text.ensures.why))
