use Rattle.std.proofs.Common.{◌∙◌, subst, sym}
use Rattle.std.specs.Prelude.{IfOk, OnErr}
use Rattle.xt_offline.proofs.PlayLemmas.{picked_steps, played_late, played_whole}
use Rattle.xt_base.specs.Sound.{Each}
use Rattle.xt_text.specs.Lines.{IsStep}
use Rattle.xt_offline.specs.Script.{IsCutShort, IsPrinted, IsScript}
use Rattle.xt_offline.proofs.script.play.Goals as goal

pub play_to_the_end-played-requires : goal.play_to_the_end-played-requires
play_to_the_end-played-requires g c =
    let valid : Each IsStep c.in_ok-parse_script.field-0.items = c.in_ok-parse_script.ensures.steps.valid in
    subst (Each IsStep) (sym c.in_ok-steps.ensures.picked ∙ sym c.deref-2.ensures.value) (picked_steps c.args.only c.in_ok-parse_script.field-0.items valid)

pub returns-clause-played : goal.returns-clause-played
returns-clause-played g c = played_whole c.play_to_the_end-played.result (g.R.Read.remaining c.args.reader.now) c.args.only c.in_ok-script.script.items c.in_ok-parse_script.field-0.items c.in_ok-steps.steps.items
    (g.W.Write.contents c.args.writer.now) (g.W.Write.contents c.play_to_the_end-played.new.writer)
    c.in_ok-script.ensures.whole c.in_ok-script.ensures.short
    (subst (λ s. IsScript s c.in_ok-parse_script.field-0.items) c.deref.ensures.value c.in_ok-parse_script.ensures.steps)
    c.in_ok-steps.ensures.picked
    (subst (λ xs. IfOk c.play_to_the_end-played.result (IsPrinted xs (g.W.Write.contents c.args.writer.now) (g.W.Write.contents c.play_to_the_end-played.new.writer))) c.deref-2.ensures.value c.play_to_the_end-played.ensures.printed)

pub returns-clause-fault : goal.returns-clause-fault
returns-clause-fault g c = played_late c.play_to_the_end-played.result (g.R.Read.remaining c.args.reader.now) c.args.only c.in_ok-script.script.items c.in_ok-parse_script.field-0.items c.in_ok-steps.steps.items
    (g.W.Write.contents c.args.writer.now) (g.W.Write.contents c.play_to_the_end-played.new.writer)
    c.in_ok-script.ensures.whole
    (subst (λ s. IsScript s c.in_ok-parse_script.field-0.items) c.deref.ensures.value c.in_ok-parse_script.ensures.steps)
    c.in_ok-steps.ensures.picked
    (subst (λ xs. OnErr c.play_to_the_end-played.result (IsCutShort xs (g.W.Write.contents c.args.writer.now) (g.W.Write.contents c.play_to_the_end-played.new.writer))) c.deref-2.ensures.value c.play_to_the_end-played.ensures.cut)
    c.play_to_the_end-played.ensures.fault
