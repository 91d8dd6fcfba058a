use Rattle.std.proofs.Common.{◌∙◌, refl, rules}
use Rattle.xt_offline.proofs.PlayLemmas.{on_err}
use Rattle.xt_offline.proofs.SealedLemmas.{all_printed, begun_here, begun_more, standing_first, standing_more}
use Rattle.xt_window.specs.Window.{ahead}
use Rattle.xt_offline.proofs.sealed.SealedFile.print_texts.Goals as goal

pub loop-init : goal.loop-init
loop-init g c = record {
  stands = standing_first (ahead c.args.self.now.window (g.R.Read.remaining c.args.reader.now)) c.args.self.now (g.R.Read.remaining c.args.reader.now) (g.W.Write.contents c.args.writer.now) refl;
  chained = c.requires.chained;
  tied = c.requires.ended;
  further = (refl, (refl, refl));
}

pub returns-in_err-found-clause-begun : goal.returns-in_err-found-clause-begun
returns-in_err-found-clause-begun g c = on_err _ _ (begun_here (ahead c.args.self.now.window (g.R.Read.remaining c.args.reader.now)) c.args.self.now c.loop.self (g.R.Read.remaining c.loop.reader) _ _ c.loop.invariant.stands)

pub returns-in_err-print_text-in-Some-clause-begun : goal.returns-in_err-print_text-in-Some-clause-begun
returns-in_err-print_text-in-Some-clause-begun g c =
    on_err _ _ (begun_more (ahead c.args.self.now.window (g.R.Read.remaining c.args.reader.now)) c.args.self.now c.loop.self c.next.new.self (g.R.Read.remaining c.loop.reader) (g.R.Read.remaining c.next.new.reader) _ _ _ c.in_ok-found.field-0 c.in-Some.found
    c.loop.invariant.stands c.loop.invariant.further.0 c.in-Some.is c.in_ok-found.ensures.found c.print_text.ensures.part)

pub returns-in-None-clause-printed : goal.returns-in-None-clause-printed
returns-in-None-clause-printed g c =
    all_printed (ahead c.args.self.now.window (g.R.Read.remaining c.args.reader.now)) c.args.self.now c.loop.self c.next.new.self (g.R.Read.remaining c.loop.reader) (g.R.Read.remaining c.next.new.reader) _ _ c.in_ok-found.field-0
    c.loop.invariant.stands c.loop.invariant.further.0 (c.in_ok-found.ensures.further.0 ∙ c.loop.invariant.further.0) c.in-None.is c.in_ok-found.ensures.found

pub loop-preserved : goal.loop-preserved
loop-preserved g c = record {
  stands = standing_more (ahead c.args.self.now.window (g.R.Read.remaining c.args.reader.now)) c.args.self.now c.loop.self c.next.new.self (g.R.Read.remaining c.loop.reader) (g.R.Read.remaining c.next.new.reader) _ _ _ c.in_ok-found.field-0 c.in-Some.found
      c.loop.invariant.stands c.loop.invariant.further.0 c.in-Some.is c.in_ok-found.ensures.found (search rules);
  chained = c.in_ok-found.ensures.chained;
  tied = c.in_ok-found.ensures.tied;
  further = (c.in_ok-found.ensures.further.0 ∙ c.loop.invariant.further.0, (c.in_ok-found.ensures.further.1.0 ∙ c.loop.invariant.further.1.0, c.in_ok-found.ensures.further.1.1 ∙ c.loop.invariant.further.1.1));
}
