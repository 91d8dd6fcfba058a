use Rattle.std.proofs.Common.{rules, ◌≡◌, All, ◌+◌, subst, sym, ap, ◌∙◌}
use Rattle.std.proofs.lemmas.List.Elements.{All-push, Contains-get_or}
use Rattle.xt_volumes.proofs.VolumeLemmas.{first_bad, spelled_more}
use Rattle.xt_volumes.specs.Volumes.{IsFirstBad, IsNamed}
use Rattle.xt_volumes.proofs.volume.parse_all.Goals as goal

-- one word more spells a volume
pub loop-word-preserved : goal.loop-word-preserved
loop-word-preserved c =
    let words = c.args.words.now in
    let named : IsNamed words c.in_ok-volume.volume = (_, Contains-get_or words c.loop-word.word-index _ c.loop-word-test.true, c.in_ok-volume.ensures.spelled) in
    record {
      named = subst (All (IsNamed words)) (sym c.in-Ok.ensures.items) (All-push (IsNamed words) _ _ c.loop-word.invariant.named named);
      spelled = spelled_more words c.loop-word.word-index _ c.in_ok-volume.volume c.loop-word-test.true c.loop-word.invariant.spelled c.in_ok-volume.ensures.spelled;
      count = c.in-Ok.ensures.len ∙ ap (λ n. n + 1) c.loop-word.invariant.count;
    }

-- or it is the first that spells none
pub returns-in_err-volume-clause-bad : goal.returns-in_err-volume-clause-bad
returns-in_err-volume-clause-bad c = λ number is.
    let told = c.parse.ensures.bad number (search (rules, is)) in
    let at : number ≡ c.loop-word.word-index = told.0 ∙ c.len.ensures ∙ c.loop-word.invariant.count in
    subst (IsFirstBad c.args.words.now) (sym at) (first_bad c.args.words.now c.loop-word.word-index _ c.loop-word-test.true c.loop-word.invariant.spelled told.1)
