use Rattle.xt_offline.proofs.PlayLemmas.{cut_last, on_err, printed_kept}
use Rattle.xt_offline.proofs.script.play_to_the_end.Goals as goal

pub returns-in_err-status-clause-cut : goal.returns-in_err-status-clause-cut
returns-in_err-status-clause-cut g c = on_err _ _ c.in_err-status.ensures.cut

pub returns-in_err-map_err-clause-cut : goal.returns-in_err-map_err-clause-cut
returns-in_err-map_err-clause-cut g c = on_err _ _ (cut_last c.args.steps.now _ _ _ c.in_ok-status.status c.in_ok-status.ensures.printed c.flush.ensures.bytes)

pub returns-clause-printed : goal.returns-clause-printed
returns-clause-printed g c = printed_kept c.args.steps.now _ _ _ c.in_ok-status.status c.in_ok-status.ensures.printed c.flush.ensures.bytes
