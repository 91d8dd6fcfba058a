use Rattle.xt_window.proofs.WayLemmas.{no_pair}
use Rattle.xt_window.proofs.way.way_of_both.Goals as goal

pub returns : goal.returns
returns c = λ first second a b. no_pair c.args.one c.args.other first second a b (c.is_next.ensures.no c.if-is_next.false) (c.is_next-2.ensures.no c.if-is_next-2.false)
