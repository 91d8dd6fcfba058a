use Rattle.xt_window.proofs.WayLemmas.{begun_of}
use Rattle.xt_window.proofs.way.way_of_sealed.Goals as goal

pub returns-in-Sealed : goal.returns-in-Sealed
returns-in-Sealed c = λ first second a b. c.way_of_both.ensures first second a (begun_of second c.args.other.now c.in-Sealed.header c.in-Sealed.sealer c.in-Sealed.is b)
