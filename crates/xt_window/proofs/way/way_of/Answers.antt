use Rattle.xt_window.proofs.WayLemmas.{begun_of, unsealed_of}
use Rattle.xt_window.proofs.way.way_of.Goals as goal

pub returns-in-Sealed : goal.returns-in-Sealed
returns-in-Sealed c = λ first second a b. c.way_of_sealed.ensures first second (begun_of first c.args.one.now c.in-Sealed.header c.in-Sealed.sealer c.in-Sealed.is a) b

pub returns-in-Other : goal.returns-in-Other
returns-in-Other c = λ first second a b. c.way_of_unsealed.ensures first second (unsealed_of first c.args.one.now c.in-Other.seen c.in-Other.is a) b
