use Rattle.std.proofs.Common.{◌≡◌, false, rules}
use Rattle.std.specs.Prelude.{is_some}
use Rattle.xt_window.proofs.WayLemmas.{begun_of, long_of, no_other_beside, unsealed_of}
use Rattle.xt_window.proofs.way.way_of_unsealed.Goals as goal

pub returns-else-is_some : goal.returns-else-is_some
returns-else-is_some c = λ first second a b.
    let none : is_some c.args.one.short ≡ false = search rules in
    no_other_beside _ first second c.args.one a (begun_of second c.args.other.now c.in-Sealed.header c.in-Sealed.sealer c.in-Sealed.is b) (long_of first c.args.one.short none a.short)

pub returns-in-Other : goal.returns-in-Other
returns-in-Other c = λ first second a b. c.way_of_neither.ensures first second a (unsealed_of second c.args.other.now c.in-Other.seen c.in-Other.is b)
