-- What the lists of a step's offers hold.
use Rattle.std.specs.Prelude.{[]}
use Rattle.xt_base.specs.Alone.{Offered}
use Rattle.xt_base.specs.declared.outcomes.Lists.{Lists}

-- the slot, and what was offered to the one device or the other
abbrev pub offered_of : Lists → Offered
offered_of (Lists.None slot) = record { slot = slot; log = []; home = [] }
offered_of (Lists.Log slot offers) = record { slot = slot; log = offers.value.items; home = [] }
offered_of (Lists.Home slot offers) = record { slot = slot; log = []; home = offers.value.items }
