use Rattle.xt_core.proofs.PlaceLemmas.{unused_states}
use Rattle.xt_core.proofs.host.HostCore.new.Goals as goal
use Rattle.xt_core.specs.Host.{Host, IsAfter, IsNew}

pub returns-clause-history : goal.returns-clause-history
returns-clause-history c =
    let host : Host = record { cells = c.in_ok-cells.cells.items; queue = c.new.result.queue; hands = c.new.result.hands } in
    let is : IsNew host = record { slots = λ m. unused_states c.in_ok-cells.cells.items m c.in_ok-cells.ensures; queue = c.new.ensures.queue; hands = c.new.ensures.hands } in
    IsAfter.none host is
