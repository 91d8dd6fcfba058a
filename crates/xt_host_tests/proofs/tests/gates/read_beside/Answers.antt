use denote.Param.{param}
use denote.Param.Send.{sendable}
use Rattle.std.proofs.Crossing.{crosses}
use Rattle.xt_cell.proofs.seat.HostSeat.TheSendSync as seats
use Rattle.xt_host.proofs.CrossLemmas.{host_sync_over}
use Rattle.xt_host_tests.proofs.tests.gates.read_beside.Goals as goal

-- the host is lent to the other thread; a seat goes to it
pub join-requires-send-F : goal.join-requires-send-F
join-requires-send-F g c κs within =
    let host = host_sync_over (param 0 g.row.H) _ g.H.House c.type_bounds.sync-D in
    let rt = c.type_bounds.sync-R in
    search (host, rt, seats.the_send, crosses, sendable) depth 60
