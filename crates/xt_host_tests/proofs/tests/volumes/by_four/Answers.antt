use denote.Param.{param}
use denote.Param.Send.{sendable}
use Rattle.std.proofs.Crossing.{crosses}
use Rattle.xt_cell.proofs.seat.HostSeat.TheSendSync as seats
use Rattle.xt_host.proofs.CrossLemmas.{host_sync_over}
use Rattle.xt_host_tests.proofs.tests.volumes.by_four.Goals as goal
use Rattle.xt_queue.proofs.jobs.WorkPass.TheSendSync as passes

-- the host is lent to the other thread; tenants go to it
pub join-one-requires-send-F : goal.join-one-requires-send-F
join-one-requires-send-F g c κs within =
    let host = host_sync_over (param 0 g.row.H) _ g.H.House c.type_bounds.sync-D in
    let rt = c.type_bounds.sync-R in
    search (host, rt, seats.the_send, passes.the_send, crosses, sendable) depth 60
