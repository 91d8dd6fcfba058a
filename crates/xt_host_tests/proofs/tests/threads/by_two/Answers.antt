use denote.Param.{param}
use denote.Param.Send.{IsSync, sendable}
use Rattle.std.proofs.Crossing.{crosses}
use Rattle.xt_cell.proofs.seat.HostSeat.TheSendSync as seats
use Rattle.xt_host.proofs.CrossLemmas.{host_sync_over}
use Rattle.xt_host_tests.proofs.tests.threads.by_two.Goals as goal
use Rattle.xt_host_tests.specs.contracts.tests.door.Door as Door
use Rattle.xt_queue.proofs.jobs.WorkPass.TheSendSync as passes

-- the host and the door are lent to the other thread; a seat and a pass go to it
pub join-worked-requires-send-F : goal.join-worked-requires-send-F
join-worked-requires-send-F g c κs within =
    let host = host_sync_over (param 0 g.row.H) _ g.H.House c.type_bounds.sync-D in
    let door : IsSync Door.the_row = search (crosses, sendable) depth 30 in
    let rt = c.type_bounds.sync-R in
    search (host, rt, door, seats.the_send, passes.the_send, crosses, sendable) depth 60
