use denote.Param.{param}
use denote.Param.Object.{Vt, ghosts_of}
use denote.Param.Send.{IsSend, IsSync, sendable}
use Rattle.std.proofs.Crossing.{crosses}
use Rattle.xt_cell.proofs.seat.HostSeat.TheSendSync as seats
use Rattle.xt_host.proofs.CrossLemmas.{host_sync}
use Rattle.xt_host.specs.contracts.host.Host as Host
use Rattle.xt_host_torture.proofs.crew.by_two.Goals as goal
use Rattle.xt_host_torture.specs.contracts.crew.by_two.dyn-1 as one
use Rattle.xt_host_torture.specs.contracts.crew.by_two.dyn-2 as two
use Rattle.xt_queue.proofs.jobs.WorkPass.TheSendSync as passes
use Rattle.xt_slots.specs.contracts.desk.Slots as Slots

-- the host is lent to the other thread; guests go to it
pub join-one-requires-send-F : goal.join-one-requires-send-F
join-one-requires-send-F g c κs within =
    let A = Vt (one.slots g.row.H g.row.R) g.dyn-1.0 in
    let B = Vt (two.slots g.row.H g.row.R) g.dyn-2.0 in
    let ga = ghosts_of (one.slots g.row.H g.row.R) g.dyn-1.0 g.dyn-1.1 in
    let gb = ghosts_of (two.slots g.row.H g.row.R) g.dyn-2.0 g.dyn-2.1 in
    let a : IsSend A = search sendable in
    let b : IsSend B = search sendable in
    let host : IsSync (Host.the_row (param 0 g.row.H) (Slots.the_row (param 0 g.row.H) A B g.H.House ga gb) g.H.House) = host_sync (param 0 g.row.H) A B g.H.House ga gb g.dyn-1.2 a g.dyn-2.2 b in
    let rt = c.type_bounds.sync-R in
    search (host, rt, seats.the_send, passes.the_send, crosses, sendable) depth 40
