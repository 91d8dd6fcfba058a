use denote.Exit as exits
use denote.Param.{param}
use denote.Param.Send.{IsSend, IsSync, arg_send, param_send, sendable}
use Rattle.std.proofs.Crossing.{crosses, Arc-send}
use Rattle.xt_service.proofs.Captures.{four_send}
use Rattle.xt_service.proofs.HostCrossing.{bench_send, shared_host_send}
use Rattle.xt_service.proofs.service.hire.Goals as goal
use Rattle.xt_service.specs.contracts.door.Door as Door

-- the host is shared with the other thread; a bench goes to it
pub spawn_with-requires-send-F : goal.spawn_with-requires-send-F
spawn_with-requires-send-F g c κs within =
    let host = shared_host_send (param 0 g.row.H) _ g.H.House c.type_bounds.send-D c.type_bounds.sync-D in
    let bench = bench_send (param 0 g.row.H) g.H.House in
    let door_sent : IsSend Door.the_row = search (crosses, sendable) depth 20 in
    let door_lent : IsSync Door.the_row = search (crosses, sendable) depth 20 in
    param_send 2 _ (arg_send _ exits.no _ (four_send _ c.type_bounds.send-R host bench (Arc-send _ door_sent door_lent)))
