use denote.Exit as exits
use denote.Builtin.{usize}
use denote.Param.{param}
use denote.Param.Send.{IsSend, IsSync, arg_send, param_send, sendable}
use Rattle.std.proofs.Common.{ap, ◌∙◌}
use Rattle.std.proofs.Crossing.{crosses, send, Arc-send}
use Rattle.xt_cell.proofs.seat.HostSeat.TheSendSync as seats
use Rattle.xt_service.proofs.Captures.{eight_send}
use Rattle.xt_service.proofs.HostChains.{host_session_used}
use Rattle.xt_service.proofs.HostCrossing.{shared_host_send}
use Rattle.xt_service.proofs.table.start.Goals as goal
use Rattle.xt_service.specs.contracts.door.Door as Door
use Rattle.xt_service.specs.contracts.ended.Ended as Ended
use Rattle.xt_service.specs.contracts.guest.Guest as Guest

-- the host and the client are shared with the other thread; a seat goes to it
pub spawn_with-requires-send-F : goal.spawn_with-requires-send-F
spawn_with-requires-send-F g c κs within =
    let host = shared_host_send (param 0 g.row.H) _ g.H.House c.type_bounds.send-D c.type_bounds.sync-D in
    let seat = seats.the_send (param 0 g.row.H) g.H.House in
    let guest_sent : IsSend Guest.the_row = search (crosses, sendable) depth 20 in
    let guest_lent : IsSync Guest.the_row = search (crosses, sendable) depth 20 in
    let told_sent : IsSend Ended.the_row = search (crosses, sendable) depth 20 in
    let told_lent : IsSync Ended.the_row = search (crosses, sendable) depth 20 in
    let number : IsSend usize = search sendable in
    let door_sent : IsSend Door.the_row = search (crosses, sendable) depth 20 in
    let door_lent : IsSync Door.the_row = search (crosses, sendable) depth 20 in
    param_send 2 _ (arg_send _ exits.no _ (eight_send _ c.type_bounds.send-R send host seat (Arc-send _ guest_sent guest_lent) (Arc-send _ told_sent told_lent) number (Arc-send _ door_sent door_lent)))

-- the session was served here, by the seat that the closure has
pub returns-clause-seat : goal.returns-clause-seat
returns-clause-seat g c = (host_session_used _ _ _ _ _ _ _ c.session.ensures.1).board ∙ ap (λ captured. captured.3.board.board) c.in-Err.ensures.err ∙ c.requires.board
