use denote.Exit as exits
use denote.Param.{param}
use denote.Param.Object.{Vt, ghosts_of}
use denote.Param.Send.{IsSend, arg_send, arg_sync, param_send, param_sync, sendable}
use Rattle.xt_slots.proofs.CrossLemmas.{slots_send, slots_sync}
use Rattle.xt_service.proofs.service.Service.serve.Goals as goal
use Rattle.xt_service.specs.contracts.service.Service.serve.dyn-1 as one
use Rattle.xt_service.specs.contracts.service.Service.serve.dyn-2 as two

-- the sixteen slots may go to another thread
pub accept_sessions-requires-send-D : goal.accept_sessions-requires-send-D
accept_sessions-requires-send-D g c κs within =
    let A = Vt (one.slots g.row.H g.row.R) g.dyn-1.0 in
    let B = Vt (two.slots g.row.H g.row.R) g.dyn-2.0 in
    let ga = ghosts_of (one.slots g.row.H g.row.R) g.dyn-1.0 g.dyn-1.1 in
    let gb = ghosts_of (two.slots g.row.H g.row.R) g.dyn-2.0 g.dyn-2.1 in
    let a : IsSend A = search sendable in
    let b : IsSend B = search sendable in
    param_send 1 _ (arg_send _ exits.no _ (slots_send (param 0 g.row.H) A B g.H.House ga gb g.dyn-1.2 a g.dyn-2.2 b))

-- and be lent to it
pub accept_sessions-requires-sync-D : goal.accept_sessions-requires-sync-D
accept_sessions-requires-sync-D g c κs within =
    let A = Vt (one.slots g.row.H g.row.R) g.dyn-1.0 in
    let B = Vt (two.slots g.row.H g.row.R) g.dyn-2.0 in
    let ga = ghosts_of (one.slots g.row.H g.row.R) g.dyn-1.0 g.dyn-1.1 in
    let gb = ghosts_of (two.slots g.row.H g.row.R) g.dyn-2.0 g.dyn-2.1 in
    let a : IsSend A = search sendable in
    let b : IsSend B = search sendable in
    param_sync 1 _ (arg_sync _ exits.no _ (slots_sync (param 0 g.row.H) A B g.H.House ga gb g.dyn-1.2 a g.dyn-2.2 b))
