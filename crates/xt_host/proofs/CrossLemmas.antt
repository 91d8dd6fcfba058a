-- A host goes to other threads, and is lent to them, where its slots may.
use denote.RattleType.{RattleType}
use denote.Param.Object as object
use denote.Struct.Declared.{shape}
use denote.Param.Sent.{Sends}
use denote.Param.Send.{AllSend, AllSync, IsSend, IsSync, recorded_send, recorded_sync, struct_send, struct_sync, sendable}
use Rattle.std.proofs.Crossing.{crosses, Arc-send, Arc-sync}
use Rattle.std.specs.contracts.sync.Mutex as mutex
use Rattle.xt_cell.specs.declared.house.House.{Ghosts}
use Rattle.xt_cell.specs.contracts.reserve.Reserve as reserves
use Rattle.xt_cell.proofs.reserve.Reserve.TheSendSync as reserve
use Rattle.xt_host.specs.contracts.host.Host as host
use Rattle.xt_queue.proofs.board.Board.TheSendSync as board
use Rattle.xt_queue.proofs.jobs.JobQueue.TheSendSync as queue
use Rattle.xt_slots.proofs.CrossLemmas.{slots_send, slots_sync}
use Rattle.xt_slots.specs.contracts.desk.Slots as slots

module _ (H D : RattleType) (g : Ghosts H.Denot) where
  pub reserve_sync : IsSync (mutex.the_row (reserves.the_row H g))
  reserve_sync = let r = reserve.the_send H g in search crosses

  pub reserve_send : IsSend (mutex.the_row (reserves.the_row H g))
  reserve_send = let r = reserve.the_send H g in search crosses

  -- a host over any slots that may be lent
  pub host_sync_over : IsSync D → IsSync (host.the_row H D g)
  host_sync_over slots =
      let d = board.the_sync in
      let q = Arc-sync _ queue.the_send queue.the_sync in
      let r = reserve_sync in
      let s = shape (host.the_type H D g) in
      let fields : AllSync s.fields = (search (sendable, crosses) depth 20, (search (sendable, crosses) depth 20, (d, (q, (r, (slots, tt)))))) in
      recorded_sync _ _ _ (host.the_type H D g).to_one (struct_sync s fields)

  -- a host over any slots that may go
  pub host_send_over : IsSend D → IsSend (host.the_row H D g)
  host_send_over slots =
      let d = board.the_send in
      let q = Arc-send _ queue.the_send queue.the_sync in
      let r = reserve_send in
      let s = shape (host.the_type H D g) in
      let fields : AllSend s.fields = (search (sendable, crosses) depth 20, (search (sendable, crosses) depth 20, (d, (q, (r, (slots, tt)))))) in
      recorded_send _ _ _ (host.the_type H D g).to_one (struct_send s fields)

module _ (H A B : RattleType) (g : Ghosts H.Denot) (ga : object.Ghosts A.Denot) (gb : object.Ghosts B.Denot)
    (sa : Sends (object.table_of A.Denot ga)) (a : IsSend A) (sb : Sends (object.table_of B.Denot gb)) (b : IsSend B) where
  pub host_sync : IsSync (host.the_row H (slots.the_row H A B g ga gb) g)
  host_sync = host_sync_over H (slots.the_row H A B g ga gb) g (slots_sync H A B g ga gb sa a sb b)

  pub host_send : IsSend (host.the_row H (slots.the_row H A B g ga gb) g)
  host_send = host_send_over H (slots.the_row H A B g ga gb) g (slots_send H A B g ga gb sa a sb b)
