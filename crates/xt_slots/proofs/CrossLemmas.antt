-- The slots of a host go to other threads, and are lent to them.
use denote.RattleType.{RattleType}
use denote.Param.{number}
use denote.Param.Object as object
use denote.Struct.Declared.{shape}
use denote.Param.Sent.{Sends}
use denote.Param.Send.{AllSend, AllSync, IsSend, IsSync, recorded_send, recorded_sync, struct_send, struct_sync, sendable}
use Rattle.std.proofs.Crossing.{crosses, dyn_box_send}
use Rattle.std.specs.contracts.sync.Mutex as mutex
use Rattle.xt_cell.specs.declared.house.House.{Ghosts}
use Rattle.xt_base.proofs.content.HeldRoom.TheSendSync as held
use Rattle.xt_cell.specs.contracts.cell.SlotCell as cell
use Rattle.xt_cell.proofs.book.SlotBook.TheSendSync as book
use Rattle.xt_cell.proofs.poster.Poster.TheSendSync as poster
use Rattle.xt_cell.specs.contracts.rooms.Rooms as rooms
use Rattle.xt_slots.specs.contracts.desk.Slots as slots
use Rattle.xt_slots.specs.contracts.slot_lock.SlotLock as lock

module _ (H A B : RattleType) (g : Ghosts H.Denot) (ga : object.Ghosts A.Denot) (gb : object.Ghosts B.Denot)
    (sa : Sends (object.table_of A.Denot ga)) (a : IsSend A) (sb : Sends (object.table_of B.Denot gb)) (b : IsSend B) where
  rooms_send : IsSend rooms.the_field.row
  rooms_send =
      let h = held.the_send in
      let s = shape rooms.the_type in
      let fields : AllSend s.fields = (search sendable depth 20, (search sendable depth 20, tt)) in
      struct_send s fields

  pub cell_send : (S : RattleType) → IsSend (cell.the_row H S A B g ga gb)
  cell_send S =
      let home = dyn_box_send A ga sa a in
      let log = dyn_box_send B gb sb b in
      let post = poster.the_send S in
      let page = book.the_send H S g in
      let s = shape (cell.the_type H S A B g ga gb) in
      let fields : AllSend s.fields = (search sendable depth 20, (search sendable depth 20, (search sendable depth 20, (search sendable depth 20, (search sendable depth 20, (search sendable depth 20, (rooms_send, tt))))))) in
      recorded_send _ _ _ (cell.the_type H S A B g ga gb).to_one (struct_send s fields)

  pub mutex_sync : (S : RattleType) → IsSync (mutex.the_row (cell.the_row H S A B g ga gb))
  mutex_sync S = search (crosses, cell_send)

  pub lock_sync : (S : RattleType) → IsSync (lock.the_field H S A B g ga gb).row
  lock_sync S =
      let s = shape (lock.the_type H S A B g ga gb) in
      let fields : AllSync s.fields = (mutex_sync S, (search (sendable, crosses) depth 20, tt)) in
      struct_sync s fields

  pub slots_sync : IsSync (slots.the_row H A B g ga gb)
  slots_sync =
      let l = lock_sync in
      let s = shape (slots.the_type H A B g ga gb) in
      let fields : AllSync s.fields = (l (number 0), (l (number 1), (l (number 2), (l (number 3), (l (number 4), (l (number 5), (l (number 6), (l (number 7), (l (number 8), (l (number 9), (l (number 10), (l (number 11), (l (number 12), (l (number 13), (l (number 14), (l (number 15), tt)))))))))))))))) in
      recorded_sync _ _ _ (slots.the_type H A B g ga gb).to_one (struct_sync s fields)

  pub mutex_send : (S : RattleType) → IsSend (mutex.the_row (cell.the_row H S A B g ga gb))
  mutex_send S = search (crosses, cell_send)

  pub lock_send : (S : RattleType) → IsSend (lock.the_field H S A B g ga gb).row
  lock_send S =
      let s = shape (lock.the_type H S A B g ga gb) in
      let fields : AllSend s.fields = (mutex_send S, (search (sendable, crosses) depth 20, tt)) in
      struct_send s fields

  pub slots_send : IsSend (slots.the_row H A B g ga gb)
  slots_send =
      let l = lock_send in
      let s = shape (slots.the_type H A B g ga gb) in
      let fields : AllSend s.fields = (l (number 0), (l (number 1), (l (number 2), (l (number 3), (l (number 4), (l (number 5), (l (number 6), (l (number 7), (l (number 8), (l (number 9), (l (number 10), (l (number 11), (l (number 12), (l (number 13), (l (number 14), (l (number 15), tt)))))))))))))))) in
      recorded_send _ _ _ (slots.the_type H A B g ga gb).to_one (struct_send s fields)
