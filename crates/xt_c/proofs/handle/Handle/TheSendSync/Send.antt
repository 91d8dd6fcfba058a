-- A handle owns the value that it points to and the right to free its block, which may both go to another thread.
use Rattle.std.specs.Prelude.{Bool, true, false, ◌==◌}
use mir.Raw.{raw}
use base.Fml.{Fml}
use base.Shift.{Keyless}
use denote.Memory.{lone}
use denote.Struct.Struct.{exits_of}
use denote.Struct.Owning.{shape, fields, to}
use denote.Param.Send.{IsSend, AllSend, owning_send, struct_send, sendable}
use Rattle.std.proofs.Crossing as heap
use Rattle.std_alloc.proofs.SendSync.{quiet, lies}
use Rattle.std.proofs.alloc.Global.TheSendSync as allocator
use Rattle.xt_c.specs.Owning.{owned_unless}
use Rattle.xt_mount.specs.contracts.mount.Mount as inner
use Rattle.xt_mount.proofs.mount.Mount.TheSendSync.{the_send as crosses}
use Rattle.xt_c.specs.contracts.handle.Handle.{the_row, the_type}

unless_closed : (closed : Bool) (F : Fml) → Keyless F → Keyless (owned_unless closed F)
unless_closed true F k = tt
unless_closed false F k = k

pub send : IsSend the_row
send =
    let all : AllSend (fields the_type) = (search sendable, (search sendable, (allocator.the_field_send, tt))) in
    owning_send the_type all (λ d. unless_closed (d.holds == 0) _ (lies inner.the_row crosses d.at d.value, heap.frees.frees d.alloc (raw (lone inner.the_row.mir)) d.at))
    (λ k. quiet (to the_type) (exits_of k (fields the_type)) ((struct_send (shape the_type) all).leaving k))
