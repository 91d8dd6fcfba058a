-- What of a host that threads share may go to another thread.
use denote.RattleType.{RattleType}
use denote.Struct.Declared.{shape}
use denote.Param.Send.{AllSend, IsSend, IsSync, recorded_send, struct_send}
use Rattle.std.proofs.Crossing.{Arc-send}
use Rattle.std.specs.contracts.alloc.Global as heap
use Rattle.std.specs.contracts.impls.GlobalAllocator.TheImpl as allocator
use Rattle.std.specs.contracts.sync.Arc as arc
use Rattle.xt_cell.specs.declared.house.House.{Ghosts}
use Rattle.xt_cell.proofs.seat.HostSeat.TheSendSync as seats
use Rattle.xt_host.proofs.CrossLemmas.{host_send_over, host_sync_over}
use Rattle.xt_host.specs.contracts.host.Host as host
use Rattle.xt_queue.proofs.jobs.WorkPass.TheSendSync as passes
use Rattle.xt_service.specs.contracts.bench.Bench as bench

-- a bench goes to its worker's thread
pub bench_send : (H : RattleType) (g : Ghosts H.Denot) → IsSend (bench.the_row H g)
bench_send H g =
    let s = shape (bench.the_type H g) in
    let fields : AllSend s.fields = (seats.the_send H g, (passes.the_send, tt)) in
    recorded_send _ _ _ (bench.the_type H g).to_one (struct_send s fields)

-- a share of a host goes to a thread that works on it
pub shared_host_send : (H D : RattleType) (g : Ghosts H.Denot) → IsSend D → IsSync D → IsSend (arc.the_row (host.the_row H D g) heap.the_row allocator.ghosts)
shared_host_send H D g sent lent = Arc-send _ (host_send_over H D g sent) (host_sync_over H D g lent)
