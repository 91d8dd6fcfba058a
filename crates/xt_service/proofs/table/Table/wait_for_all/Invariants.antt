use Rattle.std.proofs.Common.{◌≡◌, ◌+◌, vec_len}
use Rattle.slab.specs.Slab.{slab_len}
use Rattle.xt_service.proofs.table.Table.wait_for_all.Given as goal

-- the table's host stays, and its places do
abbrev pub invariant-loop : goal.invariant-loop
invariant-loop g l = record {
  like : l.self.like ≡ l.fn.self.like;
  places : slab_len l.self.sessions + vec_len l.self.free ≡ slab_len l.fn.self.sessions + vec_len l.fn.self.free;
}
