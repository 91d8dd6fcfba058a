use Rattle.std.proofs.Common.{◌≡◌, ◌+◌, vec_len}
use Rattle.slab.specs.Slab.{slab_len}
use Rattle.xt_service.proofs.accept.begin_session.Given as goal

-- the table's host stays, and its places do
abbrev pub invariant-loop : goal.invariant-loop
invariant-loop g l = record {
  like : l.table.like ≡ l.fn.table.like;
  places : slab_len l.table.sessions + vec_len l.table.free ≡ slab_len l.fn.table.sessions + vec_len l.fn.table.free;
}
