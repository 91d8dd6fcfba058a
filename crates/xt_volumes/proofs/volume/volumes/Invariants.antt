use Rattle.std.proofs.Common.{◌≡◌, ◌+◌, All, vec_len, length}
use Rattle.std.specs.Vec.Iter.{into_iter_items, into_iter_len}
use Rattle.xt_volumes.specs.Volumes.{AreAscending, HasSizes, IsNamed}
use Rattle.xt_volumes.proofs.volume.volumes.Given as goal

-- those that were put in ascend, have right sizes, and are spelled by the words; and so are those to come
abbrev pub invariant-loop-volume : goal.invariant-loop-volume
invariant-loop-volume l = record {
  can_next : goal.iterator-loop-volume.can_next l.volume-iterator;
  is_finite : goal.iterator-loop-volume.is_finite l.volume-iterator;
  coming : All (IsNamed l.words) (into_iter_items l.volume-iterator);
  count : vec_len l.volumes + into_iter_len l.volume-iterator ≡ length l.words;
  named : All (IsNamed l.words) l.volumes.items;
  sizes : All HasSizes l.volumes.items;
  ascending : AreAscending l.volumes.items;
}
