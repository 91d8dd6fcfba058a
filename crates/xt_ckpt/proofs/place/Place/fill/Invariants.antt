use Rattle.std.proofs.Common.{◌≡◌, ◌+◌, ◌-◌, ◌++◌, ◌≤◌, length}
use Rattle.xt_ckpt.specs.Pieces.{LiesIn, from_place, rank}
use Rattle.xt_ckpt.proofs.place.Place.fill.Given as goal

abbrev pub invariant-loop-piece : goal.invariant-loop-piece
invariant-loop-piece g l = record {
  lies : LiesIn l.ends (g.S.ItemSource.entries l.items) l.place;
  bytes : l.piece.items ++ from_place l.ends (g.S.ItemSource.entries l.items) l.place ≡ from_place l.ends (g.S.ItemSource.entries l.items) l.fn.self;
  room : length l.piece.items ≤ l.limit;
}

abbrev pub decreases-loop-piece : goal.decreases-loop-piece
decreases-loop-piece g l = rank (length (g.S.ItemSource.entries l.items)) l.place.part + (l.limit - length l.piece.items)
