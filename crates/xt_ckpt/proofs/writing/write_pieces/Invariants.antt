use Rattle.std.proofs.Common.{◌≡◌, ◌++◌, length}
use Rattle.xt_base.specs.Text.{pieces as pieces_of}
use Rattle.xt_ckpt.specs.Entries.{entries_text}
use Rattle.xt_ckpt.specs.Pieces.{IsFor, left_of}
use Rattle.xt_ckpt.proofs.writing.write_pieces.Given as goal

abbrev pub invariant-loop-pieces : goal.invariant-loop-pieces
invariant-loop-pieces g l = record {
  of : IsFor (g.S.ItemSource.entries l.items) l.writer;
  pieces : l.pieces.items ++ pieces_of (left_of (g.S.ItemSource.entries l.items) l.writer) ≡ pieces_of (entries_text l.fn.size l.fn.no (g.S.ItemSource.entries l.items));
}

abbrev pub decreases-loop-pieces : goal.decreases-loop-pieces
decreases-loop-pieces g l = length (left_of (g.S.ItemSource.entries l.items) l.writer)
