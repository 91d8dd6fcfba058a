use Rattle.xt_ckpt.proofs.Pieces.{concat_pieces, whole_piece, last_piece}
use Rattle.xt_ckpt.proofs.laws.pieces_of_a_text.Goals as goal

pub returns-clause-joined : goal.returns-clause-joined
returns-clause-joined c = concat_pieces

pub returns-clause-whole : goal.returns-clause-whole
returns-clause-whole c = whole_piece

pub returns-clause-last : goal.returns-clause-last
returns-clause-last c = last_piece
