use Rattle.std.proofs.Common.{rules, ◌≡◌, ◌++◌, ◌∷◌, [], arith, ap, ◌∙◌, length, min}
use Rattle.xt_base.specs.Text.{pieces}
use Rattle.xt_ckpt.specs.Entries.{entries_text}
use Rattle.xt_ckpt.specs.Pieces.{given_bytes, left_of}
use Rattle.xt_ckpt.proofs.Pieces.{cut_more, some_rest}
use Rattle.xt_ckpt.proofs.Written.{are_few, is_text}
use Rattle.xt_ckpt.proofs.writing.write_pieces.Goals as goal

pub loop-pieces-preserved : goal.loop-pieces-preserved
loop-pieces-preserved g c =
    let items = g.S.ItemSource.entries c.args.items.now in
    let rest = left_of items c.loop-pieces.writer in
    let left = left_of items c.try_next.new.self in
    let piece = c.in-Some.piece in
    let parts : rest ≡ piece ++ left = c.in_ok-piece.ensures.bytes ∙ ap (λ given. given_bytes given ++ left) c.in-Some.is in
    let size : length piece ≡ min 4096 (length rest) = search rules in
    let some = some_rest rest c.in_ok-piece.field-0 piece c.in-Some.is c.in_ok-piece.ensures.none in
    let pushed : c.push.new.self.items ≡ c.loop-pieces.pieces.items ++ piece ∷ [] = search rules in
    record {
      of = c.in_ok-piece.ensures.same;
      pieces = ap (λ ps. ps ++ pieces left) pushed ∙ cut_more c.loop-pieces.pieces.items rest piece left (pieces (entries_text c.args.size c.args.no items)) some parts size c.loop-pieces.invariant.pieces;
    }

pub loop-pieces-init : goal.loop-pieces-init
loop-pieces-init g c =
    let items = g.S.ItemSource.entries c.args.items.now in
    let none : c.in_ok-pieces.pieces.items ≡ [] = search rules in
    record {
      of = c.at_front-writer.ensures.of items (search rules);
      pieces = ap (λ ps. ps ++ pieces (left_of items c.at_front-writer.result)) none ∙ ap pieces (c.at_front-writer.ensures.text items (search rules));
    }

pub returns-clause-grammar : goal.returns-clause-grammar
returns-clause-grammar g c =
    let cut : c.loop-pieces.pieces.items ≡ pieces (entries_text c.args.size c.args.no (g.S.ItemSource.entries c.args.items.now)) = search rules in
    is_text c.args.size c.args.no (g.S.ItemSource.entries c.args.items.now) c.loop-pieces.pieces.items cut c.requires.size c.requires.fits c.requires.number (search rules) c.requires.count.0 c.requires.count.1 c.are_stored.ensures c.requires.form c.requires.rising

pub returns-clause-few : goal.returns-clause-few
returns-clause-few g c =
    let cut : c.loop-pieces.pieces.items ≡ pieces (entries_text c.args.size c.args.no (g.S.ItemSource.entries c.args.items.now)) = search rules in
    are_few c.args.size c.args.no (g.S.ItemSource.entries c.args.items.now) c.loop-pieces.pieces.items cut (omega (arith, c.checkpoint_len.ensures.value, c.checkpoint_len.ensures.range)) c.requires.form
