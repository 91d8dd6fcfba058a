use Rattle.std.proofs.Common.{◌≡◌, ◌∙◌, ap, false, sym, true}
use Rattle.std.proofs.lemmas.Bool.{false≢true}
use Rattle.std.specs.Prelude.{is_some}
use Rattle.xt_base.specs.Maps.{is_in}
use Rattle.xt_base.specs.Places.{place}
use Rattle.xt_items.proofs.NewLemmas.{in_chunks, place_chunks}
use Rattle.xt_items.proofs.items.put_both.Goals as goal

pub unreachable-requires : goal.unreachable-requires
unreachable-requires c =
    let block = c.args.block in
    let there : is_in block c.args.vectors.now ≡ true = ap is_some c.in-Ok.ensures.there in
    let absent : is_in block c.args.vectors.now ≡ false = sym (in_chunks block c.args.vectors.now) ∙ ap (is_in block) c.requires.tied ∙ ap is_some c.requires.absent in
    false≢true (sym absent ∙ there)

pub insert_at-requires-clause-place : goal.insert_at-requires-clause-place
insert_at-requires-clause-place c = c.in-Err.ensures.place.0 ∙ place_chunks c.args.block c.args.vectors.now ∙ ap (place c.args.block) c.requires.tied
