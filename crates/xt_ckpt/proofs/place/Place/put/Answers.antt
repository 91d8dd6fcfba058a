use Rattle.std.proofs.Common.{◌∙◌, ◌<◌, IfOk, length, sym, ap, subst}
use Rattle.xt_ckpt.specs.Entries.{block_at}
use Rattle.xt_ckpt.specs.Pieces.{IsPart, IsPut, field_bytes, part_bytes}
use Rattle.xt_ckpt.proofs.Places.{fields_asked}
use Rattle.xt_ckpt.proofs.place.Place.put.Goals as goal

pub returns-in-Fields : goal.returns-in-Fields
returns-in-Fields g c =
    let items = g.S.ItemSource.entries c.args.items.now in
    let part : c.in-Fields.index < length items = subst (IsPart (length items)) c.in-Fields.is c.requires.lies.part in
    let fields = c.fields-fields.ensures ∙ ap (λ b. field_bytes b c.chunks_at.result) c.block_at.ensures ∙ ap (field_bytes (block_at items c.in-Fields.index)) c.chunks_at.ensures ∙ fields_asked items c.in-Fields.index part in
    subst (λ bytes. IfOk c.put_from-in-Fields.result (IsPut bytes c.args.self.done c.args.limit c.args.out.now.items c.put_from-in-Fields.new.out.items))
    (fields ∙ ap (part_bytes c.args.ends.now items) (sym c.in-Fields.is)) c.put_from-in-Fields.ensures

pub returns-in-End : goal.returns-in-End
returns-in-End g c =
    subst (λ bytes. IfOk c.put_from-in-End.result (IsPut bytes c.args.self.done c.args.limit c.args.out.now.items c.put_from-in-End.new.out.items))
    (c.end.ensures ∙ ap (part_bytes c.args.ends.now (g.S.ItemSource.entries c.args.items.now)) (sym c.in-End.is)) c.put_from-in-End.ensures
