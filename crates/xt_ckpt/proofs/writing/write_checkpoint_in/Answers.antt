use Rattle.std.proofs.Common.{◌≡◌, ◌∙◌, IfOk, ap, length, slice_index_or, subst, sym}
use Rattle.std.specs.List.{flat_map}
use Rattle.xt_base.proofs.TextLemmas.{plain_text, sized_text}
use Rattle.xt_base.specs.Sized.{IsWithin}
use Rattle.xt_base.specs.Text.{pieces as pieces_of, sized_text_with}
use Rattle.xt_ckpt.specs.Entries.{entry_bytes}
use Rattle.xt_ckpt.proofs.Sizes.{within_fits}
use Rattle.xt_ckpt.proofs.writing.write_checkpoint_in.Goals as goal

pub write_pieces-requires-clause-fits : goal.write_pieces-requires-clause-fits
write_pieces-requires-clause-fits g c k d less =
    let e = slice_index_or (g.S.ItemSource.entries c.args.items.now) k d in
    within_fits c.size.result e (c.are_stored.ensures k d less) (subst (λ size. IsWithin size e.chunks) (sym c.size.ensures.value) (c.requires.within k d less))

pub returns-then-is_sized-clause-text : goal.returns-then-is_sized-clause-text
returns-then-is_sized-clause-text g c =
    let items = g.S.ItemSource.entries c.args.items.now in
    let body = flat_map entry_bytes items in
    let says = sized_text c.args.form c.args.no (length items) body (sym c.is_sized.ensures ∙ c.if-is_sized.true) in
    subst (λ text. IfOk c.write_pieces.result (λ pieces. pieces.items ≡ pieces_of text)) (ap (λ size. sized_text_with size c.args.no (length items) body) c.size.ensures.value ∙ sym says) c.write_pieces.ensures.text

pub returns-else-is_sized-clause-text : goal.returns-else-is_sized-clause-text
returns-else-is_sized-clause-text g c =
    let items = g.S.ItemSource.entries c.args.items.now in
    let body = flat_map entry_bytes items in
    let says_not = plain_text c.args.form c.args.no (length items) body (sym c.is_sized.ensures ∙ c.if-is_sized.false) in
    subst (λ text. IfOk c.write_pieces-else-is_sized.result (λ pieces. pieces.items ≡ pieces_of text)) (sym says_not) c.write_pieces-else-is_sized.ensures.text
