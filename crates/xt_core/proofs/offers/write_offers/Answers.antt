use Rattle.std.proofs.Common.{◌∙◌, ◌++◌, ◌∷◌, [], List, ap, false, get_or, subst, sym}
use Rattle.std.proofs.lemmas.List.Elements.{All-get_or}
use Rattle.xt_base.specs.Text.{content_at}
use Rattle.xt_base.specs.declared.steps.HomeOffer.{HomeOffer}
use Rattle.xt_core.proofs.OfferLemmas.{writes_more}
use Rattle.xt_core.proofs.offers.write_offers.Goals as goal
use Rattle.xt_mount.specs.Slots.{IsUnchangedIn, contents_in, form_in}

pub loop-i-preserved : goal.loop-i-preserved
loop-i-preserved c =
    let size = (form_in c.args.slot.now.mounted).size in
    let contents = contents_in c.args.slot.now.mounted in
    let block = c.index-blocks-i.result in
    c.in_ok-push.ensures.items ∙ ap (λ (o : HomeOffer). c.loop-i.offers.items ++ o ∷ []) c.in_ok-write_offer.ensures
    ∙ ap (λ (xs : List HomeOffer). xs ++ HomeOffer.Write block (content_at size block contents) (get_or c.args.answers.now c.loop-i.i false) ∷ []) c.loop-i.invariant
    ∙ sym (writes_more size contents c.args.blocks.now c.args.answers.now c.loop-i.i block false c.loop-i-test.true c.requires.answered c.index-blocks-i.is)

pub write_offer-requires-clause-unchanged : goal.write_offer-requires-clause-unchanged
write_offer-requires-clause-unchanged c =
    subst (λ b. IsUnchangedIn b c.args.slot.now.mounted) (sym c.index-blocks-i.is)
    (All-get_or (λ b. IsUnchangedIn b c.args.slot.now.mounted) c.args.blocks.now c.loop-i.i c.index-blocks-i.result c.loop-i-test.true c.requires.unchanged)
