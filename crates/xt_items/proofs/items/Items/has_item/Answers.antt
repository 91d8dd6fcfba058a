use Rattle.std.proofs.Common.{◌≡◌, ◌∙◌, Some, ap, subst, sym}
use Rattle.xt_base.specs.Chunks.{places_of}
use Rattle.xt_base.specs.Sound.{IsRising}
use Rattle.xt_items.proofs.NewLemmas.{put_standing, same_number}
use Rattle.xt_items.proofs.items.Items.has_item.Goals as goal
use Rattle.xt_items.specs.Lists.{Lists}

pub returns-in-Some : goal.returns-in-Some
returns-in-Some c = λ same.
    let rises = subst IsRising (c.entries-items.ensures.value ∙ ap (λ (l : Lists). l.cil) c.self.view_is) c.entries-items.ensures.rising in
    let chunks : c.in-Some.before ≡ c.args.chunks = sym c.word.ensures.back ∙ ap places_of (same_number c.word.result c.word-in-Some.result same) ∙ c.word-in-Some.ensures.back in
    put_standing c.args.block c.args.chunks c.args.self.now.cil rises (sym c.requires ∙ c.in-Some.is ∙ ap Some chunks)
