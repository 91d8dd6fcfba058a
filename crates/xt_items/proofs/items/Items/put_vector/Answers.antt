use Rattle.std.proofs.Common.{◌≡◌, ◌∙◌, List, ap, subst, sym, ℕ}
use Rattle.std.specs.Prelude.{is_some, not, sum_by}
use Rattle.xt_base.proofs.RisingLemmas.{each_put}
use Rattle.xt_base.specs.Maps.{is_in, put}
use Rattle.xt_base.specs.Sound.{Each}
use Rattle.xt_base.specs.Space.{item_cost}
use Rattle.xt_items.proofs.NewLemmas.{chunks_stand, in_chunks}
use Rattle.xt_items.proofs.items.Items.put_vector.Goals as goal
use Rattle.xt_items.proofs.items.Items.put_vector.Goals.{then-not-has_item, else-not-has_item}
use Rattle.xt_items.specs.Lists.{HasFewChunks, Lists}
use Rattle.xt_vectors.specs.Vectors.{Vector}
use Rattle.xt_items.specs.declared.items.Items.TheInside.{Inside}

pub invariant_of-self : goal.invariant_of-self
invariant_of-self c =
    let block = c.args.block in
    let now = c.self.inside in
    let after = c.if-not-has_item.self-inside in
    let chunks = c.chunks-chunks.result in
    elim c.if-not-has_item.branch [
      | then-not-has_item w ↦
          let vectors = c.keep_vector.ensures ∙ ap (λ (i : Inside). put block c.args.vector i.vectors) w.self-inside-is in
          let cil : after.cil ≡ put block chunks now.cil = ap (λ (i : Inside). i.cil) w.self-inside-is ∙ w.put.ensures in (
            chunks_stand block c.args.vector now.vectors c.keep_vector.new.vectors now.cil after.cil c.self.invariant.0 vectors (cil ∙ ap (λ s. put block s now.cil) c.chunks-chunks.ensures),
            ap (λ (i : Inside). i.weight) w.self-inside-is ∙ w.weight_with-weight.ensures.value ∙ ap (λ (l : Lists). sum_by item_cost (put block chunks l.cil)) (sym c.self.view_is) ∙ ap (sum_by item_cost) (sym cil),
            subst (Each HasFewChunks) (sym cil) (each_put HasFewChunks block chunks now.cil w.weight_with-weight.ensures.few c.self.invariant.2),
          )
      | else-not-has_item w ↦
          let vectors = c.keep_vector.ensures ∙ ap (λ (i : Inside). put block c.args.vector i.vectors) w.self-inside-is in
          let same : after.cil ≡ now.cil = ap (λ (i : Inside). i.cil) w.self-inside-is in
          let view = ap (λ (l : Lists). l.cil) c.self.view_is in
          let cil : after.cil ≡ put block chunks now.cil = same ∙ view ∙ sym (c.has_item.ensures w.if-not-has_item.false) ∙ ap (put block chunks) (sym view) in (
            chunks_stand block c.args.vector now.vectors c.keep_vector.new.vectors now.cil after.cil c.self.invariant.0 vectors (cil ∙ ap (λ s. put block s now.cil) c.chunks-chunks.ensures),
            ap (λ (i : Inside). i.weight) w.self-inside-is ∙ c.self.invariant.1 ∙ ap (sum_by item_cost) (sym same),
            subst (Each HasFewChunks) (sym same) c.self.invariant.2,
          )
    ]

pub keep_vector-requires : goal.keep_vector-requires
keep_vector-requires c =
    let block = c.args.block in
    let there = sym (in_chunks block c.self.inside.vectors) ∙ ap (is_in block) c.self.invariant.0 ∙ ap (λ (l : Lists). is_in block l.cil) c.self.view_is ∙ ap is_some (sym c.requires.before) ∙ c.is_none.ensures ∙ ap not c.if-is_none.false in
    elim c.if-not-has_item.branch [
      | then-not-has_item w ↦ ap (λ (i : Inside). is_in block i.vectors) w.self-inside-is ∙ there
      | else-not-has_item w ↦ ap (λ (i : Inside). is_in block i.vectors) w.self-inside-is ∙ there
    ]

-- the lists, with these log vectors
abbrev with_vectors : List (ℕ × Vector) → Inside → Lists
with_vectors vs i = record { open_number = i.open_number; cil = i.cil; vectors = vs; flight = i.flight; ail = i.ail }

-- a block's item and its log vector are put in
abbrev with_item : ℕ → Vector → Lists → Lists
with_item b v l = record l { cil = put b v.chunks l.cil; vectors = put b v l.vectors }

pub returns : goal.returns
returns c =
    let block = c.args.block in
    let now = c.self.inside in
    let new = c.keep_vector.new.vectors in
    let chunks = ap (λ s. put block s now.cil) c.chunks-chunks.ensures in
    elim c.if-not-has_item.branch [
      | then-not-has_item w ↦
          let vectors = c.keep_vector.ensures ∙ ap (λ (i : Inside). put block c.args.vector i.vectors) w.self-inside-is in
          ap (with_vectors new) w.self-inside-is ∙ ap (λ cs. record (with_vectors new now) { cil = cs }) (w.put.ensures ∙ chunks)
          ∙ ap (λ vs. record (with_vectors vs now) { cil = put block c.args.vector.chunks now.cil }) vectors ∙ ap (with_item block c.args.vector) c.self.view_is
      | else-not-has_item w ↦
          let vectors = c.keep_vector.ensures ∙ ap (λ (i : Inside). put block c.args.vector i.vectors) w.self-inside-is in
          let view = ap (λ (l : Lists). l.cil) c.self.view_is in
          let stays = view ∙ sym (c.has_item.ensures w.if-not-has_item.false) ∙ ap (put block c.chunks-chunks.result) (sym view) in
          ap (with_vectors new) w.self-inside-is ∙ ap (λ cs. record (with_vectors new now) { cil = cs }) (stays ∙ chunks)
          ∙ ap (λ vs. record (with_vectors vs now) { cil = put block c.args.vector.chunks now.cil }) vectors ∙ ap (with_item block c.args.vector) c.self.view_is
    ]
