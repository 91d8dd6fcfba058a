use Rattle.std.proofs.Common.{◌≡◌, ◌∙◌, ◌+◌, ◌-◌, ◌≤◌, arith, length, sym, ap, subst}
use Rattle.xt_ckpt.specs.Grammar.{size_field}
use Rattle.xt_ckpt.proofs.Entries.{some_cost}
use Rattle.xt_ckpt.specs.Entries.{content_at}
use Rattle.xt_ckpt.specs.Pieces.{IsPart, part_len}
use Rattle.xt_ckpt.proofs.Places.{left_is, left_len}
use Rattle.xt_ckpt.proofs.place.Place.left.Goals as goal

pub returns-in-Front : goal.returns-in-Front
returns-in-Front g c =
    let ends = c.args.ends.now in
    let items = g.S.ItemSource.entries c.args.items.now in
    let lies = c.requires.lies in
    ap (λ n. n - c.args.self.done + c.len_from.result + 16) c.front_len.ensures.value ∙ ap (λ n. 16 + length (size_field ends.size) - c.args.self.done + n + 16) c.len_from.ensures.value
    ∙ ap (left_len ends items c.args.self.done) (sym c.in-Front.is)
    ∙ left_is ends items c.args.self.done c.args.self.part c.requires.form lies.part lies.done

pub returns-in-Fields : goal.returns-in-Fields
returns-in-Fields g c =
    let ends = c.args.ends.now in
    let items = g.S.ItemSource.entries c.args.items.now in
    let lies = c.requires.lies in
    ap (λ n. n - c.args.self.done + 16) c.len_from-in-Fields.ensures.value
    ∙ ap (left_len ends items c.args.self.done) (sym c.in-Fields.is)
    ∙ left_is ends items c.args.self.done c.args.self.part c.requires.form lies.part lies.done

pub overflow_sub-result-in-Fields : goal.overflow_sub-result-in-Fields
overflow_sub-result-in-Fields g c =
    let items = g.S.ItemSource.entries c.args.items.now in
    let lies = subst (λ part. IsPart (length items) part × (c.args.self.done ≤ part_len c.args.ends.now items part)) c.in-Fields.is (c.requires.lies.part, c.requires.lies.done) in
    omega (arith, lies.1, c.len_from-in-Fields.ensures.value, some_cost items c.in-Fields.index lies.0)

pub returns-in-Content : goal.returns-in-Content
returns-in-Content g c =
    let ends = c.args.ends.now in
    let items = g.S.ItemSource.entries c.args.items.now in
    let lies = c.requires.lies in
    let content : length c.content_at.result.now ≡ length (content_at items c.in-Content.index) = ap length c.content_at.ensures in
    ap (λ n. n - c.args.self.done + c.len_from-in-Content.result + 16) content
    ∙ ap (λ n. length (content_at items c.in-Content.index) - c.args.self.done + n + 16) c.len_from-in-Content.ensures.value
    ∙ ap (left_len ends items c.args.self.done) (sym c.in-Content.is)
    ∙ left_is ends items c.args.self.done c.args.self.part c.requires.form lies.part lies.done
