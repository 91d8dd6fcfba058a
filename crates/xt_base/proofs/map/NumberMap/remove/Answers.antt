use Rattle.std.proofs.Common.{◌≡◌, ◌∙◌, ◌<◌, ◌≤◌, ap, false, subst, sym, length, arith, ℕ}
use Rattle.xt_base.specs.Maps.{at, is_in, without}
use Rattle.xt_base.specs.Places.{place}
use Rattle.xt_base.specs.Sound.{IsRising}
use Rattle.xt_base.proofs.PlaceLemmas.{absent_after, absent_last, absent_there, at_place, none_last, none_there, one_there, rest_place, rises_remove, without_absent}
use Rattle.xt_base.proofs.map.NumberMap.remove.Goals as goal
use Rattle.xt_base.proofs.map.NumberMap.remove.Goals.{else-at-len-via-then-at-len+else-index-key, else-at-len-via-else-at-len}

pub returns-then-index-key-clause-value : goal.returns-then-index-key-clause-value
returns-then-index-key-clause-value g c =
    let is = c.place_of-at.ensures.value ∙ ap (place c.args.key) c.deref.ensures.value in
    let lt : c.place_of-at.result < length c.self.inside.entries.items = omega arith in
    let found = c.remove-value.ensures.value ∙ one_there c.self.inside.entries.items c.place_of-at.result c.remove-value.result c.index.result.now lt ∙ sym c.index.ensures in
    at_place c.args.key c.self.inside.entries.items c.place_of-at.result c.remove-value.result is lt c.remove-value.ensures.value (ap (λ (e : ℕ × _). e.0) found ∙ c.if-index-key.true)
    ∙ ap (at c.args.key) c.self.view_is

pub returns-then-index-key-clause-rest : goal.returns-then-index-key-clause-rest
returns-then-index-key-clause-rest g c =
    let is = c.place_of-at.ensures.value ∙ ap (place c.args.key) c.deref.ensures.value in
    let lt : c.place_of-at.result < length c.self.inside.entries.items = omega arith in
    rest_place c.args.key c.self.inside.entries.items _ c.place_of-at.result c.index.result.now is lt c.index.ensures c.if-index-key.true c.remove-value.ensures.items ∙ ap (without c.args.key) c.self.view_is

pub returns-then-index-key-clause-gone : goal.returns-then-index-key-clause-gone
returns-then-index-key-clause-gone g c =
    let is = c.place_of-at.ensures.value ∙ ap (place c.args.key) c.deref.ensures.value in
    let lt : c.place_of-at.result < length c.self.inside.entries.items = omega arith in
    ap (is_in c.args.key) (rest_place c.args.key c.self.inside.entries.items _ c.place_of-at.result c.index.result.now is lt c.index.ensures c.if-index-key.true c.remove-value.ensures.items)
    ∙ absent_after 0 c.args.key c.self.inside.entries.items c.self.invariant.2

pub returns-else-at-len-clause-value : goal.returns-else-at-len-clause-value
returns-else-at-len-clause-value g c =
    let is = c.place_of-at.ensures.value ∙ ap (place c.args.key) c.deref.ensures.value in
    elim c.else-at-len.branch [
      | else-at-len-via-then-at-len+else-index-key w ↦ none_there c.args.key c.self.inside.entries.items c.place_of-at.result w.index.result.now c.self.invariant.2 is w.index.ensures w.if-index-key.false ∙ ap (at c.args.key) c.self.view_is
      | else-at-len-via-else-at-len w ↦ let le : length c.self.inside.entries.items ≤ c.place_of-at.result = omega arith in
          none_last c.args.key c.self.inside.entries.items c.place_of-at.result c.self.invariant.2 is le ∙ ap (at c.args.key) c.self.view_is
    ]

pub returns-else-at-len-clause-rest : goal.returns-else-at-len-clause-rest
returns-else-at-len-clause-rest g c =
    let is = c.place_of-at.ensures.value ∙ ap (place c.args.key) c.deref.ensures.value in
    let absent : is_in c.args.key c.self.inside.entries.items ≡ false = elim c.else-at-len.branch [
      | else-at-len-via-then-at-len+else-index-key w ↦ absent_there c.args.key c.self.inside.entries.items c.place_of-at.result w.index.result.now c.self.invariant.2 is w.index.ensures w.if-index-key.false
      | else-at-len-via-else-at-len w ↦ let le : length c.self.inside.entries.items ≤ c.place_of-at.result = omega arith in
          absent_last c.args.key c.self.inside.entries.items c.place_of-at.result c.self.invariant.2 is le
    ] in
    sym c.self.view_is ∙ without_absent c.args.key c.self.inside.entries.items absent ∙ ap (without c.args.key) c.self.view_is

pub returns-else-at-len-clause-gone : goal.returns-else-at-len-clause-gone
returns-else-at-len-clause-gone g c =
    let is = c.place_of-at.ensures.value ∙ ap (place c.args.key) c.deref.ensures.value in
    let absent : is_in c.args.key c.self.inside.entries.items ≡ false = elim c.else-at-len.branch [
      | else-at-len-via-then-at-len+else-index-key w ↦ absent_there c.args.key c.self.inside.entries.items c.place_of-at.result w.index.result.now c.self.invariant.2 is w.index.ensures w.if-index-key.false
      | else-at-len-via-else-at-len w ↦ let le : length c.self.inside.entries.items ≤ c.place_of-at.result = omega arith in
          absent_last c.args.key c.self.inside.entries.items c.place_of-at.result c.self.invariant.2 is le
    ] in
    ap (is_in c.args.key) (sym c.self.view_is) ∙ absent

pub invariant_of-self : goal.invariant_of-self
invariant_of-self g c = (
  omega (arith, c.remove-value.ensures.len, c.self.invariant.0),
  omega (arith, c.remove-value.ensures.capacity, c.self.invariant.1),
  subst IsRising (sym c.remove-value.ensures.items) (rises_remove 0 c.self.inside.entries.items c.place_of-at.result c.self.invariant.2),
)
