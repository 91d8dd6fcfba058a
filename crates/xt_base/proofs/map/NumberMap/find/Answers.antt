use Rattle.std.proofs.Common.{◌≡◌, ◌∙◌, ◌<◌, ◌≤◌, ap, arith, false, length, sym, ℕ}
use Rattle.xt_base.specs.Maps.{at, is_in}
use Rattle.xt_base.specs.Places.{place}
use Rattle.xt_base.proofs.PlaceLemmas.{absent_last, absent_there, at_place, one_there}
use Rattle.xt_base.proofs.map.NumberMap.find.Goals as goal
use Rattle.xt_base.proofs.map.NumberMap.find.Goals.{else-at-len-via-then-at-len+else-index-key, else-at-len-via-else-at-len}

pub returns-then-index-key-clause-there : goal.returns-then-index-key-clause-there
returns-then-index-key-clause-there g c =
    let is = c.place_of-at.ensures.value ∙ ap (place c.args.key) c.deref.ensures.value in
    let lt : c.place_of-at.result < length c.self.inside.entries.items = omega arith in
    let found = c.index-then-index-key.ensures ∙ one_there c.self.inside.entries.items c.place_of-at.result c.index-then-index-key.result.now c.index.result.now lt ∙ sym c.index.ensures in
    sym (at_place c.args.key c.self.inside.entries.items c.place_of-at.result c.index-then-index-key.result.now is lt c.index-then-index-key.ensures (ap (λ (e : ℕ × _). e.0) found ∙ c.if-index-key.true)
    ∙ ap (at c.args.key) c.self.view_is)

pub returns-else-at-len-clause-place : goal.returns-else-at-len-clause-place
returns-else-at-len-clause-place g c =
    let is = c.place_of-at.ensures.value ∙ ap (place c.args.key) c.deref.ensures.value in
    let absent : is_in c.args.key c.self.inside.entries.items ≡ false = elim c.else-at-len.branch [
      | else-at-len-via-then-at-len+else-index-key w ↦ absent_there c.args.key c.self.inside.entries.items c.place_of-at.result w.index.result.now c.self.invariant.2 is w.index.ensures w.if-index-key.false
      | else-at-len-via-else-at-len w ↦ let le : length c.self.inside.entries.items ≤ c.place_of-at.result = omega arith in
          absent_last c.args.key c.self.inside.entries.items c.place_of-at.result c.self.invariant.2 is le
    ] in
    (is ∙ ap (place c.args.key) c.self.view_is, ap (is_in c.args.key) (sym c.self.view_is) ∙ absent)
