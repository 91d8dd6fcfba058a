use Rattle.std.proofs.Common.{◌≡◌, ◌∙◌, ◌<◌, ◌≤◌, ap, false, length, arith, is_ok, insert, if◌then◌else◌, subst, sym}
use Rattle.std.proofs.lemmas.List.{length-set}
use Rattle.xt_base.specs.Maps.{is_in, put}
use Rattle.xt_base.specs.Places.{place}
use Rattle.xt_base.specs.Sound.{IsRising}
use Rattle.xt_base.proofs.MapLemmas.{length_put_le}
use Rattle.xt_base.proofs.PlaceLemmas.{absent_last, absent_there, put_found, put_there, put_last}
use Rattle.xt_base.proofs.RisingLemmas.{rises_put}
use Rattle.xt_base.proofs.map.NumberMap.put.Goals as goal
use Rattle.xt_base.proofs.map.NumberMap.put.Goals.{else-at-len-via-then-at-len+else-index-key, else-at-len-via-else-at-len}

pub returns-then-index-key : goal.returns-then-index-key
returns-then-index-key g c =
    let lt : c.place_of-at.result < length c.self.inside.entries.items = omega arith in
    put_found c.args.key c.args.value c.self.inside.entries.items c.place_of-at.result c.index.result.now (c.place_of-at.ensures.value ∙ ap (place c.args.key) c.deref.ensures.value) lt c.index.ensures c.if-index-key.true ∙ ap (put c.args.key c.args.value) c.self.view_is

pub returns-else-at-len : goal.returns-else-at-len
returns-else-at-len g c =
    let went = ap is_ok c.unwrap.ensures in
    let left = c.insert.ensures.items ∙ ap (λ b. if b then insert c.self.inside.entries.items c.place_of-at.result (c.args.key, c.args.value) else c.self.inside.entries.items) went in
    elim c.else-at-len.branch [
      | else-at-len-via-then-at-len+else-index-key w ↦ put_there c.args.key c.args.value c.self.inside.entries.items _ c.place_of-at.result w.index.result.now (c.place_of-at.ensures.value ∙ ap (place c.args.key) c.deref.ensures.value) left w.index.ensures w.if-index-key.false ∙ ap (put c.args.key c.args.value) c.self.view_is
      | else-at-len-via-else-at-len w ↦ let le : length c.self.inside.entries.items ≤ c.place_of-at.result = omega arith in
          put_last c.args.key c.args.value c.self.inside.entries.items _ c.place_of-at.result (c.place_of-at.ensures.value ∙ ap (place c.args.key) c.deref.ensures.value) left le ∙ ap (put c.args.key c.args.value) c.self.view_is
    ]

pub unwrap-requires : goal.unwrap-requires
unwrap-requires g c =
    let is = c.place_of-at.ensures.value ∙ ap (place c.args.key) c.deref.ensures.value in
    let absent : is_in c.args.key c.self.inside.entries.items ≡ false = elim c.else-at-len.branch [
      | else-at-len-via-then-at-len+else-index-key w ↦ absent_there c.args.key c.self.inside.entries.items c.place_of-at.result w.index.result.now c.self.invariant.2 is w.index.ensures w.if-index-key.false
      | else-at-len-via-else-at-len w ↦ let le : length c.self.inside.entries.items ≤ c.place_of-at.result = omega arith in
          absent_last c.args.key c.self.inside.entries.items c.place_of-at.result c.self.invariant.2 is le
    ] in
    let few : length c.args.self.now < 128 = c.requires (sym (ap (is_in c.args.key) c.self.view_is) ∙ absent) in
    c.insert.ensures.succeeds (omega (arith, few, ap length c.self.view_is, c.self.invariant.1))

pub invariant_of-self-else-at-len : goal.invariant_of-self-else-at-len
invariant_of-self-else-at-len g c =
    let is = c.place_of-at.ensures.value ∙ ap (place c.args.key) c.deref.ensures.value in
    let absent : is_in c.args.key c.self.inside.entries.items ≡ false = elim c.else-at-len.branch [
      | else-at-len-via-then-at-len+else-index-key w ↦ absent_there c.args.key c.self.inside.entries.items c.place_of-at.result w.index.result.now c.self.invariant.2 is w.index.ensures w.if-index-key.false
      | else-at-len-via-else-at-len w ↦ let le : length c.self.inside.entries.items ≤ c.place_of-at.result = omega arith in
          absent_last c.args.key c.self.inside.entries.items c.place_of-at.result c.self.invariant.2 is le
    ] in
    let few : length c.args.self.now < 128 = c.requires (sym (ap (is_in c.args.key) c.self.view_is) ∙ absent) in
    let went = ap is_ok c.unwrap.ensures in
    let left = c.insert.ensures.items ∙ ap (λ b. if b then insert c.self.inside.entries.items c.place_of-at.result (c.args.key, c.args.value) else c.self.inside.entries.items) went in
    let whole : c.insert.new.self.items ≡ put c.args.key c.args.value c.self.inside.entries.items = elim c.else-at-len.branch [
      | else-at-len-via-then-at-len+else-index-key w ↦ put_there c.args.key c.args.value c.self.inside.entries.items _ c.place_of-at.result w.index.result.now is left w.index.ensures w.if-index-key.false
      | else-at-len-via-else-at-len w ↦ let le : length c.self.inside.entries.items ≤ c.place_of-at.result = omega arith in
          put_last c.args.key c.args.value c.self.inside.entries.items _ c.place_of-at.result is left le
    ] in (
      omega (arith, few, ap length c.self.view_is, ap length whole, length_put_le c.args.key c.args.value c.self.inside.entries.items),
      omega (arith, c.insert.ensures.capacity, c.self.invariant.1),
      subst IsRising (sym whole) (rises_put 0 c.args.key c.args.value c.self.inside.entries.items (omega arith) c.self.invariant.2),
    )

pub invariant_of-self : goal.invariant_of-self
invariant_of-self g c =
    let lt : c.place_of-at.result < length c.self.inside.entries.items = omega arith in
    let whole = put_found c.args.key c.args.value c.self.inside.entries.items c.place_of-at.result c.index.result.now (c.place_of-at.ensures.value ∙ ap (place c.args.key) c.deref.ensures.value) lt c.index.ensures c.if-index-key.true in (
      omega (arith, length-set c.self.inside.entries.items c.place_of-at.result (c.args.key, c.args.value), c.self.invariant.0),
      c.self.invariant.1,
      subst IsRising (sym whole) (rises_put 0 c.args.key c.args.value c.self.inside.entries.items (omega arith) c.self.invariant.2),
    )
