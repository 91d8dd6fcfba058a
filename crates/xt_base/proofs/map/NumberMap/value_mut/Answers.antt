use Rattle.std.proofs.Common.{◌≡◌, ◌∙◌, ◌<◌, ap, arith, length, refl, sym, true}
use Rattle.std.proofs.lemmas.List.{length-set}
use Rattle.xt_base.specs.Maps.{at, is_in, put}
use Rattle.xt_base.specs.Places.{place}
use Rattle.xt_base.proofs.LendLemmas.{key_here, key_within, put_lent, rises_lent}
use Rattle.xt_base.proofs.PlaceLemmas.{at_place}
use Rattle.xt_base.proofs.map.NumberMap.value_mut.Goals as goal

pub index_mut-requires : goal.index_mut-requires
index_mut-requires g c =
    let is = c.place_of-at.ensures.value ∙ ap (place c.args.key) c.deref.ensures.value in
    let there : is_in c.args.key c.self.inside.entries.items ≡ true = ap (is_in c.args.key) c.self.view_is ∙ c.requires in
    let within : c.place_of-at.result < length c.self.inside.entries.items = key_within c.args.key c.self.inside.entries.items c.place_of-at.result c.self.invariant.2 is there in
    omega (arith, within)

pub invariant_of-self-lent : goal.invariant_of-self-lent
invariant_of-self-lent g c = λ w.
    let is = c.place_of-at.ensures.value ∙ ap (place c.args.key) c.deref.ensures.value in
    let there : is_in c.args.key c.self.inside.entries.items ≡ true = ap (is_in c.args.key) c.self.view_is ∙ c.requires in (
      omega (arith, length-set c.self.inside.entries.items c.place_of-at.result (c.index_mut.result.now.0, w), c.self.invariant.0),
      c.self.invariant.1,
      rises_lent c.args.key c.self.inside.entries.items c.place_of-at.result c.self.invariant.2 is there c.index_mut.result.now c.index_mut.ensures.value w,
    )

pub returns : goal.returns
returns g c =
    let is = c.place_of-at.ensures.value ∙ ap (place c.args.key) c.deref.ensures.value in
    let there : is_in c.args.key c.self.inside.entries.items ≡ true = ap (is_in c.args.key) c.self.view_is ∙ c.requires in
    let lt = key_within c.args.key c.self.inside.entries.items c.place_of-at.result c.self.invariant.2 is there in
    let here = key_here c.args.key c.self.inside.entries.items c.place_of-at.result c.self.invariant.2 is there c.index_mut.result.now c.index_mut.ensures.value in (
      (refl, λ w. put_lent c.args.key c.self.inside.entries.items c.place_of-at.result c.self.invariant.2 is there c.index_mut.result.now c.index_mut.ensures.value w ∙ ap (put c.args.key w) c.self.view_is),
      record {
        writes_back = tt;
        value = sym (at_place c.args.key c.self.inside.entries.items c.place_of-at.result c.index_mut.result.now is lt c.index_mut.ensures.value here ∙ ap (at c.args.key) c.self.view_is);
      },
    )
