use Rattle.std.proofs.Common.{◌≡◌, ◌∙◌, ◌≤◌, ap, length, arith, subst, sym}
use Rattle.xt_base.specs.Maps.{is_in, put}
use Rattle.xt_base.specs.Places.{place}
use Rattle.xt_base.specs.Sound.{IsRising}
use Rattle.xt_base.proofs.MapLemmas.{length_put_le}
use Rattle.xt_base.proofs.PlaceLemmas.{put_behind}
use Rattle.xt_base.proofs.RisingLemmas.{rises_put}
use Rattle.xt_base.proofs.map.NumberMap.insert_at.Goals as goal

pub invariant_of-self : goal.invariant_of-self
invariant_of-self g c =
    let is = c.requires.place ∙ ap (place c.args.key) (sym c.self.view_is) in
    let absent = ap (is_in c.args.key) c.self.view_is ∙ c.requires.absent in
    let behind : length c.self.inside.entries.items ≤ c.args.at = omega (arith, c.len.ensures, c.if-at-len.false) in
    let whole : c.push.new.self.items ≡ put c.args.key c.args.value c.self.inside.entries.items =
    c.in-Ok.ensures.items ∙ put_behind c.args.key c.args.value c.self.inside.entries.items c.args.at is absent behind in (
      omega (arith, c.requires.room, ap length c.self.view_is, ap length whole, length_put_le c.args.key c.args.value c.self.inside.entries.items),
      omega (arith, c.push.ensures.capacity, c.self.invariant.1),
      subst IsRising (sym whole) (rises_put 0 c.args.key c.args.value c.self.inside.entries.items (omega arith) c.self.invariant.2),
    )

pub returns : goal.returns
returns g c =
    let is = c.requires.place ∙ ap (place c.args.key) (sym c.self.view_is) in
    let absent = ap (is_in c.args.key) c.self.view_is ∙ c.requires.absent in
    let behind : length c.self.inside.entries.items ≤ c.args.at = omega (arith, c.len.ensures, c.if-at-len.false) in
    c.in-Ok.ensures.items ∙ put_behind c.args.key c.args.value c.self.inside.entries.items c.args.at is absent behind ∙ ap (put c.args.key c.args.value) c.self.view_is
