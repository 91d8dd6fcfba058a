use Rattle.std.proofs.Common.{rules, subst, sym, IsErrOf}
use Rattle.xt_volumes.proofs.VolumeLemmas.{apart_there, ascending_placed, refused_beside}
use Rattle.xt_volumes.specs.declared.fault.VolumeFault.TheVariants.{Slot as SlotRefused}
use Rattle.xt_volumes.specs.Volumes.{AreAscending}
use Rattle.xt_volumes.proofs.volume.add.Goals as goal

-- it goes to the place of its slot, and the one that stood there has another
pub returns-clause-ascending : goal.returns-clause-ascending
returns-clause-ascending c =
    let got = rw c.deref-2.ensures.value at c.get.ensures.lookup in
    let vs = c.args.volumes.now.items in
    let apart = apart_there vs c.args.volume c.place-place.result c.get.result got.3 c.in_ok-refused.ensures.apart in
    let placed = ascending_placed vs c.args.volume c.place-place.result (rw c.deref.ensures.value at c.place-place.ensures.value) (rw c.deref.ensures.value at c.place-place.ensures.range) apart c.requires.ascending in
    subst AreAscending (sym c.in-Ok.ensures.items) placed

-- or it is refused by the one that stands there, or for its sizes
pub returns-in_err-refused-clause-refused : goal.returns-in_err-refused-clause-refused
returns-in_err-refused-clause-refused c = λ slot errno is.
    let got = rw c.deref-2.ensures.value at c.get.ensures.lookup in
    let err : IsErrOf c.refused.result (SlotRefused slot errno) = search (rules, is) in
    let why = c.refused.ensures.errno slot errno err in (
      why.0,
      refused_beside c.args.volumes.now.items c.args.volume c.place-place.result c.get.result errno (rw c.deref.ensures.value at c.place-place.ensures.value) got.3 c.requires.ascending why.1
          (λ b. c.refused.ensures.busy slot (subst (λ e. IsErrOf c.refused.result (SlotRefused slot e)) b err))
          (λ n. c.refused.ensures.invalid slot (subst (λ e. IsErrOf c.refused.result (SlotRefused slot e)) n err)),
    )
