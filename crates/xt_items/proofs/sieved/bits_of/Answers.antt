use Rattle.std.proofs.Common.{◌≡◌, ◌∙◌, add-one, ap, arith, length, subst, sym, take}
use Rattle.std.proofs.Math.Seq.{take-length}
use Rattle.xt_items.proofs.SieveLemmas.{one_passed}
use Rattle.xt_items.proofs.sieved.bits_of.Goals as goal
use Rattle.xt_items.specs.Sieves.{ArePassed}

pub loop-entry-preserved : goal.loop-entry-preserved
loop-entry-preserved g c =
    let es = c.args.entries.now in
    let i = c.loop-entry.entry-index in
    let bits = c.with_key-bits.result in
    subst (λ n. ArePassed bits (take n es)) (sym (add-one i))
    (one_passed c.loop-entry.bits bits i c.entry-item.result c.entry-item.result es c.with_key-bits.ensures.others c.entry-item.is c.with_key-bits.ensures.key c.loop-entry.invariant)

pub returns : goal.returns
returns g c =
    let es = c.args.entries.now in
    let all : c.loop-entry.entry-index ≡ length es = omega (arith, c.loop-entry-test.false, c.loop-entry.auto.entry-index-end) in
    subst (ArePassed c.loop-entry.bits) (ap (λ n. take n es) all ∙ take-length es) c.loop-entry.invariant
