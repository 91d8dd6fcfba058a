-- A sector that is not there yet goes behind the others; one that is there is passed over.
use Rattle.std.proofs.Common.{Global, Vec, ap, arith, get_or, subst, sym, ℕ, ◌≡◌, ◌++◌, ◌∷◌, ◌∙◌, []}
use Rattle.std.specs.List.{IsDistinct}
use Rattle.std.specs.Prelude.{nat_eq}
use Rattle.std.specs.Vec.{vec_capacity, vec_len}
use Rattle.xt_dev.proofs.Doubted.{joined_already, joined_more, one_more}
use Rattle.xt_dev.proofs.doubts.join.Goals as goal
use Rattle.xt_dev.proofs.doubts.join.Goals.{then-not-is_in, else-not-is_in}
use Rattle.xt_dev.specs.Doubting.{is_among}

pub loop-sector-preserved : goal.loop-sector-preserved
loop-sector-preserved c =
    let d = c.loop-sector.doubtful.items in
    let e = c.args.doubtful.now.items in
    let s = c.args.sectors.now in
    let i = c.loop-sector.sector-index in
    let x = get_or s i 0 in
    let seen : is_among d x ≡ c.is_in.result = ap (λ l. is_among l x) (sym c.deref.ensures.value) ∙ sym c.is_in.ensures in
    elim c.if-not-is_in.branch [
      | then-not-is_in w ↦
          let same : c.if-not-is_in.doubtful.items ≡ d ++ x ∷ [] = ap (λ (v : Vec ℕ Global). v.items) w.doubtful-is ∙ w.push_reserved.ensures.items in
          let len = ap (λ (v : Vec ℕ Global). vec_len v) w.doubtful-is in
          let capacity = ap (λ (v : Vec ℕ Global). vec_capacity v) w.doubtful-is in
          record {
            once = subst (λ l. IsDistinct nat_eq l) (sym same) (one_more d x c.loop-sector.invariant.once (seen ∙ w.if-not-is_in.true));
            joined = λ q. ap (λ l. is_among l q) same ∙ joined_more d e s i q c.loop-sector-test.true (c.loop-sector.invariant.joined q);
            room = omega (arith, len, capacity, w.push_reserved.ensures.len, w.push_reserved.ensures.capacity, c.loop-sector.invariant.room);
          }
      | else-not-is_in w ↦
          let same : c.if-not-is_in.doubtful.items ≡ d = ap (λ (v : Vec ℕ Global). v.items) w.doubtful-is in
          let len = ap (λ (v : Vec ℕ Global). vec_len v) w.doubtful-is in
          let capacity = ap (λ (v : Vec ℕ Global). vec_capacity v) w.doubtful-is in
          record {
            once = subst (λ l. IsDistinct nat_eq l) (sym same) c.loop-sector.invariant.once;
            joined = λ q. ap (λ l. is_among l q) same ∙ joined_already d e s i q c.loop-sector-test.true (seen ∙ w.if-not-is_in.false) (c.loop-sector.invariant.joined q);
            room = omega (arith, len, capacity, c.loop-sector.invariant.room);
          }
    ]
