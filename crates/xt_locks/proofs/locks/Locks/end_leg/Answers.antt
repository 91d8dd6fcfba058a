use Rattle.std.proofs.Common.{◌≡◌, ◌<◌, ap, arith, false, length, true}
use Rattle.xt_locks.specs.Locking.{Owners}
use Rattle.xt_locks.proofs.PassLemmas.{passes_more}
use Rattle.xt_locks.proofs.locks.Locks.end_leg.Goals as goal

pub loop-index-preserved-then-pass_at : goal.loop-index-preserved-then-pass_at
loop-index-preserved-then-pass_at g c =
    let same : length c.self.inside.owners ≡ length c.loop-index.self = ap (λ (m : Owners). length m) c.self.view_is in
    let lt : c.loop-index.index < length c.loop-index.self = omega (arith, same) in
    (omega (arith, lt, c.if-pass_at.ensures.count), λ f fits. passes_more c.args.trans f c.args.self.now c.loop-index.self c.pass_at.new.self c.loop-index.index lt true (c.if-pass_at.ensures.entry f fits) (c.loop-index.invariant.1 f fits))

pub loop-index-preserved : goal.loop-index-preserved
loop-index-preserved g c =
    let same : length c.self.inside.owners ≡ length c.loop-index.self = ap (λ (m : Owners). length m) c.self.view_is in
    let lt : c.loop-index.index < length c.loop-index.self = omega (arith, same) in
    (omega (arith, lt, c.if-pass_at.ensures.count), λ f fits. passes_more c.args.trans f c.args.self.now c.loop-index.self c.pass_at.new.self c.loop-index.index lt false (c.if-pass_at.ensures.entry f fits) (c.loop-index.invariant.1 f fits))
