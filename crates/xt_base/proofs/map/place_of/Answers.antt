use Rattle.std.proofs.Common.{◌+◌, ◌-◌, ◌/◌, ◌<◌, ap, arith, length, ℕ}
use Rattle.xt_base.proofs.PlaceLemmas.{place_above, place_below, place_le}
use Rattle.xt_base.proofs.map.place_of.Goals as goal

pub loop-low-init : goal.loop-low-init
loop-low-init g c = record { low = omega arith; high = place_le c.args.key c.args.entries.now; whole = omega arith }

pub loop-low-preserved-then-entries-middle : goal.loop-low-preserved-then-entries-middle
loop-low-preserved-then-entries-middle g c =
    let middle : ℕ = c.loop-low.low + (c.loop-low.high - c.loop-low.low) / 2 in
    let lt : middle < length c.args.entries.now = omega (arith, c.loop-low.invariant.whole) in
    let low = ap (λ (e : ℕ × _). e.0) c.index-entries-middle.is in
    record { low = omega (arith, place_above 0 c.args.key c.args.entries.now middle c.index-entries-middle.result c.requires lt (omega (arith, low, c.if-entries-middle.true))); high = c.loop-low.invariant.high; whole = c.loop-low.invariant.whole }

pub loop-low-preserved : goal.loop-low-preserved
loop-low-preserved g c =
    let middle : ℕ = c.loop-low.low + (c.loop-low.high - c.loop-low.low) / 2 in
    let lt : middle < length c.args.entries.now = omega (arith, c.loop-low.invariant.whole) in
    let high = ap (λ (e : ℕ × _). e.0) c.index-entries-middle.is in
    record { low = c.loop-low.invariant.low; high = place_below c.args.key c.args.entries.now middle c.index-entries-middle.result lt (omega (arith, high, c.if-entries-middle.false)); whole = omega (arith, c.loop-low.invariant.whole) }
