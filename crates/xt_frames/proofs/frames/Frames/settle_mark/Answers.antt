use Rattle.std.proofs.Common.{◌≡◌, ◌<◌, length, Some, arith, rules}
use Rattle.xt_frames.specs.Settling.{fresh_block}
use Rattle.xt_frames.proofs.SettleLemmas.{mark_there, mark_stays, mark_goes, mark_fewer}
use Rattle.xt_frames.proofs.frames.Frames.settle_mark.Goals as goal

pub returns-then-stays-clause-marks : goal.returns-then-stays-clause-marks
returns-then-stays-clause-marks c =
    let here : fresh_block c.args.index c.args.self.now ≡ Some c.args.block = search rules in
    mark_stays c.args.index c.args.block c.args.self.now here c.args.stays c.if-stays.true

pub returns-then-stays-clause-fewer : goal.returns-then-stays-clause-fewer
returns-then-stays-clause-fewer c =
    let here : fresh_block c.args.index c.args.self.now ≡ Some c.args.block = search rules in
    let lt : c.args.index < length c.args.self.now.fresh = mark_there c.args.index c.args.block c.args.self.now here in
    λ _. omega (arith, lt)

pub drop_fresh_at-requires : goal.drop_fresh_at-requires
drop_fresh_at-requires c =
    let here : fresh_block c.args.index c.args.self.now ≡ Some c.args.block = search rules in
    mark_there c.args.index c.args.block c.args.self.now here

pub returns-clause-marks : goal.returns-clause-marks
returns-clause-marks c =
    let here : fresh_block c.args.index c.args.self.now ≡ Some c.args.block = search rules in
    mark_goes c.args.index c.args.block c.args.self.now here c.args.stays c.drop_fresh_at.new.self c.drop_fresh_at.ensures c.if-stays.false

pub returns-clause-fewer : goal.returns-clause-fewer
returns-clause-fewer c =
    let here : fresh_block c.args.index c.args.self.now ≡ Some c.args.block = search rules in
    λ _. mark_fewer c.args.index c.args.block c.args.self.now here c.drop_fresh_at.new.self c.drop_fresh_at.ensures
