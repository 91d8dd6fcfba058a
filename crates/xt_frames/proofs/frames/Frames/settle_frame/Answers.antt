use Rattle.std.proofs.Common.{◌≡◌, Some, rules}
use Rattle.xt_frames.specs.Settling.{frame_block}
use Rattle.xt_frames.proofs.SettleLemmas.{frame_there, frame_stays, frame_goes, frame_fewer}
use Rattle.xt_frames.proofs.frames.Frames.settle_frame.Goals as goal

pub returns-then-stays-clause-frames : goal.returns-then-stays-clause-frames
returns-then-stays-clause-frames c =
    let here : frame_block c.args.index c.args.self.now ≡ Some c.args.block = search rules in
    frame_stays c.args.index c.args.block c.args.self.now here c.args.is_kept c.args.stays c.if-stays.true

pub settle_at-requires : goal.settle_at-requires
settle_at-requires c =
    let here : frame_block c.args.index c.args.self.now ≡ Some c.args.block = search rules in
    frame_there c.args.index c.args.block c.args.self.now here

pub returns-clause-frames : goal.returns-clause-frames
returns-clause-frames c =
    let here : frame_block c.args.index c.args.self.now ≡ Some c.args.block = search rules in
    frame_goes c.args.index c.args.block c.args.self.now here c.args.is_kept c.args.stays c.settle_at.new.self c.settle_at.ensures c.if-stays.false

pub returns-clause-fewer : goal.returns-clause-fewer
returns-clause-fewer c =
    let here : frame_block c.args.index c.args.self.now ≡ Some c.args.block = search rules in
    λ _. frame_fewer c.args.index c.args.block c.args.self.now here c.args.is_kept c.settle_at.new.self c.settle_at.ensures
