use Rattle.std.proofs.Common.{◌∙◌, ◌∷◌, ◌≤◌, ap, length, subst, sym, take}
use Rattle.xt_base.specs.Maps.{at, without}
use Rattle.xt_frames.proofs.BlockLemmas.{settled_kept, settled_lost, settled_none}
use Rattle.xt_frames.specs.Contents.{Bufs}
use Rattle.xt_frames.specs.Settling.{bufs_settled_by, is_other}
use Rattle.xt_frames.proofs.frames.Frames.leave.Goals as goal

pub returns-in_default : goal.returns-in_default
returns-in_default c =
    let left = c.take_frame.ensures.rest ∙ ap (λ (b : Bufs). record b { frames = without c.args.block b.frames }) c.leave_fresh.ensures in
    let there = sym c.in_default.is ∙ c.take_frame.ensures.value ∙ ap (λ (b : Bufs). at c.args.block b.frames) c.leave_fresh.ensures in
    left ∙ settled_none c.args.block c.args.self.now c.requires c.args.is_kept there (subst (λ (b : Bufs). length b.idle ≤ 64) left c.take_frame.ensures.idle)

pub returns-then-is_kept : goal.returns-then-is_kept
returns-then-is_kept c =
    let left = c.take_frame.ensures.rest ∙ ap (λ (b : Bufs). record b { frames = without c.args.block b.frames }) c.leave_fresh.ensures in
    let there = sym c.in-Some.is ∙ c.take_frame.ensures.value ∙ ap (λ (b : Bufs). at c.args.block b.frames) c.leave_fresh.ensures in
    c.keep_idle.ensures ∙ ap (λ content. record c.take_frame.new.self { idle = take 64 ((c.args.block, content) ∷ c.take_frame.new.self.idle) }) c.into_committed.ensures
    ∙ ap (λ (b : Bufs). record b { idle = take 64 ((c.args.block, c.in-Some.frame.committed) ∷ b.idle) }) left
    ∙ settled_kept c.args.block c.args.self.now c.requires c.in-Some.frame there
    ∙ ap (λ kept. bufs_settled_by (is_other c.args.block) kept c.args.self.now) (sym c.if-is_kept.true)

pub returns-else-is_kept : goal.returns-else-is_kept
returns-else-is_kept c =
    let left = c.take_frame.ensures.rest ∙ ap (λ (b : Bufs). record b { frames = without c.args.block b.frames }) c.leave_fresh.ensures in
    left ∙ settled_lost c.args.block c.args.self.now c.requires ∙ ap (λ kept. bufs_settled_by (is_other c.args.block) kept c.args.self.now) (sym c.if-is_kept.false)
