use Rattle.std.proofs.Common.{◌∙◌, ◌++◌, ap, append-nil, sym}
use Rattle.xt_frames.proofs.IdleLemmas.{copied, skipped}
use Rattle.xt_frames.specs.Idle.{idle_of}
use Rattle.xt_frames.proofs.idle.copies_of.Goals as goal

pub loop-idle-init : goal.loop-idle-init
loop-idle-init c =
    ap (λ xs. xs ++ idle_of c.into_iter-idle-iterator.result) c.in_ok-copies.ensures.items
    ∙ ap idle_of (c.into_iter-idle-iterator.ensures.into_iter_gives ∙ c.iter-idle-items.ensures.rest)

pub loop-idle-preserved-in_ok-push : goal.loop-idle-preserved-in_ok-push
loop-idle-preserved-in_ok-push c =
    copied c.in-Some.field-0-0.now c.in-Some.idle.now c.loop-idle.idle-iterator c.next.new.self c.args.names.now.entries c.loop-idle.copies.items c.push.new.self.items c.in-Some.ensures.steps
    c.loop-idle.invariant c.in-Some-idle.entry c.in_ok-copy.field-0 c.in-Some-idle.is c.in_ok-copy.ensures c.in_ok-push.ensures.items

pub loop-idle-preserved : goal.loop-idle-preserved
loop-idle-preserved c =
    skipped c.in-Some.field-0-0.now c.in-Some.idle.now c.loop-idle.idle-iterator c.next.new.self c.args.names.now.entries c.loop-idle.copies.items c.loop-idle.copies.items c.in-Some.ensures.steps
    c.loop-idle.invariant c.in_default.is

pub returns : goal.returns
returns c = sym (append-nil c.loop-idle.copies.items) ∙ ap (λ xs. c.loop-idle.copies.items ++ idle_of xs) (sym c.in-None.ensures.steps.0) ∙ c.loop-idle.invariant
