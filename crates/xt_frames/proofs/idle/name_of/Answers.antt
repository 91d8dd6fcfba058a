use Rattle.std.proofs.Common.{◌∙◌, ap, subst, sym}
use Rattle.xt_frames.proofs.IdleLemmas.{first_named, later_named, later_packed, none_later}
use Rattle.xt_frames.specs.Idle.{IsPacked, name_of}
use Rattle.xt_frames.proofs.idle.name_of.Goals as goal

pub loop-name-init : goal.loop-name-init
loop-name-init c =
    let all = c.into_iter-name-iterator.ensures.into_iter_gives ∙ c.iter-name-items.ensures.rest in
    record { same = ap (name_of c.args.block) all; packed = subst IsPacked (sym all) c.requires }

pub returns-then-entry-block : goal.returns-then-entry-block
returns-then-entry-block c =
    first_named c.args.block c.in-Some.name.now c.in-Some.idle.now c.loop-name.name-iterator c.next.new.self c.in-Some.ensures.steps c.in-Some-idle.entry c.in-Some-idle.is c.if-entry-block.true
    ∙ c.loop-name.invariant.same

pub loop-name-preserved : goal.loop-name-preserved
loop-name-preserved c = record {
  same =
      later_named c.args.block c.in-Some.name.now c.in-Some.idle.now c.loop-name.name-iterator c.next.new.self c.in-Some.ensures.steps c.in-Some-idle.entry c.in-Some-idle.is c.if-entry-block.false
      ∙ c.loop-name.invariant.same;
  packed =
      later_packed c.args.block c.in-Some.name.now c.in-Some.idle.now c.loop-name.name-iterator c.next.new.self c.in-Some.ensures.steps c.in-Some-idle.entry c.in-Some-idle.is c.loop-name.invariant.packed;
}

pub returns-in-None-idle : goal.returns-in-None-idle
returns-in-None-idle c =
    none_later c.args.block c.in-Some.name.now c.in-Some.idle.now c.loop-name.name-iterator c.next.new.self c.in-Some.ensures.steps c.in-None-idle.is c.loop-name.invariant.packed
    ∙ c.loop-name.invariant.same

pub returns : goal.returns
returns c = sym (ap (name_of c.args.block) c.in-None.ensures.steps.0) ∙ c.loop-name.invariant.same
