use Rattle.std.proofs.Common.{◌∙◌, ap, sym, ◌+◌, ◌≤◌, length, subst}
use Rattle.std.specs.Option.{option_copied_mut}
use Rattle.std.specs.Prelude.{IfSome}
use Rattle.xt_frames.proofs.BusyLemmas.{changed_in_slot, if_err, if_ok, missing, not_missing, same_in_slot, tied_in_slot, was_at}
use Rattle.xt_frames.specs.Kept.{Framed, logged}
use Rattle.xt_frames.proofs.busy.BusyFrames.log.Goals as goal

pub unreachable-requires : goal.unreachable-requires
unreachable-requires c = missing c.self.inside.frames c.self.inside.index c.args.self.now c.args.block c.self.invariant c.self.view_is c.requires.there (c.in_default.ensures ∙ c.get.ensures)

pub unreachable-requires-in-None : goal.unreachable-requires-in-None
unreachable-requires-in-None c =
    not_missing c.self.inside.frames c.self.inside.index c.args.block c.in-Some.key c.self.invariant (sym (c.in-Some.ensures ∙ c.get.ensures)) (sym c.get_mut.ensures.value ∙ ap option_copied_mut c.in-None.is)

pub invariant_of-self : goal.invariant_of-self
invariant_of-self c =
    let was = sym c.get_mut.ensures.value ∙ ap option_copied_mut c.in-Some-get_mut.is in
    tied_in_slot c.self.inside.frames c.self.inside.index c.args.block c.in-Some.key c.in-Some-get_mut.frame.now c.log.new.self c.self.invariant (sym (c.in-Some.ensures ∙ c.get.ensures)) was

pub returns-clause-ok : goal.returns-clause-ok
returns-clause-ok c =
    let was = sym c.get_mut.ensures.value ∙ ap option_copied_mut c.in-Some-get_mut.is in
    if_ok c.log.result
    (changed_in_slot c.self.inside.frames c.self.inside.index c.args.block c.in-Some.key c.in-Some-get_mut.frame.now c.log.new.self c.self.invariant (sym (c.in-Some.ensures ∙ c.get.ensures)) was
    c.args.self.now c.self.view_is (logged c.args.first c.args.bytes.now)) c.log.ensures.ok

pub returns-clause-err : goal.returns-clause-err
returns-clause-err c =
    let was = sym c.get_mut.ensures.value ∙ ap option_copied_mut c.in-Some-get_mut.is in
    let same = same_in_slot c.self.inside.frames c.self.inside.index c.args.block c.in-Some.key c.in-Some-get_mut.frame.now c.log.new.self c.self.invariant (sym (c.in-Some.ensures ∙ c.get.ensures)) was in
    if_err c.log.result (λ is. same is ∙ c.self.view_is) c.log.ensures.err

pub log-requires-clause-within : goal.log-requires-clause-within
log-requires-clause-within c =
    let was = sym c.get_mut.ensures.value ∙ ap option_copied_mut c.in-Some-get_mut.is in
    subst (λ o. IfSome o (λ (f : Framed). c.args.first + length c.args.bytes.now ≤ length f.edit))
    (was_at c.self.inside.frames c.self.inside.index c.args.self.now c.args.block c.in-Some.key c.in-Some-get_mut.frame.now c.self.invariant c.self.view_is (sym (c.in-Some.ensures ∙ c.get.ensures)) was) c.requires.within
