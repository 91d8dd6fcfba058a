use Rattle.std.proofs.Common.{◌∙◌, ap, arith, if◌then◌else◌, length, sym}
use Rattle.xt_base.specs.Text.{chunk}
use Rattle.xt_frames.proofs.KeptLemmas.{copied_here, kept_elsewhere}
use Rattle.xt_frames.proofs.kept.copy_if.Goals as goal

pub returns-then-first-size-clause-one : goal.returns-then-first-size-clause-one
returns-then-first-size-clause-one c =
    copied_here c.args.k c.args.to.now c.write.new.self c.bytes.result.now (omega (arith, c.if-first-size.true, c.content_len-size.ensures.value, c.content_len-size.ensures.chunks)) (c.requires.alike ∙ sym (ap length c.bytes.ensures.value)) c.write.ensures
    ∙ ap (λ xs. chunk xs c.args.k) c.bytes.ensures.value ∙ sym (ap (λ b. if b then chunk c.args.from.now c.args.k else chunk c.args.to.now c.args.k) c.if-wanted.true)

pub returns-then-first-size-clause-others : goal.returns-then-first-size-clause-others
returns-then-first-size-clause-others c = λ j lt.
    kept_elsewhere c.args.k c.args.to.now c.write.new.self c.bytes.result.now (omega (arith, c.if-first-size.true, c.content_len-size.ensures.value, c.content_len-size.ensures.chunks)) (c.requires.alike ∙ sym (ap length c.bytes.ensures.value)) c.write.ensures j (λ is. omega (arith, is, lt))

pub returns-then-first-size-clause-later : goal.returns-then-first-size-clause-later
returns-then-first-size-clause-later c = λ j lt.
    kept_elsewhere c.args.k c.args.to.now c.write.new.self c.bytes.result.now (omega (arith, c.if-first-size.true, c.content_len-size.ensures.value, c.content_len-size.ensures.chunks)) (c.requires.alike ∙ sym (ap length c.bytes.ensures.value)) c.write.ensures j (λ is. omega (arith, is, lt))
