use Rattle.std.proofs.Common.{◌≡◌, None, Some, drop, take, rules, arith}
use Rattle.xt_ckpt.specs.Drafts.{seen}
use Rattle.xt_ckpt.specs.Fields.{after, width}
use Rattle.xt_ckpt.specs.declared.draft.Field.TheVariants as Field
use Rattle.xt_ckpt.proofs.Judging.{opened, positive, unfinished_at, fault_at, field_at, whole_at, accepted, refused, begins}
use Rattle.xt_ckpt.proofs.reading.judge.Goals as goal

pub fields-init : goal.fields-init
fields-init c = record { within = omega arith; reads = opened _ c.new-draft.ensures }

pub returns-then-input-at : goal.returns-then-input-at
returns-then-input-at c = unfinished_at (seen c.fields.draft) c.args.input.now c.fields.at c.fields.invariant.reads (search rules)

pub returns-then-not-branch : goal.returns-then-not-branch
returns-then-not-branch c =
    let wide : c.width-width.result ≡ width (seen c.fields.draft).next = search rules in
    let more : c.fields.draft.next ≡ Field.Nothing → ⊥ = search rules in
    let some = positive (seen c.fields.draft) c.args.input.now c.fields.at (λ i. omega (arith, c.type_inv.input i)) c.fields.invariant.reads more in
    let broken : after (seen c.fields.draft) (take c.width-width.result (drop c.fields.at c.args.input.now)) ≡ None =
    refused c.in_ok-accept.field-0 (seen c.fields.draft) (seen c.accept.new.self) c.args.input.now c.fields.at c.width-width.result c.if-not-branch.true c.in_ok-accept.ensures in
    fault_at (seen c.fields.draft) c.args.input.now c.fields.at c.width-width.result c.fields.invariant.reads wide (omega arith) (omega arith) broken

pub fields-smaller : goal.fields-smaller
fields-smaller c =
    let wide : c.width-width.result ≡ width (seen c.fields.draft).next = search rules in
    let more : c.fields.draft.next ≡ Field.Nothing → ⊥ = search rules in
    let some = positive (seen c.fields.draft) c.args.input.now c.fields.at (λ i. omega (arith, c.type_inv.input i)) c.fields.invariant.reads more in
    omega arith

pub fields-preserved : goal.fields-preserved
fields-preserved c =
    let wide : c.width-width.result ≡ width (seen c.fields.draft).next = search rules in
    let goes : after (seen c.fields.draft) (take c.width-width.result (drop c.fields.at c.args.input.now)) ≡ Some (seen c.accept.new.self) =
    accepted c.in_ok-accept.field-0 (seen c.fields.draft) (seen c.accept.new.self) c.args.input.now c.fields.at c.width-width.result c.if-not-branch.false c.in_ok-accept.ensures in
    record { within = omega arith; reads = field_at (seen c.fields.draft) (seen c.accept.new.self) c.args.input.now c.fields.at c.width-width.result c.fields.invariant.reads wide (omega arith) goes }

pub returns : goal.returns
returns c =
    let ends : c.fields.draft.next ≡ Field.Nothing = search rules in
    let whole = whole_at (seen c.fields.draft) c.args.input.now c.fields.at (λ i. omega (arith, c.type_inv.input i)) c.fields.invariant.reads ends in
    (omega arith, begins (take c.fields.at c.args.input.now) c.fields.draft c.into_checkpoint.result c.into_checkpoint.ensures.size c.into_checkpoint.ensures.number c.into_checkpoint.ensures.items whole)
