use Rattle.std.proofs.Common.{◌≡◌, ◌∙◌, ◌++◌, ap, append_assoc, arith, drop, length, rules, sym}
use Rattle.xt_seal.proofs.HeaderLemmas.{length_header}
use Rattle.xt_seal.proofs.SealLemmas.{begins_found, begins_missed}
use Rattle.xt_seal.specs.Headers.{head_bytes, header_bytes}
use Rattle.xt_seal.specs.Seal.{seal_of}
use Rattle.xt_seal.proofs.header.Header.read.Goals as goal

pub returns-clause-found : goal.returns-clause-found
returns-clause-found c =
    let long : length c.begin-sealer.result.0 ≡ 64 = search rules in
    begins_found c.args.input.now c.begin-sealer.result.0 (sym c.if-not-starts_with.false ∙ c.starts_with.ensures.value) ∙ ap (λ n. c.begin-sealer.result.0 ++ drop n c.args.input.now) long
    ∙ ap (λ t. t ++ drop 64 c.args.input.now) c.begin-sealer.ensures.bytes

pub returns-then-not-starts_with-clause-none : goal.returns-then-not-starts_with-clause-none
returns-then-not-starts_with-clause-none c = λ same h rest fits is.
    let read : c.with_fields-header.result ≡ h = c.with_fields-header.ensures h (seal_of (head_bytes h) ++ rest) fits (is ∙ append_assoc (head_bytes h) (seal_of (head_bytes h)) rest) in
    begins_missed c.args.input.now c.begin-sealer.result.0 rest (sym c.if-not-starts_with.true ∙ c.starts_with.ensures.value)
    (is ∙ ap (λ t. header_bytes t ++ rest) (sym read) ∙ ap (λ t. t ++ rest) (sym c.begin-sealer.ensures.bytes))

pub returns-then-input-lt-HEADER_BYTES-clause-none : goal.returns-then-input-lt-HEADER_BYTES-clause-none
returns-then-input-lt-HEADER_BYTES-clause-none c = λ same h rest fits is. omega (arith, c.if-input-lt-HEADER_BYTES.true, ap length is, length_header h rest fits)
