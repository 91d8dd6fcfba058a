use Rattle.std.proofs.Common.{arith, length, drop, inr, sym, take, ◌≤◌}
use Rattle.std.proofs.lemmas.List.{length-drop, take-append-drop}
use Rattle.xt_ckpt.specs.Grammar.{entries}
use Rattle.xt_seal.proofs.SealLemmas.{unsealed, unsealed_on}
use Rattle.xt_seal.proofs.reading.judge_text.Goals as goal

pub returns-then-input-len-lt-SEAL_BYTES-clause-judged : goal.returns-then-input-len-lt-SEAL_BYTES-clause-judged
returns-then-input-len-lt-SEAL_BYTES-clause-judged c = λ head before seals.
    unsealed head before c.args.input.now c.args.len c.args.checkpoint.size c.args.checkpoint.no (entries c.args.checkpoint.items.items) c.requires.begins.0 c.requires.begins.1
    (λ more is. c.is_sealed.ensures.no c.if-is_sealed.false head before more seals is)

pub returns-clause-judged : goal.returns-clause-judged
returns-clause-judged c = λ head before seals behind.
    let enough : 8 ≤ length (drop c.args.len c.args.input.now) = omega (arith, length-drop c.args.len c.args.input.now, c.if-input-len-lt-SEAL_BYTES.false, c.requires.begins.0) in
    unsealed_on head before c.args.input.now behind c.args.len c.args.checkpoint.size c.args.checkpoint.no (entries c.args.checkpoint.items.items) c.requires.begins.0 c.requires.begins.1 enough
    (λ more is. c.is_sealed.ensures.no c.if-is_sealed.false head before more seals is)

pub returns-then-input-len-lt-SEAL_BYTES-clause-more : goal.returns-then-input-len-lt-SEAL_BYTES-clause-more
returns-then-input-len-lt-SEAL_BYTES-clause-more c = inr (record {
  size = c.args.checkpoint.size;
  text = take c.args.len c.args.input.now;
  rest = drop c.args.len c.args.input.now;
  number = c.args.checkpoint.no;
  items = entries c.args.checkpoint.items.items;
  is = c.requires.begins.1;
  parts = sym (take-append-drop c.args.len c.args.input.now);
  short = omega (arith, length-drop c.args.len c.args.input.now, c.if-input-len-lt-SEAL_BYTES.true, c.requires.begins.0);
})
