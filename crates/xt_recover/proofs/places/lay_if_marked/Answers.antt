use Rattle.std.proofs.Common.{◌∙◌, ◌≡◌, ◌*◌, ◌+◌, ◌-◌, ap, arith, sym, ◌==◌, drop, take}
use Rattle.std.specs.Int.{bit_at}
use Rattle.xt_base.specs.Calls.{overwritten}
use Rattle.xt_recovery.proofs.LogLemmas.{first_if}
use Rattle.xt_recover.proofs.places.lay_if_marked.Goals as goal

pub returns-then-is_marked-clause-content : goal.returns-then-is_marked-clause-content
returns-then-is_marked-clause-content c =
    let len : c.args.place + 128 - c.args.place ≡ 128 = omega arith in
    c.lay_chunk.ensures.laid ∙ ap (λ n. overwritten (128 * c.args.k) (take n (drop c.args.place c.args.bytes.now)) c.args.content.now) len
    ∙ sym (first_if (bit_at c.args.word c.args.k == 1) (overwritten (128 * c.args.k) (take 128 (drop c.args.place c.args.bytes.now)) c.args.content.now) c.args.content.now (sym c.is_marked.ensures ∙ c.if-is_marked.true))
