use Rattle.std.proofs.Common.{◌∙◌, ◌*◌, ◌+◌, ◌-◌, ◌≡◌, ◌/◌, List, ap, arith, drop, length, subst, take, ℕ}
use Rattle.xt_base.specs.Calls.{overwritten}
use Rattle.xt_recover.proofs.PlaceLemmas.{copied_beyond}
use Rattle.xt_recover.proofs.places.copy_chunk.Goals as goal

pub returns-then-first-bytes : goal.returns-then-first-bytes
returns-then-first-bytes c =
    let len : 128 * c.args.k + 128 - 128 * c.args.k ≡ 128 = omega arith in
    c.put_bytes.ensures ∙ ap (λ n. overwritten (128 * c.args.k) (take n (drop (128 * c.args.k) c.bytes-bytes.result.now)) c.args.block.now) len
    ∙ ap (λ xs. overwritten (128 * c.args.k) (take 128 (drop (128 * c.args.k) xs)) c.args.block.now) c.bytes-bytes.ensures.value

pub returns-else-first-bytes : goal.returns-else-first-bytes
returns-else-first-bytes c =
    let same = ap (λ (xs : List ℕ). length xs) c.bytes-bytes.ensures.value in
    let chunks = c.bytes-bytes.ensures.chunks in
    let short = c.if-first-bytes.false in
    copied_beyond c.args.k c.args.content.now c.args.block.now (subst (λ n. n ≡ 128 * (n / 128)) same chunks) c.requires.whole (omega (arith, same, short))
