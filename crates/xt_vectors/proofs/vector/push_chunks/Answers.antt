use Rattle.std.proofs.Common.{◌∙◌, ap, arith, length, sym}
use Rattle.xt_vectors.proofs.ChunkLemmas.{last_bit, marked_within, whole_content, whole_count}
use Rattle.xt_vectors.proofs.vector.push_chunks.Goals as goal

pub returns-then-word-clause-bytes : goal.returns-then-word-clause-bytes
returns-then-word-clause-bytes c =
    c.push_block.ensures.bytes ∙ whole_content c.word-word.result c.args.chunks c.args.content.now c.if-word.true c.word-word.ensures.back (sym (ap length c.push_block.ensures.bytes) ∙ c.push_block.ensures.form)

pub returns-then-word-clause-form : goal.returns-then-word-clause-form
returns-then-word-clause-form c = c.push_block.ensures.form ∙ whole_count c.word-word.result c.args.chunks c.if-word.true c.word-word.ensures.back

pub push_marked-requires-clause-within : goal.push_marked-requires-clause-within
push_marked-requires-clause-within c = marked_within c.word-word.result c.args.chunks (length c.args.content.now) c.word-word.ensures.back c.requires.within

pub push_block-requires-clause-whole : goal.push_block-requires-clause-whole
push_block-requires-clause-whole c =
    let last = marked_within c.word-word.result c.args.chunks (length c.args.content.now) c.word-word.ensures.back c.requires.within 31 (omega arith) (last_bit c.word-word.result c.if-word.true) in
    omega (arith, last, c.content_len-size.ensures.value, c.content_len-size.ensures.short)
