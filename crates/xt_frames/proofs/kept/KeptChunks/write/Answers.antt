use Rattle.std.proofs.Common.{◌≡◌, ◌∙◌, [], ap, arith, length, sym}
use Rattle.xt_base.specs.Chunks.{marks, union}
use Rattle.xt_frames.specs.Kept.{Kept, restored}
use Rattle.xt_frames.proofs.KeptLemmas.{restored_whole, restored_written}
use Rattle.xt_frames.proofs.WordLemmas.{no_chunk, union_none}
use Rattle.xt_frames.proofs.kept.KeptChunks.write.Goals as goal

pub returns-then-is_empty-clause-chunks : goal.returns-then-is_empty-clause-chunks
returns-then-is_empty-clause-chunks c =
    let bytes = c.args.bytes.now in
    let whole : length bytes ≡ length c.args.content.now = sym c.len.ensures.value ∙ c.if-len-size.true ∙ c.content_len-size.ensures.value in
    let first : c.args.first ≡ 0 = omega (arith, whole, c.requires.within) in
    let none = no_chunk c.self.inside.chunks (sym c.is_empty.ensures ∙ c.if-is_empty.true) in
    c.write_whole.ensures.chunks ∙ sym (union_none 0 (length bytes)) ∙ sym (ap (λ n. union [] (marks n (length bytes))) first)
    ∙ sym (ap (λ set. union set (marks c.args.first (length bytes))) none) ∙ ap (λ (kept : Kept). union kept.chunks (marks c.args.first (length bytes))) c.self.view_is

pub returns-then-is_empty-clause-same : goal.returns-then-is_empty-clause-same
returns-then-is_empty-clause-same c =
    let kept : Kept = record { chunks = c.self.inside.chunks; bytes = c.self.inside.bytes } in
    restored_whole kept c.write_whole.new.self c.args.content.now c.write_whole.new.content (no_chunk kept.chunks (sym c.is_empty.ensures ∙ c.if-is_empty.true)) (c.write_whole.ensures.chunks ∙ ap (marks 0) (sym (ap length c.write_whole.ensures.content))) c.write_whole.ensures.bytes
    (ap length c.write_whole.ensures.content ∙ sym c.len.ensures.value ∙ c.if-len-size.true ∙ c.content_len-size.ensures.value) (omega (arith, c.requires.some, ap length c.write_whole.ensures.content))
    ∙ ap (λ (k : Kept). restored k c.args.content.now) c.self.view_is

pub returns-clause-same : goal.returns-clause-same
returns-clause-same c =
    let set = c.args.self.now.chunks in
    let bytes = c.args.bytes.now in
    let covers = c.keep.ensures.chunks ∙ ap (union set) (c.mark.ensures ∙ ap (marks c.args.first) c.len-2.ensures.value) in
    ap (restored c.keep.new.self) c.write_data.ensures
    ∙ restored_written c.keep.new.self set bytes c.args.content.now c.args.first covers c.requires.within c.requires.some
    ∙ c.keep.ensures.same
