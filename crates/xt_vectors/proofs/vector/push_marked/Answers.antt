use Rattle.std.proofs.Common.{◌*◌, ◌∙◌, ◌++◌, [], ℕ, List, ap, refl, sym, length, arith, if◌then◌else◌}
use Rattle.std.specs.Prelude.{◌==◌, flat_map, Bool}
use Rattle.std.specs.Int.{bit_at}
use Rattle.xt_base.specs.Chunks.{places_of}
use Rattle.xt_base.specs.Text.{chunk}
use Rattle.xt_vectors.proofs.ChunkLemmas.{marked_step, marked_count, marked_all, marked_none, one_more}
use Rattle.xt_vectors.proofs.vector.push_marked.Goals as goal

pub loop-k-init : goal.loop-k-init
loop-k-init c =
    let none = marked_none c.args.word c.ranges.word.fits in
    record {
      bytes = c.requires.none ∙ ap (flat_map (chunk c.args.content.now)) none;
      form = ap length c.requires.none ∙ ap (λ (xs : List ℕ). 128 * length xs) none;
      within = omega (arith, ap length c.requires.none);
      room = c.requires.room;
    }

pub loop-k-preserved : goal.loop-k-preserved
loop-k-preserved c =
    let marked : ℕ → Bool = λ k. bit_at c.args.word k == 1 in
    let bytes : ℕ → List ℕ = chunk c.args.content.now in
    record {
      bytes = c.push_if_marked.ensures.bytes ∙ ap (λ xs. xs ++ (if marked c.loop-k.k then bytes c.loop-k.k else [])) c.loop-k.invariant.bytes ∙ sym (marked_step bytes marked c.loop-k.k);
      form = omega (arith, c.push_if_marked.ensures.count, c.loop-k.invariant.form, marked_count marked c.loop-k.k);
      within = omega (arith, c.push_if_marked.ensures.count, c.loop-k.invariant.within, one_more (marked c.loop-k.k));
      room = omega (arith, c.push_if_marked.ensures.capacity, c.loop-k.invariant.room);
    }

pub returns-clause-bytes : goal.returns-clause-bytes
returns-clause-bytes c =
    c.loop-k.invariant.bytes ∙ ap (flat_map (chunk c.args.content.now)) (marked_all c.args.word c.loop-k.k (places_of c.args.word) c.ranges.word.fits (omega arith) refl)

pub returns-clause-form : goal.returns-clause-form
returns-clause-form c =
    c.loop-k.invariant.form ∙ ap (λ xs. 128 * length xs) (marked_all c.args.word c.loop-k.k (places_of c.args.word) c.ranges.word.fits (omega arith) refl)
