use Rattle.std.proofs.Common.{◌∙◌, List, [], ap, arith, ℕ}
use Rattle.lru.specs.LruCache.{lru_cache}
use Rattle.xt_frames.proofs.IdleLemmas.{named_empty, named_full, named_more, named_none, of_ok}
use Rattle.xt_frames.specs.Idle.{Idle}
use Rattle.xt_frames.proofs.idle.empty_names.Goals as goal

pub loop-name-init : goal.loop-name-init
loop-name-init c = c.in_ok-names.ensures ∙ ap (lru_cache []) c.in-Some.ensures ∙ ap (λ (es : List (ℕ × Idle)). lru_cache es 64) named_none

pub loop-name-preserved : goal.loop-name-preserved
loop-name-preserved c = named_more c.loop-name.names c.put.new.self c.loop-name.name c.loop-name.invariant c.loop-name-test.true (of_ok c.put.result _ c.if-is_err.ensures.value c.put.ensures.entries)

pub returns-clause-empty : goal.returns-clause-empty
returns-clause-empty c = named_empty c.loop-name.names c.loop-name.name c.loop-name.invariant

pub returns-clause-full : goal.returns-clause-full
returns-clause-full c = named_full c.loop-name.names c.loop-name.name c.loop-name.invariant (omega arith)
