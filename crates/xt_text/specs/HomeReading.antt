-- The answers to a flush, read loosely.
use Rattle.std.specs.Prelude.{Bool, List, None, Option, Some, [], false, if◌then◌else◌, length, nat_le, replicate, slice_index_or, take, true, ℕ, ◌&&◌, ◌++◌, ◌-◌, ◌==◌, ◌∷◌}
use Rattle.xt_base.specs.declared.sizes.TheConstants.{FLUSH_BLOCKS}
use Rattle.xt_base.specs.declared.steps.HomeAnswers.{HomeAnswers}

-- the answers that a text names, by their first letters: the o of ok, the f of fail. What else it has is passed over
abbrev pub named : List ℕ → List Bool
named [] = []
named (c ∷ cs) = if c == 111 then true ∷ named cs else if c == 102 then false ∷ named cs else named cs

-- these answers to writes, and to the sync
abbrev pub given : List Bool → Bool → HomeAnswers
given writes sync = record { count = length writes; writes = writes ++ replicate (FLUSH_BLOCKS - length writes) false; sync = sync }

-- the answers to a flush: none, or those to 1 to 8 writes and then to the sync
abbrev pub flush_answers : List Bool → Option HomeAnswers
flush_answers oks =
    let count = length oks - 1 in
    if length oks == 0 then Some (given [] false)
    else if nat_le 1 count && nat_le count FLUSH_BLOCKS then Some (given (take count oks) (slice_index_or oks count false))
    else None

-- the answers behind the name of a flush
unfoldable pub home_of : List ℕ → Option HomeAnswers
home_of words = flush_answers (named words)
