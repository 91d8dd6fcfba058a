use Rattle.std.proofs.Common.{◌≡◌}
use Rattle.lru.specs.LruCache.{lru_cache}
use Rattle.xt_frames.specs.Idle.{named}
use Rattle.xt_frames.proofs.idle.empty_names.Given as goal

-- the names so far
abbrev pub invariant-loop-name : goal.invariant-loop-name
invariant-loop-name l = l.names ≡ lru_cache (named l.name) 64
