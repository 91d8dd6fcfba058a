-- The idle list: contents under so many names, which are put in once, so that none is ever looked for in vain.
use Rattle.std.specs.Prelude.{List, None, Option, Some, [], filter_map, if◌then◌else◌, length, suc, zero, ℕ, ◌==◌, ◌∷◌, ◌≡◌}
use Rattle.lru.specs.LruCache.{LruCache}
use Rattle.xt_base.specs.Sound.{Each}
use Rattle.xt_base.specs.declared.sizes.TheConstants.{IDLE_BLOCKS}

-- what stands under a name: a block with its content, or nothing
abbrev pub Idle : Type 0
Idle = Option (ℕ × List ℕ)

-- the blocks with their contents, the most recent first
abbrev pub idle_of : List (ℕ × Idle) → List (ℕ × List ℕ)
idle_of es = filter_map (λ (e : ℕ × Idle). e.1) es

-- behind a name without a block there is none with one
abbrev pub IsPacked : List (ℕ × Idle) → Type 0
IsPacked [] = Unit {0}
IsPacked ((n, None) ∷ es) = Each (λ (e : ℕ × Idle). e.1 ≡ None) es
IsPacked ((n, Some idle) ∷ es) = IsPacked es

-- all names are there, and those without a block stand last
pub record IsFull (cache : LruCache ℕ Idle) : Type 0 where
  pub count : length cache.entries ≡ IDLE_BLOCKS
  pub cap : cache.cap ≡ IDLE_BLOCKS
  pub packed : IsPacked cache.entries

-- the name of a block
abbrev pub name_of : ℕ → List (ℕ × Idle) → Option ℕ
name_of b [] = None
name_of b ((n, None) ∷ es) = name_of b es
name_of b ((n, Some idle) ∷ es) = if idle.0 == b then Some n else name_of b es

-- what is kept of what stands under a name
abbrev pub content_under : Option Idle → Option (List ℕ)
content_under None = None
content_under (Some None) = None
content_under (Some (Some idle)) = Some idle.1

-- so many names, and no block
unfoldable pub named : ℕ → List (ℕ × Idle)
named zero = []
named (suc n) = (n, None) ∷ named n
