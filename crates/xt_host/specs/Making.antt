-- What a host may be made with.
use Rattle.std.specs.Prelude.{ℕ, ◌≤◌}
use Rattle.xt_base.specs.declared.sizes.TheConstants.{WORKERS}
use Rattle.xt_host.specs.declared.host.TheConstants.{BOOK_ENTRIES}

-- 1 to 8 workers, and books of a limit of 1 to 1,048,576 entries
abbrev pub MayHave : ℕ → ℕ → Type 0
MayHave workers book_limit = (1 ≤ workers) × (workers ≤ WORKERS) × (1 ≤ book_limit) × (book_limit ≤ BOOK_ENTRIES)
