-- The fresh passes, one more at a time.
use Rattle.std.proofs.Common.{add-one, refl, ℕ, [], ◌+◌, ◌++◌, ◌≡◌, ◌∷◌}
use Rattle.atomic_table.specs.Seated.{TableId}
use Rattle.xt_queue.specs.Passes.{fresh_post, fresh_posts}

-- the passes of one slot more
pub fresh_posts_next : (queue : TableId) (n : ℕ) → fresh_posts queue (n + 1) ≡ fresh_posts queue n ++ fresh_post queue n ∷ []
fresh_posts_next queue n = rw (add-one n) refl
