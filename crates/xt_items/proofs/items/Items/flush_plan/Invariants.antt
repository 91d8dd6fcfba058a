use Rattle.std.proofs.Common.{◌≡◌, Bool, filter, take, ℕ}
use Rattle.xt_base.specs.Jobs.{by_number}
use Rattle.xt_items.specs.Plans.{is_unpinned}
use Rattle.xt_items.proofs.items.Items.flush_plan.Given as goal

abbrev pub invariant-loop-entry : goal.invariant-loop-entry
invariant-loop-entry g l =
    (f : ℕ → Bool) → ((b : ℕ) → (o : Bool) → goal.F-post g l.is_owned b o → o ≡ f b)
    → l.earliest ≡ take 8 (by_number (filter (λ e. is_unpinned f l.self e.0) (take l.entry-index l.entries)))
