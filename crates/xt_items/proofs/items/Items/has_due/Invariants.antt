use Rattle.std.proofs.Common.{◌≡◌, Bool, drop, filter, ℕ}
use Rattle.xt_items.specs.Plans.{is_unpinned}
use Rattle.xt_items.proofs.items.Items.has_due.Given as goal

abbrev pub invariant-loop-entry : goal.invariant-loop-entry
invariant-loop-entry g l =
    (f : ℕ → Bool) → ((b : ℕ) → (o : Bool) → goal.F-post g l.is_owned b o → o ≡ f b)
    → filter (λ e. is_unpinned f l.self e.0) l.entries ≡ filter (λ e. is_unpinned f l.self e.0) (drop l.entry-index l.entries)
