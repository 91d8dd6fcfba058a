-- Plans by the parts of the lists.
use Rattle.std.proofs.Common.{◌≡◌, ◌∙◌, Bool, Option, ap, ℕ}
use Rattle.xt_base.specs.State.{Flight}
use Rattle.xt_items.specs.Lists.{Lists}
use Rattle.xt_items.specs.Plans.{due}

-- what is due hangs on three of them
pub due_by : (f : ℕ → Bool) (l m : Lists) → l.cil ≡ m.cil → l.flight ≡ m.flight → l.ail ≡ m.ail → due f l ≡ due f m
due_by f l m cil flight ail =
    ap (λ x. due f (record l { cil = x })) cil ∙ ap (λ (x : Option Flight). due f (record l { cil = m.cil; flight = x })) flight ∙ ap (λ x. due f (record l { cil = m.cil; flight = m.flight; ail = x })) ail
