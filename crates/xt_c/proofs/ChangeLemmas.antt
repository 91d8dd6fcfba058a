-- Calls that tell their status alone.
use Rattle.std.proofs.Common.{Option, Some, subst, sym, ℕ, ℤ, ◌≡◌}
use Rattle.xt_base.specs.State.{State}
use Rattle.xt_base.specs.declared.steps.Request.{Request}
use Rattle.xt_c.specs.Changing.{IsAllocated, IsAsked}

-- what a request does to a mount it does to the handle that holds it
pub asked_behind : (request : Request) (old new : Option State) (m m' : State) (status : ℤ)
    → old ≡ Some m → new ≡ Some m' → IsAsked request status (Some m') (Some m) → IsAsked request status new old
asked_behind request old new m m' status e f x =
    subst (λ (o : Option State). IsAsked request status new o) (sym e) (subst (λ (n : Option State). IsAsked request status n (Some m)) (sym f) x)

-- what an alloc does to it, likewise
pub allocated_behind : (request : Request) (old new : Option State) (m m' : State) (status : ℤ) (trans before : ℕ)
    → old ≡ Some m → new ≡ Some m' → IsAllocated request status trans before (Some m') (Some m) → IsAllocated request status trans before new old
allocated_behind request old new m m' status trans before e f x =
    subst (λ (o : Option State). IsAllocated request status trans before new o) (sym e)
    (subst (λ (n : Option State). IsAllocated request status trans before n (Some m)) (sym f) x)
