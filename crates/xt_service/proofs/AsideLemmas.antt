-- Names that were put aside.
use Rattle.std.proofs.Common.{List, None, Option, Some, [], subst, sym, slice_set, All, IfSome, ℕ, ◌++◌, ◌≡◌, ◌∷◌}
use Rattle.std.proofs.lemmas.List.Elements.{All-replicate, All-set, Contains-append_left, Contains-push}
use Rattle.std.specs.List.{Contains}
use Rattle.std.specs.Prelude.{replicate}
use Rattle.xt_base.specs.declared.names.JobName.{JobName}
use Rattle.xt_service.specs.Seats.{AreOf}

-- a place has a name that was taken, if it has one
abbrev IsOf : List JobName → Option JobName → Type 0
IsOf taken place = IfSome place (λ name. Contains taken name)

of_more : (all taken names : List JobName) (place : Option JobName) → all ≡ taken ++ names → IsOf taken place → IsOf all place
of_more all taken names None has is = tt
of_more all taken names (Some name) has is = subst (λ ns. Contains ns name) (sym has) (Contains-append_left taken names name is)

-- none was put aside
pub aside_none : (taken : List JobName) (places : List (Option JobName)) (count : ℕ) → places ≡ replicate count None → AreOf taken places
aside_none taken places count is = subst (All (IsOf taken)) (sym is) (All-replicate (IsOf taken) count None tt)

-- more names were taken
pub aside_more : (all taken names : List JobName) (places : List (Option JobName)) → all ≡ taken ++ names → AreOf taken places → AreOf all places
aside_more all taken names places has are = λ i d less. of_more all taken names _ has (are i d less)

-- one more was put aside
pub aside_put : (taken : List JobName) (name : JobName) (place : ℕ) (old new : List (Option JobName)) → new ≡ slice_set old place (Some name) → Contains taken name → AreOf taken old → AreOf taken new
aside_put taken name place old new is has are = subst (All (IsOf taken)) (sym is) (All-set (IsOf taken) old place (Some name) has are)

-- one that was put aside is one that was taken
aside_taken : (taken : List JobName) (places : List (Option JobName)) (name : JobName) → AreOf taken places → Contains places (Some name) → Contains taken name
aside_taken taken places name are has = subst (IsOf taken) has.2 (are has.0 (Some name) has.1)

-- what was taken out, if anything, is one that was taken
pub aside_out : (taken : List JobName) (places : List (Option JobName)) (out : Option JobName) → AreOf taken places → IfSome out (λ name. Contains places (Some name)) → IfSome out (λ name. Contains taken name)
aside_out taken places None are has = tt
aside_out taken places (Some name) are has = aside_taken taken places name are has

-- the name that was taken last is one of those that were taken
pub last_taken : (all taken : List JobName) (name : JobName) → all ≡ taken ++ name ∷ [] → Contains all name
last_taken all taken name has = subst (λ names. Contains names name) (sym has) (Contains-push taken name)
