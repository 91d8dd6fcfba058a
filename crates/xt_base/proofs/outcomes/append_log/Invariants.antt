use Rattle.std.proofs.Common.{◌≡◌, ◌++◌, map, take}
use Rattle.xt_base.proofs.outcomes.append_log.Given as goal

abbrev pub invariant-loop-offer : goal.invariant-loop-offer
invariant-loop-offer l = map (λ o. o.now) l.out.items ≡ map (λ o. o.now) l.initial.out.items ++ take l.offer-index l.offers
