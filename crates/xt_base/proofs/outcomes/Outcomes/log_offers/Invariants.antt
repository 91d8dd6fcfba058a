use Rattle.std.proofs.Common.{◌≡◌, map, take}
use Rattle.std.specs.Prelude.{flat_map}
use Rattle.xt_base.specs.Isolation.{turns_of}
use Rattle.xt_base.proofs.outcomes.Outcomes.log_offers.Given as goal

abbrev pub invariant-loop-turn : goal.invariant-loop-turn
invariant-loop-turn l = map (λ o. o.now) l.offers.items ≡ flat_map (λ t. t.log) (turns_of l.slot (take l.turn-index l.turn-items))
