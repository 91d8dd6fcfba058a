use Rattle.std.proofs.Common.{◌≡◌, ◌∙◌, ◌+◌, ◌*◌, ◌≤◌, false, sym, ap, subst, arith}
use Rattle.std.specs.Prelude.{◌-◌, ◌&&◌, ◌==◌, nat_lt}
use Rattle.xt_base.specs.Calls.{legs_after}
use Rattle.xt_resv.proofs.LegLemmas.{next_space}
use Rattle.xt_resv.specs.Ledgers.{Grant, Ledger, is_no_room, flight_cost}
use Rattle.xt_resv.specs.contracts.space.LogSpace.{the_view}
use Rattle.xt_resv.proofs.space.LogSpace.next_leg.Goals as goal

pub invariant_of-self : goal.invariant_of-self
invariant_of-self c =
    let f = c.self.inside in
    let t = c.args.ticket.now in
    let room : is_no_room t c.args.cil_cost (the_view f) ≡ false
    = ap (is_no_room t c.args.cil_cost) c.self.view_is ∙ sym (c.is_no_room.ensures) ∙ c.if-is_no_room.false in
    let full = subst (λ n. ((t.legs == 1) && nat_lt f.size (f.granted - t.unit * t.legs + c.args.cil_cost + flight_cost f.flight + n + t.unit)) ≡ false) (sym c.self.invariant.0.summed) room in
    let granted = subst (λ (s : Ledger). t.unit * t.legs ≤ s.granted) (sym c.self.view_is) c.requires.granted in
    let cost = subst (λ (s : Ledger). c.args.cil_cost ≤ s.cil + t.unit) (sym c.self.view_is) c.requires.cost in
    let space = next_space f.size f.granted (flight_cost f.flight) f.landed_total c.args.cil_cost f.cil t.unit t.unit t.legs granted c.requires.legs cost (omega arith) c.self.invariant.0.space full in
    let after : c.grant.result ≡ t.unit * legs_after t.legs = c.grant.ensures ∙ ap (λ (g : Grant). g.unit * g.legs) c.begin_leg.ensures in
    (record { space = omega (arith, space, after, c.grant-before.ensures); small = c.self.invariant.0.small; rising = c.self.invariant.0.rising; summed = c.self.invariant.0.summed }, c.self.invariant.1)
