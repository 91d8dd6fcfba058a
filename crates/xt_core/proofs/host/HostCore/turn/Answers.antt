use Rattle.std.proofs.Common.{◌≡◌, ◌∙◌, subst, sym, true}
use Rattle.xt_core.proofs.PlaceLemmas.{suits_at}
use Rattle.xt_core.proofs.host.HostCore.turn.Goals as goal
use Rattle.xt_core.specs.Host.{may_come}

pub serve-reply-requires-clause-suit : goal.serve-reply-requires-clause-suit
serve-reply-requires-clause-suit c =
    suits_at c.args.step.now c.self.inside.cells.items c.self.invariant c.index.result (c.index.ensures.value ∙ c.slot.ensures) c.index.ensures.range c.index_mut.result.now c.index_mut.ensures.value c.self.inside.turns
    (subst (λ h. may_come h c.args.step.now ≡ true) (sym c.self.view_is) c.requires.may)
