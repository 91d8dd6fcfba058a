use Rattle.std.proofs.Common.{◌∙◌, None, Some, ap, refl, sym}
use Rattle.xt_base.specs.Maps.{at}
use Rattle.xt_base.specs.State.{Leg}
use Rattle.xt_trans.proofs.ItemLemmas.{changed_clean, changed_dirty, stale_dirty}
use Rattle.xt_trans.proofs.trans.TransRec.changed.Goals as goal

pub returns-then-is_dirty-clause-value : goal.returns-then-is_dirty-clause-value
returns-then-is_dirty-clause-value c =
    changed_dirty c.args.block c.in-Some.item.now c.self.inside.items c.self.invariant c.in-Some.ensures (sym c.is_dirty.ensures ∙ c.if-is_dirty.true) ∙ ap (λ (l : Leg). at c.args.block l.changes) c.self.view_is

pub returns-then-is_dirty-clause-stale : goal.returns-then-is_dirty-clause-stale
returns-then-is_dirty-clause-stale c = stale_dirty c.args.block c.in-Some.item.now c.self.inside.items c.self.invariant c.in-Some.ensures (sym c.is_dirty.ensures ∙ c.if-is_dirty.true)

pub returns-else-is_dirty-clause-value : goal.returns-else-is_dirty-clause-value
returns-else-is_dirty-clause-value c =
    changed_clean c.args.block (Some c.in-Some.item.now) c.self.inside.items c.self.invariant c.in-Some.ensures (sym c.is_dirty.ensures ∙ c.if-is_dirty.false) ∙ ap (λ (l : Leg). at c.args.block l.changes) c.self.view_is

pub returns-in-None-clause-value : goal.returns-in-None-clause-value
returns-in-None-clause-value c =
    changed_clean c.args.block None c.self.inside.items c.self.invariant c.in-None.ensures refl ∙ ap (λ (l : Leg). at c.args.block l.changes) c.self.view_is
