use Rattle.std.proofs.Common.{◌∙◌, ap, arith, filter, sym}
use Rattle.xt_items.specs.Lists.{Lists}
use Rattle.xt_items.specs.Plans.{due, is_unpinned}
use Rattle.xt_items.proofs.PlanLemmas.{none_due, none_yet, one_due}
use Rattle.xt_items.proofs.items.Items.has_due.Goals as goal

pub loop-entry-preserved : goal.loop-entry-preserved
loop-entry-preserved g c =
    λ f fits. none_yet c.loop-entry.entry-index (λ e. is_unpinned f c.args.self.now e.0) c.entries-entries.result.now _ (0, 0)
    (omega arith) (sym (c.is_unpinned.ensures f fits) ∙ c.if-is_unpinned.false) (c.loop-entry.invariant f fits)

pub returns-then-is_unpinned : goal.returns-then-is_unpinned
returns-then-is_unpinned g c =
    λ f fits.
    let ail = c.entries-entries.ensures.value ∙ ap (λ (l : Lists). l.ail) c.self.view_is in
    one_due c.loop-entry.entry-index (λ e. is_unpinned f c.args.self.now e.0) c.entries-entries.result.now (due f c.args.self.now) (0, 0)
    (omega arith) (sym (c.is_unpinned.ensures f fits) ∙ c.if-is_unpinned.true) (sym (ap (λ xs. filter (λ e. is_unpinned f c.args.self.now e.0) xs) ail) ∙ c.loop-entry.invariant f fits)

pub returns : goal.returns
returns g c =
    λ f fits.
    let ail = c.entries-entries.ensures.value ∙ ap (λ (l : Lists). l.ail) c.self.view_is in
    none_due c.loop-entry.entry-index (λ e. is_unpinned f c.args.self.now e.0) c.entries-entries.result.now (due f c.args.self.now)
    (omega arith) (sym (ap (λ xs. filter (λ e. is_unpinned f c.args.self.now e.0) xs) ail) ∙ c.loop-entry.invariant f fits)
