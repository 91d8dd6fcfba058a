use Rattle.std.proofs.Common.{◌∙◌, ◌≡◌, ap, arith, length, sym}
use Rattle.xt_base.specs.State.{Leg}
use Rattle.xt_journal.proofs.KeepLemmas.{taken}
use Rattle.xt_journal.proofs.losing.lose_changes.Goals as goal
use Rattle.xt_journal.specs.Keeping.{changes_lost, with_first}

pub loop-block-preserved : goal.loop-block-preserved
loop-block-preserved c =
    let took : c.loop-block.leg ≡ with_first (c.in-Some.block, c.in-Some.change) c.take_change.new.self =
    taken c.take_change.result _ (λ e. c.loop-block.leg ≡ with_first e c.take_change.new.self) (c.in-Some.block, c.in-Some.change) c.in-Some.is c.take_change.ensures in
    record {
      lost = ap (changes_lost c.take_change.new.self.changes c.take_change.new.self.holds) c.lose_change.ensures.frames
          ∙ ap (λ (t : Leg). changes_lost t.changes t.holds c.loop-block.frames) (sym took) ∙ c.loop-block.invariant.lost;
      room = omega (arith, c.lose_change.ensures.count, ap (λ (t : Leg). length t.changes) took, c.loop-block.invariant.room);
    }
