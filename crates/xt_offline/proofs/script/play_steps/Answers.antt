use Rattle.std.proofs.Common.{[], ◌≡◌, ◌+◌, ◌++◌, refl, subst, sym, take}
use Rattle.std.specs.Prelude.{Ok}
use Rattle.std.specs.Io.KnownBytes.{Appends}
use Rattle.xt_core.specs.Host.{IsNew}
use Rattle.xt_offline.proofs.PlayLemmas.{HasPrinted, if_ok, on_err, on_ok, stop_cut, way_all, way_begun, way_cut, way_more, way_none, way_stop, way_written}
use Rattle.xt_offline.proofs.script.play_steps.Goals.{then-are_many+in_ok-map_err, else-are_many}
use Rattle.xt_offline.proofs.script.play_steps.Goals as goal
use Rattle.xt_offline.specs.Printing.{Begins, disorder_text}

pub loop-at-init : goal.loop-at-init
loop-at-init g c =
    subst (λ l. HasPrinted [] c.in_ok-host.host l (g.W.Write.contents c.args.writer.now) (g.W.Write.contents c.args.writer.now)) (sym (if_ok c.new-2.result (Ok c.in_ok-waiting.waiting) c.in_ok-waiting.waiting _ (λ waiting. waiting ≡ []) refl c.in_ok-waiting.ensures.cases c.in_ok-waiting.ensures.variant c.new-2.ensures))
    (way_none c.in_ok-host.host (g.W.Write.contents c.args.writer.now)
    (if_ok c.new.result (Ok c.in_ok-host.host) c.in_ok-host.host _ IsNew refl c.in_ok-host.ensures.cases c.in_ok-host.ensures.variant c.new.ensures.new))

pub returns-in_err-map_err-in-Err-Disorder-clause-cut : goal.returns-in_err-map_err-in-Err-Disorder-clause-cut
returns-in_err-map_err-in-Err-Disorder-clause-cut g c =
    let stopped = c.in-Err-Disorder.ensures.disorder c.in-Err-Disorder.field-0-is in
    on_err _ _ (stop_cut c.args.steps.now c.loop-at.at c.loop-at.host c.loop-at.waiting (g.W.Write.contents c.args.writer.now) (g.W.Write.contents c.loop-at.writer) c.loop-at.invariant
    c.index-steps-at.result c.loop-at-test.true c.index-steps-at.is (g.W.Write.contents c.print_broken.new.writer) stopped.0
    (subst (λ l. Begins (g.W.Write.contents c.loop-at.writer) (g.W.Write.contents c.print_broken.new.writer) (l ++ disorder_text c.loop-at.at)) stopped.1 c.print_broken.ensures.part))

pub returns-in-Err-Disorder-clause-printed : goal.returns-in-Err-Disorder-clause-printed
returns-in-Err-Disorder-clause-printed g c =
    let stopped = c.in-Err-Disorder.ensures.disorder c.in-Err-Disorder.field-0-is in
    way_stop c.args.steps.now c.loop-at.at c.loop-at.host c.loop-at.waiting (g.W.Write.contents c.args.writer.now) (g.W.Write.contents c.loop-at.writer) c.loop-at.invariant
    c.index-steps-at.result c.loop-at-test.true c.index-steps-at.is (g.W.Write.contents c.print_broken.new.writer) stopped.0
    (subst (λ l. Appends (g.W.Write.contents c.loop-at.writer) (g.W.Write.contents c.print_broken.new.writer) (l ++ disorder_text c.loop-at.at)) stopped.1
    (on_ok c.print_broken.result _ c.in_ok-map_err-in-Err-Disorder.ensures.variant c.print_broken.ensures.all))

pub returns-in-Err-Memory-clause-cut : goal.returns-in-Err-Memory-clause-cut
returns-in-Err-Memory-clause-cut g c =
    way_cut c.args.steps.now c.loop-at.at c.loop-at.host c.loop-at.waiting (g.W.Write.contents c.args.writer.now) (g.W.Write.contents c.loop-at.writer) c.loop-at.invariant

pub returns-in_err-map_err-clause-cut : goal.returns-in_err-map_err-clause-cut
returns-in_err-map_err-clause-cut g c =
    on_err _ _ (way_begun c.args.steps.now (c.loop-at.at + 1) c.put_step.new.host c.put_step.new.waiting (g.W.Write.contents c.args.writer.now) (g.W.Write.contents c.loop-at.writer)
    (way_more c.args.steps.now c.loop-at.at c.loop-at.host c.loop-at.waiting (g.W.Write.contents c.args.writer.now) (g.W.Write.contents c.loop-at.writer) c.loop-at.invariant
    c.index-steps-at.result c.loop-at-test.true c.index-steps-at.is c.put_step.new.host c.put_step.new.waiting c.in-Ok.ensures.put)
    (g.W.Write.contents c.write.new.writer) c.write.ensures.part)

pub loop-at-preserved : goal.loop-at-preserved
loop-at-preserved g c =
    let more =
    way_more c.args.steps.now c.loop-at.at c.loop-at.host c.loop-at.waiting (g.W.Write.contents c.args.writer.now) (g.W.Write.contents c.loop-at.writer) c.loop-at.invariant
    c.index-steps-at.result c.loop-at-test.true c.index-steps-at.is c.put_step.new.host c.put_step.new.waiting c.in-Ok.ensures.put in
    elim c.if-are_many.branch [
      | then-are_many+in_ok-map_err w ↦
          rw w.writer-is (rw w.waiting-is
          (way_written (take (c.loop-at.at + 1) c.args.steps.now) c.put_step.new.host c.put_step.new.waiting w.write.new.self (g.W.Write.contents c.args.writer.now) (g.W.Write.contents c.loop-at.writer) (g.W.Write.contents w.write.new.writer) more
          (on_ok w.write.result _ w.in_ok-map_err.ensures.variant w.write.ensures.all) (on_ok w.write.result _ w.in_ok-map_err.ensures.variant w.write.ensures.none)))
      | else-are_many w ↦ rw w.writer-is (rw w.waiting-is more)
    ]

pub returns-in_err-map_err-2-clause-cut : goal.returns-in_err-map_err-2-clause-cut
returns-in_err-map_err-2-clause-cut g c =
    on_err _ _ (way_begun c.args.steps.now c.loop-at.at c.loop-at.host c.loop-at.waiting (g.W.Write.contents c.args.writer.now) (g.W.Write.contents c.loop-at.writer) c.loop-at.invariant (g.W.Write.contents c.write-2.new.writer)
    c.write-2.ensures.part)

pub returns-clause-printed : goal.returns-clause-printed
returns-clause-printed g c =
    way_all c.args.steps.now c.loop-at.at c.loop-at.host c.loop-at.waiting (g.W.Write.contents c.args.writer.now) (g.W.Write.contents c.loop-at.writer) c.loop-at.invariant (g.W.Write.contents c.write-2.new.writer) c.loop-at-test.false
    (on_ok c.write-2.result _ c.in_ok-map_err-2.ensures.variant c.write-2.ensures.all)
