-- A write is offered with its answer, which is set among the answers.
use Rattle.std.proofs.Common.{◌<◌, ap, arith, length, map, ◌∙◌}
use Rattle.std.proofs.lemmas.List.{length-set, map-append}
use Rattle.xt_dev.proofs.Answered.{answered_more, failures_more, tells_more, unused_less}
use Rattle.xt_dev.specs.declared.call.HomeCall.TheVariants as HomeCall
use Rattle.xt_dev.proofs.offer_home.write_all.Goals as goal

pub loop-i-preserved : goal.loop-i-preserved
loop-i-preserved g c =
    let inside : c.loop-i.i < length c.loop-i.answers = omega arith in
    let more = answered_more c.args.writes.now c.loop-i.answers c.loop-i.i c.index-writes-i.result c.is_ok.result c.loop-i-test.true inside c.index-writes-i.is in
    record {
      size = simp length-set c.loop-i.invariant.size;
      unused = unused_less c.loop-i.answers c.loop-i.i c.is_ok.result c.loop-i.invariant.unused;
      offers =
          tells_more _ _ _ _ _ _ _ _ _ c.loop-i.invariant.offers (rw (← c.is_ok.ensures.value) at c.write.ensures.0)
          (ap (λ offers. map HomeCall.Offer offers) more ∙ map-append HomeCall.Offer _ _);
      failures = failures_more c.loop-i.answers c.loop-i.i c.is_ok.result _ _ _ inside c.loop-i.invariant.failures (rw (← c.is_ok.ensures.value) at c.write.ensures.1);
    }
