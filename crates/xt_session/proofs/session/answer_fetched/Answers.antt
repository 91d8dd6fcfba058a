use Rattle.std.proofs.Common.{ap, arith, inr, length, refl, sym, ◌∙◌}
use Rattle.xt_session.proofs.CutLemmas.{counted}
use Rattle.xt_session.proofs.Loops.{broken_held, kept_last, long_answered, long_broken, room_left}
use Rattle.xt_session.proofs.session.answer_fetched.Goals as goal
use Rattle.xt_session.specs.Cut.{cut}

pub returns-in_default : goal.returns-in_default
returns-in_default g c =
    let breaks = rw c.bytes.ensures at c.in_default.ensures.fault in
    ((cut c.args.intake.now).lines, broken_held g.C.Calls.answers _ _ _ _ _ c.requires.room breaks, breaks)

pub keep_last-requires : goal.keep_last-requires
keep_last-requires g c = omega (arith, rw c.bytes.ensures at c.in-Some.ensures.left, counted c.args.intake.now)

pub returns-then-not-is_full : goal.returns-then-not-is_full
returns-then-not-is_full g c =
    let same = kept_last _ _ _ c.keep_last.ensures (rw c.bytes.ensures at c.in-Some.ensures.left) in
    (same, room_left _ _ _ same c.requires.room c.if-not-is_full.true c.is_full.ensures.1, rw c.bytes.ensures at c.in-Some.ensures.done)

pub returns-then-answer : goal.returns-then-answer
returns-then-answer g c =
    let same = kept_last _ _ _ c.keep_last.ensures (rw c.bytes.ensures at c.in-Some.ensures.left) in (
      ap length (sym same) ∙ c.is_full.ensures.0 c.if-not-is_full.false,
      long_answered g.C.Calls.answers c.args.intake.now _ _ _ _ _ _ _ (rw c.bytes.ensures at c.in-Some.ensures.done) c.if-answer.ensures (c.bytes-2.ensures ∙ same),
    )

pub returns-else-answer : goal.returns-else-answer
returns-else-answer g c =
    let same = kept_last _ _ _ c.keep_last.ensures (rw c.bytes.ensures at c.in-Some.ensures.left) in (
      _,
      inr (ap length (sym same) ∙ c.is_full.ensures.0 c.if-not-is_full.false, refl),
      long_broken g.C.Calls.answers c.args.intake.now _ _ _ _ _ _ _ (rw c.bytes.ensures at c.in-Some.ensures.done) c.if-answer.ensures (c.bytes-2.ensures ∙ same),
    )
