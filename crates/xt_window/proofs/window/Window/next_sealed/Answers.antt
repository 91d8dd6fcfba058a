use Rattle.std.proofs.Common.{[], Some, subst, sym}
use Rattle.xt_seal.specs.Seal.{Seals}
use Rattle.xt_window.proofs.WindowLemmas.{for_all_sums, is_ahead_sealed, taken_sealed}
use Rattle.xt_window.specs.Window.{IsNextSealed}
use Rattle.xt_window.proofs.window.Window.next_sealed.Goals as goal

pub returns-in-Some-clause-found : goal.returns-in-Some-clause-found
returns-in-Some-clause-found g c =
    for_all_sums c.args.self.now c.judge_next.new.self (g.R.Read.remaining c.args.reader.now) (g.R.Read.remaining c.loop.reader) c.in-Some.found c.args.sealer.now c.judge_next.new.sealer
    (λ head before seals.
    let next : IsNextSealed head before c.loop.self (Some c.in-Some.found) c.judge_next.new.sealer c.judge_next.new.self =
    subst (λ o. IsNextSealed head before c.loop.self o c.judge_next.new.sealer c.judge_next.new.self) c.in-Some.is (c.in_ok-found.ensures.judged head before (subst (λ s. Seals s head before []) (sym c.loop.invariant.1) seals)) in
    is_ahead_sealed head before c.args.self.now c.loop.self c.judge_next.new.self (g.R.Read.remaining c.args.reader.now) (g.R.Read.remaining c.loop.reader) c.in-Some.found c.judge_next.new.sealer c.loop.invariant.0 next)

pub returns-in-Some-clause-grammar : goal.returns-in-Some-clause-grammar
returns-in-Some-clause-grammar g c =
    taken_sealed c.loop.self c.judge_next.new.self c.in-Some.found c.args.sealer.now c.judge_next.new.sealer
    (λ head before seals.
    subst (λ o. IsNextSealed head before c.loop.self o c.judge_next.new.sealer c.judge_next.new.self) c.in-Some.is (c.in_ok-found.ensures.judged head before (subst (λ s. Seals s head before []) (sym c.loop.invariant.1) seals)))
