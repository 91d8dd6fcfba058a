use Rattle.std.proofs.Common.{arith, rules, ◌∙◌}
use Rattle.xt_host.proofs.WaitLemmas.{tried_next, tried_none}
use Rattle.xt_host.proofs.host.Host.ask_wait.Goals as goal

pub loop-init : goal.loop-init
loop-init g c = record {
  board = c.requires.board;
  rises = λ slot. omega arith;
  tried = tried_none _ _ _;
}

pub loop-preserved : goal.loop-preserved
loop-preserved g c =
    let told = c.attempt-reply.ensures in
    let held = c.loop.invariant in
    record {
      board = told.board ∙ held.board;
      rises = λ slot. let before = held.rises slot in let after = told.rises slot in omega (arith, before, after);
      tried = tried_next _ _ _ _ _ _ held.tried told.served (search rules);
    }
