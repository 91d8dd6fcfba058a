use Rattle.xt_cli.proofs.LookLemmas.{looks_more}
use Rattle.xt_cli.proofs.serve.ending.all_shut.Goals as goal
use Rattle.xt_cli.specs.Ends.{Looks.none}

-- no slot was looked at yet
pub loop-at-init : goal.loop-at-init
loop-at-init g c = record { board = c.requires.board; looks = none }

-- one more was
pub loop-at-preserved : goal.loop-at-preserved
loop-at-preserved g c =
    let held = c.loop-at.invariant in
    record {
      board = c.shut_of.ensures.board;
      looks = looks_more _ _ _ _ _ _ _ _ _ c.loop-at-test.true c.at-item.is c.index.ensures.value held.looks c.shut_of.ensures.seen;
    }
