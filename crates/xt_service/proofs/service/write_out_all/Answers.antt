use Rattle.std.proofs.Common.{[], ap, rules, sym, ◌++◌, ◌∙◌}
use Rattle.std.proofs.lemmas.List.{append_assoc}
use Rattle.xt_service.proofs.SeatLemmas.{used_both, used_none}
use Rattle.xt_service.proofs.WriteLemmas.{written_again, written_none}
use Rattle.xt_service.proofs.service.write_out_all.Goals as goal

-- nothing was done yet
pub loop-init : goal.loop-init
loop-init g c = record {
  board = c.requires.board;
  queue = c.requires.queue;
  worker = search rules;
  taken = ([], search rules);
  written = written_none _ _ _ _;
  used = used_none _;
}

-- all were written out once more
pub loop-preserved : goal.loop-preserved
loop-preserved g c =
    let held = c.loop.invariant in
    let done = c.write_out_each.ensures in
    record {
      board = done.board;
      queue = done.queue;
      worker = done.worker ∙ held.worker;
      taken = (held.taken.0 ++ done.taken.0, done.taken.1 ∙ ap (λ names. names ++ done.taken.0) held.taken.1 ∙ append_assoc c.args.bench.now.pass.taken held.taken.0 done.taken.0);
      written = written_again _ _ _ _ _ _ _ _ _ held.worker done.taken.1 held.written done.written;
      used = used_both _ _ _ held.used done.used;
    }
