use Rattle.std.proofs.Common.{ap, subst, sym, true, ◌∙◌, ◌≡◌}
use denote.Param.Object.{read_made}
use Rattle.xt_cli.specs.Logs.{loses_only_beyond}
use Rattle.xt_cli.proofs.serve.running.run.OwnLists.{at-2-1, entry-2-1, own-2, same-2-1}
use Rattle.xt_cli.proofs.serve.running.run.Goals as goal

-- the box loses what the log in it does, and that is tied to the size of the mount
pub mount-requires-clause-log : goal.mount-requires-clause-log
mount-requires-clause-log g c =
    let boxed = ap (λ y. entry-2-1.1.log_loses y) c.in_ok-log.ensures.ok in
    let loses = read_made own-2 entry-2-1 at-2-1 same-2-1 _ (λ j y. j.1.log_loses y) _ _ _ c.into_dyn_box-in-loop-opened.ensures.1 ∙ boxed in
    subst (λ l. loses_only_beyond c.in-Some.opened.geometry.log_bytes l ≡ true) (sym loses) c.in-Some.opened.tied
