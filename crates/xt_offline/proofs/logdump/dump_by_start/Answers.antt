use Rattle.std.proofs.Common.{subst}
use Rattle.std.specs.Prelude.{IfSome}
use Rattle.xt_offline.proofs.DumpLemmas.{begun_none}
use Rattle.xt_offline.proofs.FilesLemmas.{bad_map, err_map, ok_map}
use Rattle.xt_offline.proofs.OpenLemmas.{bare_begun, bare_printed, bare_why, one_begun, one_printed, one_why}
use Rattle.xt_offline.proofs.PlayLemmas.{on_err}
use Rattle.xt_window.specs.Start.{IsStart}
use Rattle.xt_window.specs.Window.{unread}
use Rattle.xt_offline.proofs.logdump.dump_by_start.Goals as goal

pub returns-in_err-start-clause-begun : goal.returns-in_err-start-clause-begun
returns-in_err-start-clause-begun g c = on_err _ _ (begun_none c.args.limit (g.R.Read.remaining c.args.reader.now) (g.W.Write.contents c.args.writer.now))

pub returns-in-Sealed-clause-printed : goal.returns-in-Sealed-clause-printed
returns-in-Sealed-clause-printed g c =
    ok_map c.dump.result _ _ (λ status is. one_printed c.args.limit (g.R.Read.remaining c.args.reader.now) c.in-Sealed.header c.in-Sealed.field-1 c.in_ok-start.field-0.window (g.R.Read.remaining c.open_file.new.reader) _ _ c.new-file.result status (subst (λ x. IfSome (g.R.Read.remaining c.args.reader.now) (λ log. IsStart (unread c.args.limit) log x c.in_ok-start.field-0.window (g.R.Read.remaining c.open_file.new.reader))) c.in-Sealed.is c.in_ok-start.ensures.opened)
    c.new-file.ensures.window c.new-file.ensures.header c.new-file.ensures.unprinted is) c.dump.ensures.printed

pub returns-in-Sealed-clause-begun : goal.returns-in-Sealed-clause-begun
returns-in-Sealed-clause-begun g c =
    bad_map c.dump.result _ _ (λ is. one_begun c.args.limit (g.R.Read.remaining c.args.reader.now) c.in-Sealed.header c.in-Sealed.field-1 c.in_ok-start.field-0.window (g.R.Read.remaining c.open_file.new.reader) _ _ c.new-file.result (subst (λ x. IfSome (g.R.Read.remaining c.args.reader.now) (λ log. IsStart (unread c.args.limit) log x c.in_ok-start.field-0.window (g.R.Read.remaining c.open_file.new.reader))) c.in-Sealed.is c.in_ok-start.ensures.opened)
    c.new-file.ensures.window c.new-file.ensures.header c.new-file.ensures.unprinted is) c.dump.ensures.begun

pub returns-in-Sealed-clause-why : goal.returns-in-Sealed-clause-why
returns-in-Sealed-clause-why g c =
    err_map c.dump.result _ _ (λ fault is. one_why c.args.limit (g.R.Read.remaining c.args.reader.now) c.in-Sealed.header c.in-Sealed.field-1 c.in_ok-start.field-0.window (g.R.Read.remaining c.open_file.new.reader) c.new-file.result fault (subst (λ x. IfSome (g.R.Read.remaining c.args.reader.now) (λ log. IsStart (unread c.args.limit) log x c.in_ok-start.field-0.window (g.R.Read.remaining c.open_file.new.reader))) c.in-Sealed.is c.in_ok-start.ensures.opened)
    c.new-file.ensures.window c.in_ok-start.ensures.limit c.new-file.ensures.which c.new-file.ensures.unprinted is) c.dump.ensures.why

pub returns-in-Other-clause-printed : goal.returns-in-Other-clause-printed
returns-in-Other-clause-printed g c =
    ok_map c.dump_bare.result _ _ (λ status is. bare_printed c.args.limit (g.R.Read.remaining c.args.reader.now) c.in-Other.field-0 c.in_ok-start.field-0.window (g.R.Read.remaining c.open_file.new.reader) _ _ status (subst (λ x. IfSome (g.R.Read.remaining c.args.reader.now) (λ log. IsStart (unread c.args.limit) log x c.in_ok-start.field-0.window (g.R.Read.remaining c.open_file.new.reader))) c.in-Other.is c.in_ok-start.ensures.opened) c.in_ok-start.ensures.limit is) c.dump_bare.ensures.printed

pub returns-in-Other-clause-begun : goal.returns-in-Other-clause-begun
returns-in-Other-clause-begun g c =
    bad_map c.dump_bare.result _ _ (λ is. bare_begun c.args.limit (g.R.Read.remaining c.args.reader.now) c.in-Other.field-0 c.in_ok-start.field-0.window (g.R.Read.remaining c.open_file.new.reader) _ _ (subst (λ x. IfSome (g.R.Read.remaining c.args.reader.now) (λ log. IsStart (unread c.args.limit) log x c.in_ok-start.field-0.window (g.R.Read.remaining c.open_file.new.reader))) c.in-Other.is c.in_ok-start.ensures.opened) c.in_ok-start.ensures.limit is) c.dump_bare.ensures.begun

pub returns-in-Other-clause-why : goal.returns-in-Other-clause-why
returns-in-Other-clause-why g c =
    err_map c.dump_bare.result _ _ (λ fault is. bare_why c.args.limit (g.R.Read.remaining c.args.reader.now) c.in-Other.field-0 c.in_ok-start.field-0.window (g.R.Read.remaining c.open_file.new.reader) fault (subst (λ x. IfSome (g.R.Read.remaining c.args.reader.now) (λ log. IsStart (unread c.args.limit) log x c.in_ok-start.field-0.window (g.R.Read.remaining c.open_file.new.reader))) c.in-Other.is c.in_ok-start.ensures.opened) c.in_ok-start.ensures.limit is) c.dump_bare.ensures.why
