use Rattle.std.proofs.Common.{Some, None, length, rules, ◌≡◌}
use Rattle.std.specs.Io.KnownBytes.{Appends}
use Rattle.std.specs.Prelude.{IfSome}
use Rattle.xt_offline.proofs.DumpLemmas.{begun_found, begun_here, printed_found, short_found, stands_first, stands_more, why_whole}
use Rattle.xt_offline.proofs.PlayLemmas.{on_err}
use Rattle.xt_offline.specs.LogDump.{found_lines, status_after, whole_log}
use Rattle.xt_offline.specs.SealedDump.{IsFileWhy}
use Rattle.xt_window.specs.declared.way.Which.{Which}
use Rattle.xt_offline.proofs.logdump.dump_bare.Goals as goal

pub loop-init : goal.loop-init
loop-init g c = record {
  stands = stands_first c.args.window (g.R.Read.remaining c.args.reader.now) (g.W.Write.contents c.args.writer.now);
  tied = c.requires.ended;
}

pub returns-in_err-found-clause-begun : goal.returns-in_err-found-clause-begun
returns-in_err-found-clause-begun g c = on_err _ _ (begun_here c.args.window.limit (whole_log c.args.window (g.R.Read.remaining c.args.reader.now)) c.loop.window (g.R.Read.remaining c.loop.reader) _ _ c.loop.invariant.stands)

pub returns-in_err-found-clause-why : goal.returns-in_err-found-clause-why
returns-in_err-found-clause-why g c =
    let why : IfSome (whole_log c.args.window (g.R.Read.remaining c.args.reader.now)) (λ log. IsFileWhy Which.One c.args.window.limit (length log) c.in_err-found.field-0.0) =
    why_whole c.args.window.limit (whole_log c.args.window (g.R.Read.remaining c.args.reader.now)) c.loop.window (g.R.Read.remaining c.loop.reader) _ _ c.in_err-found.field-0.0 c.loop.invariant.stands c.in_err-found.ensures.fault in
    search rules

pub returns-in_err-status-clause-begun : goal.returns-in_err-status-clause-begun
returns-in_err-status-clause-begun g c =
    on_err _ _ (begun_found c.args.window.limit (whole_log c.args.window (g.R.Read.remaining c.args.reader.now)) c.loop.window c.next_found.new.window (g.R.Read.remaining c.loop.reader) (g.R.Read.remaining c.next_found.new.reader) _ _ _ c.in_ok-found.found
    c.loop.invariant.stands c.in_ok-found.ensures.found c.print_found.ensures.part)

pub returns-in-Some-clause-printed : goal.returns-in-Some-clause-printed
returns-in-Some-clause-printed g c =
    let all : Appends (g.W.Write.contents c.loop.writer) (g.W.Write.contents c.print_found.new.writer) (found_lines c.in_ok-found.found) = search rules in
    let over : status_after c.in_ok-found.found ≡ Some c.in-Some.status = search rules in
    printed_found c.args.window.limit (whole_log c.args.window (g.R.Read.remaining c.args.reader.now)) c.loop.window c.next_found.new.window (g.R.Read.remaining c.loop.reader) (g.R.Read.remaining c.next_found.new.reader) _ _ _ c.in_ok-found.found c.in-Some.status
    c.loop.invariant.stands c.in_ok-found.ensures.found all over

pub loop-preserved : goal.loop-preserved
loop-preserved g c =
    let all : Appends (g.W.Write.contents c.loop.writer) (g.W.Write.contents c.print_found.new.writer) (found_lines c.in_ok-found.found) = search rules in
    let on : status_after c.in_ok-found.found ≡ None = search rules in
    record {
      stands = stands_more c.args.window.limit (whole_log c.args.window (g.R.Read.remaining c.args.reader.now)) c.loop.window c.next_found.new.window (g.R.Read.remaining c.loop.reader) (g.R.Read.remaining c.next_found.new.reader) _ _ _ c.in_ok-found.found
          c.loop.invariant.stands c.in_ok-found.ensures.found all on c.in_ok-found.ensures.limit;
      tied = c.in_ok-found.ensures.tied;
    }

pub returns-clause-begun : goal.returns-clause-begun
returns-clause-begun g c = begun_here c.args.window.limit (whole_log c.args.window (g.R.Read.remaining c.args.reader.now)) c.loop.window (g.R.Read.remaining c.loop.reader) _ _ c.loop.invariant.stands

pub print_found-requires : goal.print_found-requires
print_found-requires g c = record { short = short_found c.in_ok-found.found c.in_ok-found.ensures.grammar }
