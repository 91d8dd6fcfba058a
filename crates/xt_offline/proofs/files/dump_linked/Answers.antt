use Rattle.std.proofs.Common.{rules, subst, ◌≡◌, ◌≢◌}
use Rattle.std.specs.Io.KnownBytes.{Appends}
use Rattle.xt_offline.proofs.FilesLemmas.{bad_map, either_other, linked_first, linked_second, linked_whole, ok_map, unlinked_begun, unlinked_whole}
use Rattle.xt_offline.proofs.PlayLemmas.{on_err}
use Rattle.xt_offline.specs.LogDump.{fault_line}
use Rattle.xt_offline.specs.Printing.{Begins}
use Rattle.xt_window.specs.Window.{ahead}
use Rattle.xt_offline.proofs.files.dump_linked.Goals as goal

pub returns-in_err-print_texts-clause-begun : goal.returns-in_err-print_texts-clause-begun
returns-in_err-print_texts-clause-begun g c = on_err _ _ (linked_first (ahead c.args.older.now.window (g.R.Read.remaining c.args.older_reader.now)) (ahead c.args.newer.now.window (g.R.Read.remaining c.args.newer_reader.now)) c.args.older.now c.args.newer.now _ _ c.in_err-print_texts.ensures.begun)

pub returns-then-ne-clause-printed : goal.returns-then-ne-clause-printed
returns-then-ne-clause-printed g c =
    let apart : c.print_texts.new.self.last ≢ c.args.newer.now.header.link = search rules in
    ok_map c.dump_fault.result _ _ (λ ended is. unlinked_whole (ahead c.args.older.now.window (g.R.Read.remaining c.args.older_reader.now)) (ahead c.args.newer.now.window (g.R.Read.remaining c.args.newer_reader.now)) c.args.older.now c.print_texts.new.self c.args.newer.now (g.R.Read.remaining c.print_texts.new.reader) _ _ _ ended
    c.in_ok-print_texts.ensures.printed c.in_ok-print_texts.ensures.further.0 c.in_ok-print_texts.ensures.further.1.0 apart
    (is.0, subst (λ n. Appends (g.W.Write.contents c.print_texts.new.writer) (g.W.Write.contents c.dump_fault.new.writer) (fault_line n)) c.offset.ensures.value is.1)) c.dump_fault.ensures.printed

pub returns-then-ne-clause-begun : goal.returns-then-ne-clause-begun
returns-then-ne-clause-begun g c =
    let apart : c.print_texts.new.self.last ≢ c.args.newer.now.header.link = search rules in
    on_err _ _ (unlinked_begun (ahead c.args.older.now.window (g.R.Read.remaining c.args.older_reader.now)) (ahead c.args.newer.now.window (g.R.Read.remaining c.args.newer_reader.now)) c.args.older.now c.print_texts.new.self c.args.newer.now (g.R.Read.remaining c.print_texts.new.reader) _ _ _
    c.in_ok-print_texts.ensures.printed c.in_ok-print_texts.ensures.further.0 apart
    (subst (λ n. Begins (g.W.Write.contents c.print_texts.new.writer) (g.W.Write.contents c.dump_fault.new.writer) (fault_line n)) c.offset.ensures.value c.dump_fault.ensures.begun))

pub returns-then-ne-clause-why : goal.returns-then-ne-clause-why
returns-then-ne-clause-why g c = either_other c.dump_fault.result (ahead c.args.older.now.window (g.R.Read.remaining c.args.older_reader.now)) (ahead c.args.newer.now.window (g.R.Read.remaining c.args.newer_reader.now)) c.args.older.now c.args.newer.now c.dump_fault.ensures.fault

pub returns-clause-printed : goal.returns-clause-printed
returns-clause-printed g c =
    let same : c.print_texts.new.self.last ≡ c.args.newer.now.header.link = search rules in
    ok_map c.dump_newer.result _ _ (λ ended is. linked_whole (ahead c.args.older.now.window (g.R.Read.remaining c.args.older_reader.now)) (ahead c.args.newer.now.window (g.R.Read.remaining c.args.newer_reader.now)) c.args.older.now c.print_texts.new.self c.args.newer.now (g.R.Read.remaining c.print_texts.new.reader) _ _ _ ended
    c.in_ok-print_texts.ensures.printed c.in_ok-print_texts.ensures.further.0 same is) c.dump_newer.ensures.printed

pub returns-clause-begun : goal.returns-clause-begun
returns-clause-begun g c =
    let same : c.print_texts.new.self.last ≡ c.args.newer.now.header.link = search rules in
    bad_map c.dump_newer.result _ _ (λ is. linked_second (ahead c.args.older.now.window (g.R.Read.remaining c.args.older_reader.now)) (ahead c.args.newer.now.window (g.R.Read.remaining c.args.newer_reader.now)) c.args.older.now c.print_texts.new.self c.args.newer.now (g.R.Read.remaining c.print_texts.new.reader) _ _ _
    c.in_ok-print_texts.ensures.printed c.in_ok-print_texts.ensures.further.0 same is) c.dump_newer.ensures.begun
