use Rattle.std.proofs.Common.{List, Some, None, refl, rules, subst, ℕ, ◌≡◌}
use Rattle.xt_offline.proofs.FilesLemmas.{alone_begun, alone_printed, alone_why, bad_map, bare_begun, bare_printed, bare_why, err_map, file_of, files_error, linked_begun, linked_printed, linked_why, nothing_printed, ok_map, strange_begun, strange_printed}
use Rattle.xt_offline.proofs.PlayLemmas.{on_err}
use Rattle.xt_offline.specs.FilesDump.{InOrder, IsFilesCut}
use Rattle.xt_window.specs.Start.{IsStart}
use Rattle.xt_window.specs.Window.{unread}
use Rattle.xt_window.specs.Ways.{IsWay}
use Rattle.xt_window.specs.declared.way.Way.{Way}
use Rattle.xt_window.specs.declared.way.Which.{Which}
use Rattle.std.specs.Prelude.{Option}
use Rattle.xt_offline.proofs.files.dump_opened.Goals as goal

pub returns-in-Some-Bare-clause-printed : goal.returns-in-Some-Bare-clause-printed
returns-in-Some-Bare-clause-printed g c =
    let way : c.way_of.result ≡ Some Way.Bare = search rules in
    ok_map c.dump_first.result _ _ (λ ended is. λ limit a b s t bound too. bare_printed limit a b c.args.one.start c.args.one.window (g.R.Read.remaining c.args.first.now) _ _ ended (subst (IsWay a b) way (c.way_of.ensures a b s.is t.is)) s bound is) c.dump_first.ensures.printed

pub returns-in-Some-Bare-clause-begun : goal.returns-in-Some-Bare-clause-begun
returns-in-Some-Bare-clause-begun g c =
    let way : c.way_of.result ≡ Some Way.Bare = search rules in
    bad_map c.dump_first.result _ _ (λ is. λ limit a b s t bound too. bare_begun limit a b c.args.one.start c.args.one.window (g.R.Read.remaining c.args.first.now) _ _ (subst (IsWay a b) way (c.way_of.ensures a b s.is t.is)) s bound is) c.dump_first.ensures.begun

pub returns-in-Some-Bare-clause-why : goal.returns-in-Some-Bare-clause-why
returns-in-Some-Bare-clause-why g c =
    let way : c.way_of.result ≡ Some Way.Bare = search rules in
    err_map c.dump_first.result _ _ (λ fault is. λ limit a b s t bound too. bare_why limit a b c.args.one.start c.args.one.window (g.R.Read.remaining c.args.first.now) fault (subst (IsWay a b) way (c.way_of.ensures a b s.is t.is)) s bound is) c.dump_first.ensures.why

pub returns-in-Some-Linked-One-default-default-clause-printed : goal.returns-in-Some-Linked-One-default-default-clause-printed
returns-in-Some-Linked-One-default-default-clause-printed g c =
    let way : c.way_of.result ≡ Some (Way.Linked Which.One c.in-Some-Linked-One-default-default.begun c.in-Some-Linked-One-default-default.next) = search rules in
    ok_map c.dump_linked.result _ _ (λ ended is. λ limit a b s t bound too. linked_printed limit a b a b Which.One Which.Other c.in-Some-Linked-One-default-default.begun.header c.in-Some-Linked-One-default-default.next.header c.new-older.result c.new-newer.result (g.R.Read.remaining c.args.first.now) (g.R.Read.remaining c.args.second.now) _ _ ended InOrder.straight (subst (IsWay a b) way (c.way_of.ensures a b s.is t.is)).2 (file_of limit a c.in-Some-Linked-One-default-default.begun Which.One c.args.one.start c.args.one.window (g.R.Read.remaining c.args.first.now) c.new-older.result (subst (IsWay a b) way (c.way_of.ensures a b s.is t.is)).0 s bound c.new-older.ensures.window c.new-older.ensures.header c.new-older.ensures.which c.new-older.ensures.unprinted) (file_of limit b c.in-Some-Linked-One-default-default.next Which.Other c.args.other.start c.args.other.window (g.R.Read.remaining c.args.second.now) c.new-newer.result (subst (IsWay a b) way (c.way_of.ensures a b s.is t.is)).1 t too c.new-newer.ensures.window c.new-newer.ensures.header c.new-newer.ensures.which c.new-newer.ensures.unprinted) is) c.dump_linked.ensures.printed

pub returns-in-Some-Linked-One-default-default-clause-begun : goal.returns-in-Some-Linked-One-default-default-clause-begun
returns-in-Some-Linked-One-default-default-clause-begun g c =
    let way : c.way_of.result ≡ Some (Way.Linked Which.One c.in-Some-Linked-One-default-default.begun c.in-Some-Linked-One-default-default.next) = search rules in
    bad_map c.dump_linked.result _ _ (λ is. λ limit a b s t bound too. linked_begun limit a b a b Which.One Which.Other c.in-Some-Linked-One-default-default.begun.header c.in-Some-Linked-One-default-default.next.header c.new-older.result c.new-newer.result (g.R.Read.remaining c.args.first.now) (g.R.Read.remaining c.args.second.now) _ _ InOrder.straight (subst (IsWay a b) way (c.way_of.ensures a b s.is t.is)).2 (file_of limit a c.in-Some-Linked-One-default-default.begun Which.One c.args.one.start c.args.one.window (g.R.Read.remaining c.args.first.now) c.new-older.result (subst (IsWay a b) way (c.way_of.ensures a b s.is t.is)).0 s bound c.new-older.ensures.window c.new-older.ensures.header c.new-older.ensures.which c.new-older.ensures.unprinted) (file_of limit b c.in-Some-Linked-One-default-default.next Which.Other c.args.other.start c.args.other.window (g.R.Read.remaining c.args.second.now) c.new-newer.result (subst (IsWay a b) way (c.way_of.ensures a b s.is t.is)).1 t too c.new-newer.ensures.window c.new-newer.ensures.header c.new-newer.ensures.which c.new-newer.ensures.unprinted) is) c.dump_linked.ensures.begun

pub returns-in-Some-Linked-One-default-default-clause-why : goal.returns-in-Some-Linked-One-default-default-clause-why
returns-in-Some-Linked-One-default-default-clause-why g c =
    let way : c.way_of.result ≡ Some (Way.Linked Which.One c.in-Some-Linked-One-default-default.begun c.in-Some-Linked-One-default-default.next) = search rules in
    err_map c.dump_linked.result _ _ (λ fault is. λ limit a b s t bound too. linked_why limit a b a b Which.One Which.Other c.in-Some-Linked-One-default-default.begun.header c.in-Some-Linked-One-default-default.next.header c.new-older.result c.new-newer.result (g.R.Read.remaining c.args.first.now) (g.R.Read.remaining c.args.second.now) fault InOrder.straight (file_of limit a c.in-Some-Linked-One-default-default.begun Which.One c.args.one.start c.args.one.window (g.R.Read.remaining c.args.first.now) c.new-older.result (subst (IsWay a b) way (c.way_of.ensures a b s.is t.is)).0 s bound c.new-older.ensures.window c.new-older.ensures.header c.new-older.ensures.which c.new-older.ensures.unprinted) (file_of limit b c.in-Some-Linked-One-default-default.next Which.Other c.args.other.start c.args.other.window (g.R.Read.remaining c.args.second.now) c.new-newer.result (subst (IsWay a b) way (c.way_of.ensures a b s.is t.is)).1 t too c.new-newer.ensures.window c.new-newer.ensures.header c.new-newer.ensures.which c.new-newer.ensures.unprinted) is) c.dump_linked.ensures.why

pub returns-in-Some-Linked-Other-default-default-clause-printed : goal.returns-in-Some-Linked-Other-default-default-clause-printed
returns-in-Some-Linked-Other-default-default-clause-printed g c =
    let way : c.way_of.result ≡ Some (Way.Linked Which.Other c.in-Some-Linked-Other-default-default.begun c.in-Some-Linked-Other-default-default.next) = search rules in
    ok_map c.dump_linked-in-Some-Linked-Other-default-default.result _ _ (λ ended is. λ limit a b s t bound too. linked_printed limit a b b a Which.Other Which.One c.in-Some-Linked-Other-default-default.begun.header c.in-Some-Linked-Other-default-default.next.header c.new-older-in-Some-Linked-Other-default-default.result c.new-newer-in-Some-Linked-Other-default-default.result (g.R.Read.remaining c.args.second.now) (g.R.Read.remaining c.args.first.now) _ _ ended InOrder.crossed (subst (IsWay a b) way (c.way_of.ensures a b s.is t.is)).2 (file_of limit b c.in-Some-Linked-Other-default-default.begun Which.Other c.args.other.start c.args.other.window (g.R.Read.remaining c.args.second.now) c.new-older-in-Some-Linked-Other-default-default.result (subst (IsWay a b) way (c.way_of.ensures a b s.is t.is)).0 t too c.new-older-in-Some-Linked-Other-default-default.ensures.window c.new-older-in-Some-Linked-Other-default-default.ensures.header c.new-older-in-Some-Linked-Other-default-default.ensures.which c.new-older-in-Some-Linked-Other-default-default.ensures.unprinted) (file_of limit a c.in-Some-Linked-Other-default-default.next Which.One c.args.one.start c.args.one.window (g.R.Read.remaining c.args.first.now) c.new-newer-in-Some-Linked-Other-default-default.result (subst (IsWay a b) way (c.way_of.ensures a b s.is t.is)).1 s bound c.new-newer-in-Some-Linked-Other-default-default.ensures.window c.new-newer-in-Some-Linked-Other-default-default.ensures.header c.new-newer-in-Some-Linked-Other-default-default.ensures.which c.new-newer-in-Some-Linked-Other-default-default.ensures.unprinted) is) c.dump_linked-in-Some-Linked-Other-default-default.ensures.printed

pub returns-in-Some-Linked-Other-default-default-clause-begun : goal.returns-in-Some-Linked-Other-default-default-clause-begun
returns-in-Some-Linked-Other-default-default-clause-begun g c =
    let way : c.way_of.result ≡ Some (Way.Linked Which.Other c.in-Some-Linked-Other-default-default.begun c.in-Some-Linked-Other-default-default.next) = search rules in
    bad_map c.dump_linked-in-Some-Linked-Other-default-default.result _ _ (λ is. λ limit a b s t bound too. linked_begun limit a b b a Which.Other Which.One c.in-Some-Linked-Other-default-default.begun.header c.in-Some-Linked-Other-default-default.next.header c.new-older-in-Some-Linked-Other-default-default.result c.new-newer-in-Some-Linked-Other-default-default.result (g.R.Read.remaining c.args.second.now) (g.R.Read.remaining c.args.first.now) _ _ InOrder.crossed (subst (IsWay a b) way (c.way_of.ensures a b s.is t.is)).2 (file_of limit b c.in-Some-Linked-Other-default-default.begun Which.Other c.args.other.start c.args.other.window (g.R.Read.remaining c.args.second.now) c.new-older-in-Some-Linked-Other-default-default.result (subst (IsWay a b) way (c.way_of.ensures a b s.is t.is)).0 t too c.new-older-in-Some-Linked-Other-default-default.ensures.window c.new-older-in-Some-Linked-Other-default-default.ensures.header c.new-older-in-Some-Linked-Other-default-default.ensures.which c.new-older-in-Some-Linked-Other-default-default.ensures.unprinted) (file_of limit a c.in-Some-Linked-Other-default-default.next Which.One c.args.one.start c.args.one.window (g.R.Read.remaining c.args.first.now) c.new-newer-in-Some-Linked-Other-default-default.result (subst (IsWay a b) way (c.way_of.ensures a b s.is t.is)).1 s bound c.new-newer-in-Some-Linked-Other-default-default.ensures.window c.new-newer-in-Some-Linked-Other-default-default.ensures.header c.new-newer-in-Some-Linked-Other-default-default.ensures.which c.new-newer-in-Some-Linked-Other-default-default.ensures.unprinted) is) c.dump_linked-in-Some-Linked-Other-default-default.ensures.begun

pub returns-in-Some-Linked-Other-default-default-clause-why : goal.returns-in-Some-Linked-Other-default-default-clause-why
returns-in-Some-Linked-Other-default-default-clause-why g c =
    let way : c.way_of.result ≡ Some (Way.Linked Which.Other c.in-Some-Linked-Other-default-default.begun c.in-Some-Linked-Other-default-default.next) = search rules in
    err_map c.dump_linked-in-Some-Linked-Other-default-default.result _ _ (λ fault is. λ limit a b s t bound too. linked_why limit a b b a Which.Other Which.One c.in-Some-Linked-Other-default-default.begun.header c.in-Some-Linked-Other-default-default.next.header c.new-older-in-Some-Linked-Other-default-default.result c.new-newer-in-Some-Linked-Other-default-default.result (g.R.Read.remaining c.args.second.now) (g.R.Read.remaining c.args.first.now) fault InOrder.crossed (file_of limit b c.in-Some-Linked-Other-default-default.begun Which.Other c.args.other.start c.args.other.window (g.R.Read.remaining c.args.second.now) c.new-older-in-Some-Linked-Other-default-default.result (subst (IsWay a b) way (c.way_of.ensures a b s.is t.is)).0 t too c.new-older-in-Some-Linked-Other-default-default.ensures.window c.new-older-in-Some-Linked-Other-default-default.ensures.header c.new-older-in-Some-Linked-Other-default-default.ensures.which c.new-older-in-Some-Linked-Other-default-default.ensures.unprinted) (file_of limit a c.in-Some-Linked-Other-default-default.next Which.One c.args.one.start c.args.one.window (g.R.Read.remaining c.args.first.now) c.new-newer-in-Some-Linked-Other-default-default.result (subst (IsWay a b) way (c.way_of.ensures a b s.is t.is)).1 s bound c.new-newer-in-Some-Linked-Other-default-default.ensures.window c.new-newer-in-Some-Linked-Other-default-default.ensures.header c.new-newer-in-Some-Linked-Other-default-default.ensures.which c.new-newer-in-Some-Linked-Other-default-default.ensures.unprinted) is) c.dump_linked-in-Some-Linked-Other-default-default.ensures.why

pub returns-in-Some-Alone-Other-default-clause-printed : goal.returns-in-Some-Alone-Other-default-clause-printed
returns-in-Some-Alone-Other-default-clause-printed g c =
    let way : c.way_of.result ≡ Some (Way.Alone Which.Other c.in-Some-Alone-Other-default.begun) = search rules in
    ok_map c.dump_newer.result _ _ (λ ended is. λ limit a b s t bound too. alone_printed limit a b a b Which.One Which.Other c.in-Some-Alone-Other-default.begun.header c.new-file.result (g.R.Read.remaining c.args.first.now) _ _ ended InOrder.straight (subst (IsWay a b) way (c.way_of.ensures a b s.is t.is)).1 (file_of limit a c.in-Some-Alone-Other-default.begun Which.One c.args.one.start c.args.one.window (g.R.Read.remaining c.args.first.now) c.new-file.result (subst (IsWay a b) way (c.way_of.ensures a b s.is t.is)).0 s bound c.new-file.ensures.window c.new-file.ensures.header c.new-file.ensures.which c.new-file.ensures.unprinted) is) c.dump_newer.ensures.printed

pub returns-in-Some-Alone-Other-default-clause-begun : goal.returns-in-Some-Alone-Other-default-clause-begun
returns-in-Some-Alone-Other-default-clause-begun g c =
    let way : c.way_of.result ≡ Some (Way.Alone Which.Other c.in-Some-Alone-Other-default.begun) = search rules in
    bad_map c.dump_newer.result _ _ (λ is. λ limit a b s t bound too. alone_begun limit a b a b Which.One Which.Other c.in-Some-Alone-Other-default.begun.header c.new-file.result (g.R.Read.remaining c.args.first.now) _ _ InOrder.straight (subst (IsWay a b) way (c.way_of.ensures a b s.is t.is)).1 (file_of limit a c.in-Some-Alone-Other-default.begun Which.One c.args.one.start c.args.one.window (g.R.Read.remaining c.args.first.now) c.new-file.result (subst (IsWay a b) way (c.way_of.ensures a b s.is t.is)).0 s bound c.new-file.ensures.window c.new-file.ensures.header c.new-file.ensures.which c.new-file.ensures.unprinted) is) c.dump_newer.ensures.begun

pub returns-in-Some-Alone-Other-default-clause-why : goal.returns-in-Some-Alone-Other-default-clause-why
returns-in-Some-Alone-Other-default-clause-why g c =
    let way : c.way_of.result ≡ Some (Way.Alone Which.Other c.in-Some-Alone-Other-default.begun) = search rules in
    err_map c.dump_newer.result _ _ (λ fault is. λ limit a b s t bound too. alone_why limit a b a b Which.One Which.Other c.in-Some-Alone-Other-default.begun.header c.new-file.result (g.R.Read.remaining c.args.first.now) fault InOrder.straight (file_of limit a c.in-Some-Alone-Other-default.begun Which.One c.args.one.start c.args.one.window (g.R.Read.remaining c.args.first.now) c.new-file.result (subst (IsWay a b) way (c.way_of.ensures a b s.is t.is)).0 s bound c.new-file.ensures.window c.new-file.ensures.header c.new-file.ensures.which c.new-file.ensures.unprinted) is) c.dump_newer.ensures.why

pub returns-in-Some-Alone-One-default-clause-printed : goal.returns-in-Some-Alone-One-default-clause-printed
returns-in-Some-Alone-One-default-clause-printed g c =
    let way : c.way_of.result ≡ Some (Way.Alone Which.One c.in-Some-Alone-One-default.begun) = search rules in
    ok_map c.dump_newer-in-Some-Alone-One-default.result _ _ (λ ended is. λ limit a b s t bound too. alone_printed limit a b b a Which.Other Which.One c.in-Some-Alone-One-default.begun.header c.new-file-in-Some-Alone-One-default.result (g.R.Read.remaining c.args.second.now) _ _ ended InOrder.crossed (subst (IsWay a b) way (c.way_of.ensures a b s.is t.is)).0 (file_of limit b c.in-Some-Alone-One-default.begun Which.Other c.args.other.start c.args.other.window (g.R.Read.remaining c.args.second.now) c.new-file-in-Some-Alone-One-default.result (subst (IsWay a b) way (c.way_of.ensures a b s.is t.is)).1 t too c.new-file-in-Some-Alone-One-default.ensures.window c.new-file-in-Some-Alone-One-default.ensures.header c.new-file-in-Some-Alone-One-default.ensures.which c.new-file-in-Some-Alone-One-default.ensures.unprinted) is) c.dump_newer-in-Some-Alone-One-default.ensures.printed

pub returns-in-Some-Alone-One-default-clause-begun : goal.returns-in-Some-Alone-One-default-clause-begun
returns-in-Some-Alone-One-default-clause-begun g c =
    let way : c.way_of.result ≡ Some (Way.Alone Which.One c.in-Some-Alone-One-default.begun) = search rules in
    bad_map c.dump_newer-in-Some-Alone-One-default.result _ _ (λ is. λ limit a b s t bound too. alone_begun limit a b b a Which.Other Which.One c.in-Some-Alone-One-default.begun.header c.new-file-in-Some-Alone-One-default.result (g.R.Read.remaining c.args.second.now) _ _ InOrder.crossed (subst (IsWay a b) way (c.way_of.ensures a b s.is t.is)).0 (file_of limit b c.in-Some-Alone-One-default.begun Which.Other c.args.other.start c.args.other.window (g.R.Read.remaining c.args.second.now) c.new-file-in-Some-Alone-One-default.result (subst (IsWay a b) way (c.way_of.ensures a b s.is t.is)).1 t too c.new-file-in-Some-Alone-One-default.ensures.window c.new-file-in-Some-Alone-One-default.ensures.header c.new-file-in-Some-Alone-One-default.ensures.which c.new-file-in-Some-Alone-One-default.ensures.unprinted) is) c.dump_newer-in-Some-Alone-One-default.ensures.begun

pub returns-in-Some-Alone-One-default-clause-why : goal.returns-in-Some-Alone-One-default-clause-why
returns-in-Some-Alone-One-default-clause-why g c =
    let way : c.way_of.result ≡ Some (Way.Alone Which.One c.in-Some-Alone-One-default.begun) = search rules in
    err_map c.dump_newer-in-Some-Alone-One-default.result _ _ (λ fault is. λ limit a b s t bound too. alone_why limit a b b a Which.Other Which.One c.in-Some-Alone-One-default.begun.header c.new-file-in-Some-Alone-One-default.result (g.R.Read.remaining c.args.second.now) fault InOrder.crossed (file_of limit b c.in-Some-Alone-One-default.begun Which.Other c.args.other.start c.args.other.window (g.R.Read.remaining c.args.second.now) c.new-file-in-Some-Alone-One-default.result (subst (IsWay a b) way (c.way_of.ensures a b s.is t.is)).1 t too c.new-file-in-Some-Alone-One-default.ensures.window c.new-file-in-Some-Alone-One-default.ensures.header c.new-file-in-Some-Alone-One-default.ensures.which c.new-file-in-Some-Alone-One-default.ensures.unprinted) is) c.dump_newer-in-Some-Alone-One-default.ensures.why

pub returns-in-Some-Nothing-clause-printed : goal.returns-in-Some-Nothing-clause-printed
returns-in-Some-Nothing-clause-printed g c =
    let way : c.way_of.result ≡ Some Way.Nothing = search rules in
    λ limit a b s t bound too. nothing_printed limit a b _ _ (subst (IsWay a b) way (c.way_of.ensures a b s.is t.is)).1 (subst (IsWay a b) way (c.way_of.ensures a b s.is t.is)).2 (subst (IsWay a b) way (c.way_of.ensures a b s.is t.is)).0 refl

pub returns-in-None-clause-printed : goal.returns-in-None-clause-printed
returns-in-None-clause-printed g c =
    let way : ◌≡◌ {A = Option Way} c.way_of.result None = search rules in
    ok_map c.dump_fault.result _ _ (λ ended is. λ limit a b s t bound too. strange_printed limit a b _ _ ended (subst (IsWay a b) way (c.way_of.ensures a b s.is t.is)) is) c.dump_fault.ensures.printed

pub returns-in-None-clause-begun : goal.returns-in-None-clause-begun
returns-in-None-clause-begun g c =
    let way : ◌≡◌ {A = Option Way} c.way_of.result None = search rules in
    on_err c.dump_fault.result ((limit : ℕ) (a b : List ℕ) → IsStart (unread limit) a c.args.one.start c.args.one.window (g.R.Read.remaining c.args.first.now) → IsStart (unread limit) b c.args.other.start c.args.other.window (g.R.Read.remaining c.args.second.now) → c.args.one.window.limit ≡ limit → c.args.other.window.limit ≡ limit
    → IsFilesCut limit a b (g.W.Write.contents c.args.writer.now) (g.W.Write.contents c.dump_fault.new.writer)) (λ limit a b s t bound too. strange_begun limit a b _ _ (subst (IsWay a b) way (c.way_of.ensures a b s.is t.is)) c.dump_fault.ensures.begun)

pub returns-in-None-clause-why : goal.returns-in-None-clause-why
returns-in-None-clause-why g c =
    let way : ◌≡◌ {A = Option Way} c.way_of.result None = search rules in
    err_map c.dump_fault.result _ _ (λ fault is. λ limit a b s t bound too. files_error limit a b fault is) c.dump_fault.ensures.fault
