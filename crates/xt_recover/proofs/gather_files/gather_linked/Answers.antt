use Rattle.std.proofs.Common.{[], refl, subst, sym}
use Rattle.xt_recover.proofs.FilesLemmas.{fault_then, linked_gathered, newer_linked, nothing_yet, ok_then, older_linked, so_far_begun}
use Rattle.xt_recover.proofs.GatherLemmas.{err_then}
use Rattle.xt_recover.specs.FilesGathering.{IsOlderRead, IsWhyOlder}
use Rattle.xt_recover.specs.Overlaid.{overlaid}
use Rattle.xt_recover.proofs.gather_files.gather_linked.Goals as goal

pub returns-in_err-texts-clause-why : goal.returns-in_err-texts-clause-why
returns-in_err-texts-clause-why g c =
    err_then c.from_residual.result _ _ c.from_residual.ensures.1
    (λ fault is a b first second follows.
    older_linked a b c.args.older.which c.args.newer.which c.args.older.header c.args.newer.header second.more fault second.begins follows
    (subst (IsWhyOlder a c.args.older.which c.args.older.header c.args.newer.header.link) (sym is)
    (c.in_err-texts.ensures.why a
    (so_far_begun a [] c.args.older (g.L.Read.remaining c.args.log.now) 0 (overlaid c.args.overlay.now) first refl (nothing_yet (overlaid c.args.overlay.now) c.requires.none)))))

pub returns-clause-gathered : goal.returns-clause-gathered
returns-clause-gathered g c =
    ok_then c.lay_newer.result _ _ c.lay_newer.ensures.read
    (λ counts read a b first second follows.
    let old : IsOlderRead a c.args.older.header c.args.newer.header.link c.in_ok-texts.texts (overlaid c.lay_older.new.overlay) = c.in_ok-texts.ensures.read a
    (so_far_begun a [] c.args.older (g.L.Read.remaining c.args.log.now) 0 (overlaid c.args.overlay.now) first refl (nothing_yet (overlaid c.args.overlay.now) c.requires.none)) in
    linked_gathered a b c.args.older.header c.args.newer.header c.in_ok-texts.texts (overlaid c.lay_older.new.overlay) (overlaid c.lay_newer.new.overlay) counts old follows
    (read b old.front (so_far_begun b old.front c.args.newer (g.L.Read.remaining c.args.next.now) c.in_ok-texts.texts (overlaid c.lay_older.new.overlay) second old.count old.laid)))

pub returns-clause-why : goal.returns-clause-why
returns-clause-why g c =
    fault_then c.lay_newer.result _ _ c.lay_newer.ensures.why
    (λ fault why a b first second follows.
    let old : IsOlderRead a c.args.older.header c.args.newer.header.link c.in_ok-texts.texts (overlaid c.lay_older.new.overlay) = c.in_ok-texts.ensures.read a
    (so_far_begun a [] c.args.older (g.L.Read.remaining c.args.log.now) 0 (overlaid c.args.overlay.now) first refl (nothing_yet (overlaid c.args.overlay.now) c.requires.none)) in
    newer_linked a b c.args.older.which c.args.newer.which c.args.older.header c.args.newer.header c.in_ok-texts.texts (overlaid c.lay_older.new.overlay) fault old follows
    (why b old.front (so_far_begun b old.front c.args.newer (g.L.Read.remaining c.args.next.now) c.in_ok-texts.texts (overlaid c.lay_older.new.overlay) second old.count old.laid)))
