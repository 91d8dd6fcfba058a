use Rattle.std.proofs.Common.{subst, sym}
use Rattle.xt_recover.proofs.GatherLemmas.{err_then}
use Rattle.xt_recover.proofs.LookLemmas.{both_looked, both_started}
use Rattle.xt_recover.specs.FilesGathering.{AreGathered, IsWhyLogFiles}
use Rattle.xt_recover.specs.Overlaid.{overlaid}
use Rattle.xt_recover.proofs.gather_files.gather_files_from.Goals as goal

pub returns-in_err-way-clause-why : goal.returns-in_err-way-clause-why
returns-in_err-way-clause-why g c =
    err_then c.from_residual-in_err-way.result _ _ c.from_residual-in_err-way.ensures.1
    (λ fault is.
    both_started (g.L.Read.remaining c.args.files.now.one) (g.L.Read.remaining c.args.files.now.other) _ _ _ _ _ _ (λ a b. IsWhyLogFiles a b fault) c.in_ok-one.ensures.opened c.in_ok-other.ensures.opened
    (λ a b one two. subst (IsWhyLogFiles a b) (sym is) (c.in_err-way.ensures.why a b one two)))

pub returns-in_err-counts-clause-why : goal.returns-in_err-counts-clause-why
returns-in_err-counts-clause-why g c =
    err_then c.from_residual-in_err-counts.result _ _ c.from_residual-in_err-counts.ensures.1
    (λ fault is.
    both_looked (g.L.Read.remaining c.args.files.now.one) (g.L.Read.remaining c.args.files.now.other) _ _ _ _ _ _ c.in_ok-way.way (λ a b. IsWhyLogFiles a b fault) c.in_ok-one.ensures.opened c.in_ok-other.ensures.opened c.in_ok-way.ensures.way
    (λ a b looked. subst (IsWhyLogFiles a b) (sym is) (c.in_err-counts.ensures.why a b looked)))

pub returns-clause-gathered : goal.returns-clause-gathered
returns-clause-gathered g c =
    both_looked (g.L.Read.remaining c.args.files.now.one) (g.L.Read.remaining c.args.files.now.other) _ _ _ _ _ _ c.in_ok-way.way (λ a b. AreGathered a b c.older_of-older.result c.in_ok-counts.counts (overlaid c.gather_way.new.overlay)) c.in_ok-one.ensures.opened c.in_ok-other.ensures.opened c.in_ok-way.ensures.way
    (λ a b looked. subst (λ o. AreGathered a b o c.in_ok-counts.counts (overlaid c.gather_way.new.overlay)) (sym c.older_of-older.ensures) (c.in_ok-counts.ensures.gathered a b looked))
