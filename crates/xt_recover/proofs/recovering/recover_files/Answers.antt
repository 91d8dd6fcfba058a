use Rattle.xt_recover.proofs.ImageLemmas.{broken_off, recovered_tells}
use Rattle.xt_recover.proofs.LookLemmas.{both_then, laid_files}
use Rattle.xt_recover.specs.FilesRead.{ReadsLog}
use Rattle.xt_recover.specs.Overlaid.{overlaid}
use Rattle.xt_recover.proofs.recovering.recover_files.Goals as goal

pub returns-in-Ok-recover_gathered-clause-recovered : goal.returns-in-Ok-recover_gathered-clause-recovered
returns-in-Ok-recover_gathered-clause-recovered g c =
    both_then (g.L.Read.remaining c.args.files.now.one) (g.L.Read.remaining c.args.files.now.other) _ _ c.in-Ok.ensures.gathered
    (λ one other is.
    recovered_tells (λ size texts. ReadsLog size one other texts) (overlaid c.in-Ok.field-0.gathered.overlay) (g.H.HomeDevice.home_tells c.args.home.now) (g.H.HomeDevice.home_tells c.recover_gathered.new.home) (g.H.HomeDevice.home_taken c.args.home.now)
    (g.H.HomeDevice.home_taken c.recover_gathered.new.home)
    (laid_files one other c.in-Ok.field-0.older c.in-Ok.field-0.gathered.counts (overlaid c.in-Ok.field-0.gathered.overlay) is) c.in-Ok-recover_gathered.ensures.written)

pub returns-in-Ok-clause-part : goal.returns-in-Ok-clause-part
returns-in-Ok-clause-part g c = λ failed.
    both_then (g.L.Read.remaining c.args.files.now.one) (g.L.Read.remaining c.args.files.now.other) _ _ c.in-Ok.ensures.gathered
    (λ one other is.
    broken_off (λ size texts. ReadsLog size one other texts) (overlaid c.in-Ok.field-0.gathered.overlay) (g.H.HomeDevice.home_tells c.args.home.now) (g.H.HomeDevice.home_tells c.recover_gathered.new.home) (g.H.HomeDevice.home_taken c.args.home.now)
    (g.H.HomeDevice.home_taken c.recover_gathered.new.home)
    (laid_files one other c.in-Ok.field-0.older c.in-Ok.field-0.gathered.counts (overlaid c.in-Ok.field-0.gathered.overlay) is) (c.in-Err-recover_gathered.ensures.stopped failed))
