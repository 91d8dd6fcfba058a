use Rattle.xt_recover.proofs.ImageLemmas.{broken_known, recovered_known}
use Rattle.xt_recover.specs.Overlaid.{overlaid}
use Rattle.xt_recover.proofs.recovering.recover.Goals as goal

pub returns-in-Ok-write_gathered-clause-recovered : goal.returns-in-Ok-write_gathered-clause-recovered
returns-in-Ok-write_gathered-clause-recovered g c =
    recovered_known (g.L.Read.remaining c.args.log.now) c.in-Ok.field-0.counts (overlaid c.in-Ok.field-0.overlay) (g.H.HomeDevice.home_tells c.args.home.now) (g.H.HomeDevice.home_tells c.write_gathered.new.home) (g.H.HomeDevice.home_taken c.args.home.now)
    (g.H.HomeDevice.home_taken c.write_gathered.new.home) c.in-Ok.ensures.gathered c.in-Ok-write_gathered.ensures.written

pub returns-in-Ok-clause-part : goal.returns-in-Ok-clause-part
returns-in-Ok-clause-part g c = λ failed.
    broken_known (g.L.Read.remaining c.args.log.now) c.in-Ok.field-0.counts (overlaid c.in-Ok.field-0.overlay) (g.H.HomeDevice.home_tells c.args.home.now) (g.H.HomeDevice.home_tells c.write_gathered.new.home) (g.H.HomeDevice.home_taken c.args.home.now)
    (g.H.HomeDevice.home_taken c.write_gathered.new.home) c.in-Ok.ensures.gathered (c.in-Err-write_gathered.ensures.stopped failed)
