use Rattle.xt_frames.specs.Contents.{contents_of}
use Rattle.xt_journal.proofs.KeepLemmas.{logged_stays}
use Rattle.xt_journal.proofs.TieLemmas.{tied_same}
use Rattle.xt_journal.proofs.journal.Journal.log_in_place.Goals as goal

pub invariant_of-self : goal.invariant_of-self
invariant_of-self c =
    let now = c.self.inside in
    tied_same now.form.size now.items (contents_of now.frames) now.shut c.self.invariant (contents_of c.log.new.self)
    (logged_stays c.log.result c.args.block c.args.first c.args.bytes.now now.frames c.log.new.self c.frames_rise.ensures c.log.ensures.ok c.log.ensures.err)
