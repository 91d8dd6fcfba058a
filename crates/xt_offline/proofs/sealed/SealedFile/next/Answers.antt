use Rattle.xt_offline.proofs.SealedLemmas.{short_next}
use Rattle.xt_seal.specs.Headers.{head_bytes}
use Rattle.xt_offline.proofs.sealed.SealedFile.next.Goals as goal

pub returns-in-Ok-Some-clause-short : goal.returns-in-Ok-Some-clause-short
returns-in-Ok-Some-clause-short g c =
    short_next c.in-Ok-Some.field-0 c.in-Ok-Some.found (head_bytes c.args.self.now.header) c.args.self.now.last c.args.self.now.sealer c.next_sealed.new.sealer c.in-Ok-Some.field-0-is c.requires.chained c.in-Ok-Some.ensures.grammar
