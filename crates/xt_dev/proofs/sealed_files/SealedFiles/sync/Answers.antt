-- Where no text is begun nothing changes; else its seal stands behind it.
use Rattle.std.proofs.Common.{rules, true, ◌≡◌}
use Rattle.std.proofs.lemmas.Result.{on_ok_weaker}
use Rattle.xt_dev.proofs.Sealed.{newer_settled, sealed_settled, sync_holds}
use Rattle.xt_seal.specs.Headers.{head_bytes}
use Rattle.xt_dev.specs.TwoFiles.{part_seal}
use Rattle.xt_dev.proofs.sealed_files.SealedFiles.sync.Goals as goal

pub returns-clause-kept : goal.returns-clause-kept
returns-clause-kept g c =
    on_ok_weaker c.sync_data-2.result (λ safe log held.
    let stored = g.S.Segment.stored in
    let within : c.args.self.now.is_within ≡ true = search rules in
    let more = c.in_ok-append.ensures.stored (newer_settled _ log held.newer) in
    sync_holds stored c.args.self.now log _ _ _ _ held within
    (c.seal-seal.ensures.seal (head_bytes log.newer.header) (part_seal log.newer) log.begun held.sums) (c.seal-seal.ensures.next (head_bytes log.newer.header) (part_seal log.newer) log.begun held.sums) more
    (safe (sealed_settled _ _ log _ held.newer more))) c.sync_data-2.ensures.stored
