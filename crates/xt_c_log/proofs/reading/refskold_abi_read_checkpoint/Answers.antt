use Rattle.std.proofs.Common.{inl, refl, rules}
use Rattle.xt_c_log.proofs.reading.refskold_abi_read_checkpoint.Goals as goal

-- the checkpoint that was found is the one that is told
pub returns-in-Ok-Some : goal.returns-in-Ok-Some
returns-in-Ok-Some c =
    inl (refl, record { checkpoint = c.in-Ok-Some.checkpoint; len = c.in-Ok-Some.bytes; begins = search (rules, c.in-Ok-Some.ensures.found); found = c.put_found.ensures })
