use Rattle.std.proofs.Common.{◌≡◌}
use Rattle.std.proofs.lemmas.Result.{IfErr-weaker}
use Rattle.xt_c_log.proofs.held_log.HeldLog.of_files.Goals as goal
use Rattle.xt_c_log.specs.Told.{IsRefusedFiles, no_memory}
use Rattle.xt_recover.specs.declared.gather.LogFault.{LogFault}

-- want of memory is a fault of which nothing is said
pub returns-in-Ok-clause-refused : goal.returns-in-Ok-clause-refused
returns-in-Ok-clause-refused c =
    IfErr-weaker c.of_gathered.result (λ status. (status ≡ no_memory) × (c.of_gathered.new.told ≡ c.args.told.now))
    (λ status. IsRefusedFiles c.args.one.now c.args.other.now status c.of_gathered.new.told c.args.told.now)
    (λ status memory. record { fault = LogFault.Memory; why = tt; tells = memory }) c.of_gathered.ensures.memory
