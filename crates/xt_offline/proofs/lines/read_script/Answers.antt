use Rattle.std.proofs.Common.{IfSome, arith, rules, take, ◌≡◌}
use Rattle.xt_offline.proofs.ScriptLemmas.{read_long}
use Rattle.xt_offline.proofs.lines.read_script.Goals as goal

pub returns-then-len-gt-SCRIPT_BYTES-clause-fault : goal.returns-then-len-gt-SCRIPT_BYTES-clause-fault
returns-then-len-gt-SCRIPT_BYTES-clause-fault g c =
    let read : IfSome (g.R.Read.remaining c.args.reader.now) (λ bytes. c.in_ok-script.script.items ≡ take 16777217 bytes) = search rules in
    read_long (g.R.Read.remaining c.args.reader.now) c.in_ok-script.script.items read (omega arith)
