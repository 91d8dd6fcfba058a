-- Why a request is not served, as the code has it.
use Rattle.xt_c.specs.Calling.{Verdict, Asks, Barred}
use Rattle.xt_c.specs.declared.calls.Unserved.{Unserved}

-- what it comes to
abbrev pub verdict_of : Unserved → Verdict
verdict_of (Unserved.Barred errno) = Barred errno
verdict_of (Unserved.Asks block) = Asks block
