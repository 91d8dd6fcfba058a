-- What an export returns.
use Rattle.std.specs.Prelude.{negsuc, pos, ℤ}
use Rattle.xt_base.specs.declared.steps.Errno.{Errno}
use Rattle.xt_base.specs.declared.steps.Errno.TheVariants.{Again, Busy, Invalid, Io, NoBufs, NoDevice, NoMemory, NoSpace, Stale}
use Rattle.xt_base.specs.declared.steps.Reply.{Reply}
use Rattle.xt_base.specs.declared.steps.Reply.TheVariants.{Aborted, Refused}

-- a refusal: its errno, negative; `negsuc 4` is 5 below zero
abbrev pub refusal : Errno → ℤ
refusal Io = negsuc 4
refusal Again = negsuc 10
refusal NoMemory = negsuc 11
refusal Busy = negsuc 15
refusal NoDevice = negsuc 18
refusal Invalid = negsuc 21
refusal NoSpace = negsuc 27
refusal NoBufs = negsuc 104
refusal Stale = negsuc 115

-- a served call or job: 0, or what it was refused with
abbrev pub status_of : Reply → ℤ
status_of (Refused errno) = refusal errno
status_of (Aborted held) = refusal Io
status_of other = pos 0
