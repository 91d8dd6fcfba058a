-- The refusals as `errno.h` of Linux has them.
use Rattle.std.specs.Prelude.{List, codes, ℕ}
use Rattle.xt_base.specs.declared.steps.Errno.{Errno}
use Rattle.xt_base.specs.declared.steps.Errno.TheVariants.{Again, Busy, Invalid, Io, NoBufs, NoDevice, NoMemory, NoSpace, Stale}

-- the number of a refusal
abbrev pub number_of : Errno → ℕ
number_of Io = 5
number_of Again = 11
number_of NoMemory = 12
number_of Busy = 16
number_of NoDevice = 19
number_of Invalid = 22
number_of NoSpace = 28
number_of NoBufs = 105
number_of Stale = 116

-- the name of a refusal
abbrev pub name_of : Errno → List ℕ
name_of Io = codes "EIO"
name_of Again = codes "EAGAIN"
name_of NoMemory = codes "ENOMEM"
name_of Busy = codes "EBUSY"
name_of NoDevice = codes "ENODEV"
name_of Invalid = codes "EINVAL"
name_of NoSpace = codes "ENOSPC"
name_of NoBufs = codes "ENOBUFS"
name_of Stale = codes "ESTALE"
