-- What becomes of a mount by a call that tells its status alone.
use Rattle.std.specs.Prelude.{List, MatchBool, [], None, Option, Some, if◌then◌else◌, length, nat_le, pos, true, ℕ, ℤ, ◌≡◌, ◌⊎◌}
use Rattle.xt_base.specs.Alone.{may_want_memory}
use Rattle.xt_base.specs.Calls.{Outcome, alone_with, asks}
use Rattle.xt_base.specs.State.{State}
use Rattle.xt_base.specs.declared.sizes.TheConstants.{DATA_BYTES}
use Rattle.xt_base.specs.declared.steps.Answer.TheVariants as Answered
use Rattle.xt_base.specs.declared.steps.Errno.TheVariants.{Invalid, NoDevice, NoMemory}
use Rattle.xt_base.specs.declared.steps.Reply.{Reply}
use Rattle.xt_base.specs.declared.steps.Reply.TheVariants.{Trans}
use Rattle.xt_base.specs.declared.steps.Request.{Request}
use Rattle.xt_base.specs.declared.steps.Request.TheVariants.{Log}
use Rattle.xt_c.specs.Status.{refusal, status_of}

-- the step that the definitions give; or ENOMEM, where its reply may want memory, and the mount is as it was
abbrev pub IsStepped : Request → Outcome → ℤ → Option State → State → Type 0
IsStepped request o status new m =
    ((status ≡ status_of o.reply) × (new ≡ Some o.state))
    ⊎ ((may_want_memory request o.reply ≡ true) × (status ≡ refusal NoMemory) × (new ≡ Some m))

-- a request with no answer: where the home device is to be asked first, 1 and the mount is as it was; else its step
abbrev pub IsAsked : Request → ℤ → Option State → Option State → Type 0
IsAsked request status new None = (status ≡ refusal NoDevice) × (new ≡ None)
IsAsked request status new (Some m) =
    MatchBool (asks request m) ((status ≡ pos 1) × (new ≡ Some m)) (IsStepped request (alone_with [] request Answered.None m) status new m)

-- ---- alloc
-- a transaction's number after a reply, which tells it or leaves it as it was
abbrev pub trans_after : Reply → ℕ → ℕ
trans_after (Trans trans) old = trans
trans_after other old = old

-- the step that the definitions give, with the number that its reply tells; or ENOMEM, where its reply may want memory, and nothing is changed
abbrev pub IsOpening : Request → Outcome → ℤ → ℕ → ℕ → Option State → State → Type 0
IsOpening request o status trans old_trans new m =
    ((status ≡ status_of o.reply) × (trans ≡ trans_after o.reply old_trans) × (new ≡ Some o.state))
    ⊎ ((may_want_memory request o.reply ≡ true) × (status ≡ refusal NoMemory) × (trans ≡ old_trans) × (new ≡ Some m))

-- an alloc: its step, of a handle that holds a mount
abbrev pub IsAllocated : Request → ℤ → ℕ → ℕ → Option State → Option State → Type 0
IsAllocated request status trans old_trans new None = (status ≡ refusal NoDevice) × (trans ≡ old_trans) × (new ≡ None)
IsAllocated request status trans old_trans new (Some m) = IsOpening request (alone_with [] request Answered.None m) status trans old_trans new m

-- ---- log
-- a change of a block, where its bytes are not too many
abbrev pub logging : ℕ → ℕ → ℕ → List ℕ → Option Request
logging trans block first bytes = if nat_le (length bytes) DATA_BYTES then Some (Log first trans block bytes) else None

-- why a request that there is not is refused: there is no mount, or else it is none
abbrev pub refused_by : Option State → ℤ
refused_by None = refusal NoDevice
refused_by (Some m) = refusal Invalid

-- the same of a request, if it is one; else nothing is changed
abbrev pub IsAskedOf : Option Request → ℤ → Option State → Option State → Type 0
IsAskedOf None status new old = (status ≡ refused_by old) × (new ≡ old)
IsAskedOf (Some request) status new old = IsAsked request status new old
