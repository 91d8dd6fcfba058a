-- Scripts computed over the definitions: what each step of the mount alone says, and that the list is orderly.
-- Made by tools/row-theorems from the files of rows/.
use Rattle.std.proofs.Common.{◌≡◌, ℕ, List, [], ◌∷◌, ◌++◌, Some, None, Bool, true, false, refl}
use Rattle.std.specs.Prelude.{replicate}
use Rattle.xt_base.specs.Alone.{Said, alone_run}
use Rattle.xt_base.specs.Chunks.{chunks_where}
use Rattle.xt_base.specs.Order.{first_disorder, in_order, orderly}
use Rattle.xt_base.specs.State.{empty}
use Rattle.xt_base.specs.declared.names.JobKind.{JobKind}
use Rattle.xt_base.specs.declared.names.JobKind.TheVariants as JobKind
use Rattle.xt_base.specs.declared.names.JobName.{JobName}
use Rattle.xt_base.specs.declared.steps.Answer.TheVariants as Answer
use Rattle.xt_base.specs.declared.steps.Errno.TheVariants as Errno
use Rattle.xt_base.specs.declared.steps.HomeOffer.{HomeOffer}
use Rattle.xt_base.specs.declared.steps.HomeOffer.TheVariants as HomeOffer
use Rattle.xt_base.specs.declared.steps.LogOffer.{LogOffer}
use Rattle.xt_base.specs.declared.steps.LogOffer.TheVariants as LogOffer
use Rattle.xt_base.specs.declared.steps.Reason.TheVariants as Reason
use Rattle.xt_base.specs.declared.steps.Reply.{Reply}
use Rattle.xt_base.specs.declared.steps.Reply.TheVariants as Reply
use Rattle.xt_base.specs.declared.steps.Request.TheVariants as Request
use Rattle.xt_base.specs.declared.steps.Step.{Step}
use Rattle.xt_base.specs.declared.steps.Step.TheVariants as Step

-- the name of a job
abbrev name : ℕ → ℕ → JobKind → ℕ → JobName
name slot life kind serial = record { slot = slot; life = life; kind = kind; serial = serial }

-- a reply with offers, and one without
abbrev said : ℕ → Reply → List LogOffer → List HomeOffer → Said
said slot reply log home = record { slot = slot; reply = reply; log = log; home = home }

abbrev told : ℕ → Reply → Said
told slot reply = said slot reply [] []

-- ---- edge.busy.read
abbrev edge_busy_read_steps : List Step
edge_busy_read_steps =
    Step.Mount 0 65536 1024 None
    ∷ Step.Call 0 1 (Request.Alloc 1 1 false) Answer.None
    ∷ Step.Call 0 1 (Request.Read 1 100) (Answer.Content (replicate 4096 17))
    ∷ Step.Call 0 1 (Request.Relse 1 100) Answer.None
    ∷ Step.Call 0 1 (Request.Get 1 0) Answer.None
    ∷ Step.Call 0 1 (Request.Get 1 1) Answer.None
    ∷ Step.Call 0 1 (Request.Get 1 2) Answer.None
    ∷ Step.Call 0 1 (Request.Get 1 3) Answer.None
    ∷ Step.Call 0 1 (Request.Get 1 4) Answer.None
    ∷ Step.Call 0 1 (Request.Get 1 5) Answer.None
    ∷ Step.Call 0 1 (Request.Get 1 6) Answer.None
    ∷ Step.Call 0 1 (Request.Get 1 7) Answer.None
    ∷ Step.Call 0 1 (Request.Get 1 8) Answer.None
    ∷ Step.Call 0 1 (Request.Get 1 9) Answer.None
    ∷ Step.Call 0 1 (Request.Get 1 10) Answer.None
    ∷ Step.Call 0 1 (Request.Get 1 11) Answer.None
    ∷ Step.Call 0 1 (Request.Get 1 12) Answer.None
    ∷ Step.Call 0 1 (Request.Get 1 13) Answer.None
    ∷ Step.Call 0 1 (Request.Get 1 14) Answer.None
    ∷ Step.Call 0 1 (Request.Get 1 15) Answer.None
    ∷ Step.Call 0 1 (Request.Get 1 16) Answer.None
    ∷ Step.Call 0 1 (Request.Get 1 17) Answer.None
    ∷ Step.Call 0 1 (Request.Get 1 18) Answer.None
    ∷ Step.Call 0 1 (Request.Get 1 19) Answer.None
    ∷ Step.Call 0 1 (Request.Get 1 20) Answer.None
    ∷ Step.Call 0 1 (Request.Get 1 21) Answer.None
    ∷ Step.Call 0 1 (Request.Get 1 22) Answer.None
    ∷ Step.Call 0 1 (Request.Get 1 23) Answer.None
    ∷ Step.Call 0 1 (Request.Get 1 24) Answer.None
    ∷ Step.Call 0 1 (Request.Get 1 25) Answer.None
    ∷ Step.Call 0 1 (Request.Get 1 26) Answer.None
    ∷ Step.Call 0 1 (Request.Get 1 27) Answer.None
    ∷ Step.Call 0 1 (Request.Get 1 28) Answer.None
    ∷ Step.Call 0 1 (Request.Get 1 29) Answer.None
    ∷ Step.Call 0 1 (Request.Get 1 30) Answer.None
    ∷ Step.Call 0 1 (Request.Get 1 31) Answer.None
    ∷ Step.Call 0 1 (Request.Get 1 32) Answer.None
    ∷ Step.Call 0 1 (Request.Get 1 33) Answer.None
    ∷ Step.Call 0 1 (Request.Get 1 34) Answer.None
    ∷ Step.Call 0 1 (Request.Get 1 35) Answer.None
    ∷ Step.Call 0 1 (Request.Get 1 36) Answer.None
    ∷ Step.Call 0 1 (Request.Get 1 37) Answer.None
    ∷ Step.Call 0 1 (Request.Get 1 38) Answer.None
    ∷ Step.Call 0 1 (Request.Get 1 39) Answer.None
    ∷ Step.Call 0 1 (Request.Get 1 40) Answer.None
    ∷ Step.Call 0 1 (Request.Get 1 41) Answer.None
    ∷ Step.Call 0 1 (Request.Get 1 42) Answer.None
    ∷ Step.Call 0 1 (Request.Get 1 43) Answer.None
    ∷ Step.Call 0 1 (Request.Get 1 44) Answer.None
    ∷ Step.Call 0 1 (Request.Get 1 45) Answer.None
    ∷ Step.Call 0 1 (Request.Get 1 46) Answer.None
    ∷ Step.Call 0 1 (Request.Get 1 47) Answer.None
    ∷ Step.Call 0 1 (Request.Get 1 48) Answer.None
    ∷ Step.Call 0 1 (Request.Get 1 49) Answer.None
    ∷ Step.Call 0 1 (Request.Get 1 50) Answer.None
    ∷ Step.Call 0 1 (Request.Get 1 51) Answer.None
    ∷ Step.Call 0 1 (Request.Get 1 52) Answer.None
    ∷ Step.Call 0 1 (Request.Get 1 53) Answer.None
    ∷ Step.Call 0 1 (Request.Get 1 54) Answer.None
    ∷ Step.Call 0 1 (Request.Get 1 55) Answer.None
    ∷ Step.Call 0 1 (Request.Get 1 56) Answer.None
    ∷ Step.Call 0 1 (Request.Get 1 57) Answer.None
    ∷ Step.Call 0 1 (Request.Get 1 58) Answer.None
    ∷ Step.Call 0 1 (Request.Get 1 59) Answer.None
    ∷ Step.Call 0 1 (Request.Get 1 60) Answer.None
    ∷ Step.Call 0 1 (Request.Get 1 61) Answer.None
    ∷ Step.Call 0 1 (Request.Get 1 62) Answer.None
    ∷ Step.Call 0 1 (Request.Get 1 63) Answer.None
    ∷ Step.Call 0 1 (Request.Read 1 64) Answer.None
    ∷ Step.Call 0 1 (Request.Read 1 100) Answer.None
    ∷ Step.Call 0 1 (Request.Get 1 100) Answer.None
    ∷ Step.Call 0 1 (Request.Get 1 63) Answer.None
    ∷ Step.Call 0 1 (Request.Relse 1 63) Answer.None
    ∷ Step.Call 0 1 (Request.Relse 1 63) Answer.None
    ∷ Step.Call 0 1 (Request.Read 1 100) Answer.None
    ∷ Step.Call 0 1 (Request.Read 1 64) Answer.None
    ∷ []

abbrev edge_busy_read_said : List Said
edge_busy_read_said =
    told 0 (Reply.Life 1)
    ∷ told 0 (Reply.Trans 1)
    ∷ told 0 Reply.Okay
    ∷ told 0 Reply.Free
    ∷ told 0 Reply.Okay
    ∷ told 0 Reply.Okay
    ∷ told 0 Reply.Okay
    ∷ told 0 Reply.Okay
    ∷ told 0 Reply.Okay
    ∷ told 0 Reply.Okay
    ∷ told 0 Reply.Okay
    ∷ told 0 Reply.Okay
    ∷ told 0 Reply.Okay
    ∷ told 0 Reply.Okay
    ∷ told 0 Reply.Okay
    ∷ told 0 Reply.Okay
    ∷ told 0 Reply.Okay
    ∷ told 0 Reply.Okay
    ∷ told 0 Reply.Okay
    ∷ told 0 Reply.Okay
    ∷ told 0 Reply.Okay
    ∷ told 0 Reply.Okay
    ∷ told 0 Reply.Okay
    ∷ told 0 Reply.Okay
    ∷ told 0 Reply.Okay
    ∷ told 0 Reply.Okay
    ∷ told 0 Reply.Okay
    ∷ told 0 Reply.Okay
    ∷ told 0 Reply.Okay
    ∷ told 0 Reply.Okay
    ∷ told 0 Reply.Okay
    ∷ told 0 Reply.Okay
    ∷ told 0 Reply.Okay
    ∷ told 0 Reply.Okay
    ∷ told 0 Reply.Okay
    ∷ told 0 Reply.Okay
    ∷ told 0 Reply.Okay
    ∷ told 0 Reply.Okay
    ∷ told 0 Reply.Okay
    ∷ told 0 Reply.Okay
    ∷ told 0 Reply.Okay
    ∷ told 0 Reply.Okay
    ∷ told 0 Reply.Okay
    ∷ told 0 Reply.Okay
    ∷ told 0 Reply.Okay
    ∷ told 0 Reply.Okay
    ∷ told 0 Reply.Okay
    ∷ told 0 Reply.Okay
    ∷ told 0 Reply.Okay
    ∷ told 0 Reply.Okay
    ∷ told 0 Reply.Okay
    ∷ told 0 Reply.Okay
    ∷ told 0 Reply.Okay
    ∷ told 0 Reply.Okay
    ∷ told 0 Reply.Okay
    ∷ told 0 Reply.Okay
    ∷ told 0 Reply.Okay
    ∷ told 0 Reply.Okay
    ∷ told 0 Reply.Okay
    ∷ told 0 Reply.Okay
    ∷ told 0 Reply.Okay
    ∷ told 0 Reply.Okay
    ∷ told 0 Reply.Okay
    ∷ told 0 Reply.Okay
    ∷ told 0 Reply.Okay
    ∷ told 0 Reply.Okay
    ∷ told 0 Reply.Okay
    ∷ told 0 Reply.Okay
    ∷ told 0 (Reply.Refused Errno.NoBufs)
    ∷ told 0 (Reply.Refused Errno.NoBufs)
    ∷ told 0 (Reply.Refused Errno.NoBufs)
    ∷ told 0 Reply.Okay
    ∷ told 0 Reply.Kept
    ∷ told 0 Reply.Free
    ∷ told 0 Reply.Okay
    ∷ told 0 (Reply.Refused Errno.NoBufs)
    ∷ []

edge_busy_read : alone_run edge_busy_read_steps ≡ edge_busy_read_said
unfolding chunks_where
edge_busy_read = refl

edge_busy_read_order : in_order [] empty edge_busy_read_steps ≡ true
unfolding chunks_where
edge_busy_read_order = refl
