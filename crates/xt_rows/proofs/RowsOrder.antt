-- Scripts computed over the definitions: what each step of the mount alone says, and that the list is orderly.
-- Made by tools/row-theorems from the files of rows/.
use Rattle.std.proofs.Common.{◌≡◌, ℕ, List, [], ◌∷◌, ◌++◌, Some, None, Bool, true, false, refl}
use Rattle.std.specs.Prelude.{replicate}
use Rattle.xt_base.specs.Alone.{Said, alone_run}
use Rattle.xt_base.specs.Chunks.{chunks_where}
use Rattle.xt_base.specs.Order.{first_disorder, in_order, orderly}
use Rattle.xt_base.specs.State.{empty}
use Rattle.xt_base.specs.declared.names.JobKind.{JobKind}
use Rattle.xt_base.specs.declared.names.JobKind.TheVariants as JobKind
use Rattle.xt_base.specs.declared.names.JobName.{JobName}
use Rattle.xt_base.specs.declared.steps.Answer.TheVariants as Answer
use Rattle.xt_base.specs.declared.steps.Errno.TheVariants as Errno
use Rattle.xt_base.specs.declared.steps.HomeOffer.{HomeOffer}
use Rattle.xt_base.specs.declared.steps.HomeOffer.TheVariants as HomeOffer
use Rattle.xt_base.specs.declared.steps.LogOffer.{LogOffer}
use Rattle.xt_base.specs.declared.steps.LogOffer.TheVariants as LogOffer
use Rattle.xt_base.specs.declared.steps.Reason.TheVariants as Reason
use Rattle.xt_base.specs.declared.steps.Reply.{Reply}
use Rattle.xt_base.specs.declared.steps.Reply.TheVariants as Reply
use Rattle.xt_base.specs.declared.steps.Request.TheVariants as Request
use Rattle.xt_base.specs.declared.steps.Step.{Step}
use Rattle.xt_base.specs.declared.steps.Step.TheVariants as Step

-- the name of a job
abbrev name : ℕ → ℕ → JobKind → ℕ → JobName
name slot life kind serial = record { slot = slot; life = life; kind = kind; serial = serial }

-- a reply with offers, and one without
abbrev said : ℕ → Reply → List LogOffer → List HomeOffer → Said
said slot reply log home = record { slot = slot; reply = reply; log = log; home = home }

abbrev told : ℕ → Reply → Said
told slot reply = said slot reply [] []

-- ---- edge.alloc.order
abbrev edge_alloc_order_steps : List Step
edge_alloc_order_steps =
    Step.Mount 0 65536 1024 None
    ∷ Step.Call 0 1 (Request.Alloc 65537 1 false) Answer.None
    ∷ Step.Call 0 1 Request.Shutdown Answer.None
    ∷ Step.Call 0 1 (Request.Alloc 0 1 false) Answer.None
    ∷ Step.Call 0 1 (Request.Alloc 1 9 true) Answer.None
    ∷ Step.Call 0 1 (Request.Alloc 1 2 false) Answer.None
    ∷ Step.Call 0 1 (Request.Alloc 65536 1 false) Answer.None
    ∷ Step.Call 0 2 (Request.Alloc 0 1 false) Answer.None
    ∷ []

abbrev edge_alloc_order_said : List Said
edge_alloc_order_said =
    told 0 (Reply.Life 1)
    ∷ told 0 (Reply.Refused Errno.Invalid)
    ∷ told 0 Reply.Okay
    ∷ told 0 (Reply.Refused Errno.Invalid)
    ∷ told 0 (Reply.Refused Errno.Invalid)
    ∷ told 0 (Reply.Refused Errno.Invalid)
    ∷ told 0 (Reply.Refused Errno.Io)
    ∷ told 0 (Reply.Refused Errno.Stale)
    ∷ []

edge_alloc_order : alone_run edge_alloc_order_steps ≡ edge_alloc_order_said
unfolding chunks_where
edge_alloc_order = refl

edge_alloc_order_order : orderly edge_alloc_order_steps ≡ true
unfolding chunks_where
edge_alloc_order_order = refl

-- ---- edge.forceto.order
abbrev edge_forceto_order_steps : List Step
edge_forceto_order_steps =
    Step.Mount 0 65536 1024 None
    ∷ Step.Call 0 1 (Request.ForceTo 0) Answer.None
    ∷ Step.Call 0 1 (Request.ForceTo 1) Answer.None
    ∷ Step.Call 0 1 (Request.ForceTo 2) Answer.None
    ∷ Step.Call 0 1 Request.Shutdown Answer.None
    ∷ Step.Call 0 1 (Request.ForceTo 0) Answer.None
    ∷ Step.Call 0 1 (Request.ForceTo 2) Answer.None
    ∷ Step.Call 0 1 (Request.ForceTo 1) Answer.None
    ∷ Step.Call 0 2 (Request.ForceTo 0) Answer.None
    ∷ Step.Call 0 1 Request.Force Answer.None
    ∷ []

abbrev edge_forceto_order_said : List Said
edge_forceto_order_said =
    told 0 (Reply.Life 1)
    ∷ told 0 (Reply.Refused Errno.Invalid)
    ∷ told 0 Reply.Done
    ∷ told 0 (Reply.Refused Errno.Invalid)
    ∷ told 0 Reply.Okay
    ∷ told 0 (Reply.Refused Errno.Invalid)
    ∷ told 0 (Reply.Refused Errno.Invalid)
    ∷ told 0 (Reply.Refused Errno.Io)
    ∷ told 0 (Reply.Refused Errno.Stale)
    ∷ told 0 (Reply.Refused Errno.Io)
    ∷ []

edge_forceto_order : alone_run edge_forceto_order_steps ≡ edge_forceto_order_said
unfolding chunks_where
edge_forceto_order = refl

edge_forceto_order_order : orderly edge_forceto_order_steps ≡ true
unfolding chunks_where
edge_forceto_order_order = refl

-- ---- edge.log.order
abbrev edge_log_order_steps : List Step
edge_log_order_steps =
    Step.Mount 0 65536 1024 None
    ∷ Step.Call 0 1 (Request.Alloc 48 1 false) Answer.None
    ∷ Step.Call 0 1 (Request.Get 1 5) Answer.None
    ∷ Step.Call 0 1 (Request.Log 0 1 5 ((17 ∷ []))) Answer.None
    ∷ Step.Call 0 1 (Request.Log 1 1 5 (replicate 4095 17)) Answer.None
    ∷ Step.Call 0 1 (Request.Log 0 1 5 (replicate 4096 17)) Answer.None
    ∷ Step.Call 0 1 (Request.Log 0 1 6 (replicate 4096 17)) Answer.None
    ∷ Step.Call 0 1 (Request.Inval 1 5) Answer.None
    ∷ Step.Call 0 1 (Request.Log 0 1 5 ((17 ∷ []))) Answer.None
    ∷ Step.Call 0 1 (Request.Log 0 1 5 (replicate 4096 17)) Answer.None
    ∷ Step.Call 0 1 (Request.Log 0 2 5 []) Answer.None
    ∷ Step.Call 0 1 (Request.Commit 1) Answer.None
    ∷ Step.Call 0 1 (Request.Alloc 4144 1 false) Answer.None
    ∷ Step.Call 0 1 (Request.Get 2 5) Answer.None
    ∷ []

abbrev edge_log_order_said : List Said
edge_log_order_said =
    told 0 (Reply.Life 1)
    ∷ told 0 (Reply.Trans 1)
    ∷ told 0 Reply.Okay
    ∷ told 0 (Reply.Refused Errno.Invalid)
    ∷ told 0 (Reply.Refused Errno.Invalid)
    ∷ told 0 (Reply.Refused Errno.NoSpace)
    ∷ told 0 (Reply.Refused Errno.Invalid)
    ∷ told 0 Reply.Okay
    ∷ told 0 (Reply.Refused Errno.Invalid)
    ∷ told 0 (Reply.Refused Errno.NoSpace)
    ∷ told 0 (Reply.Refused Errno.Invalid)
    ∷ told 0 (Reply.Committed 1)
    ∷ told 0 (Reply.Trans 2)
    ∷ told 0 (Reply.Refused Errno.Again)
    ∷ []

edge_log_order : alone_run edge_log_order_steps ≡ edge_log_order_said
unfolding chunks_where
edge_log_order = refl

edge_log_order_order : orderly edge_log_order_steps ≡ true
unfolding chunks_where
edge_log_order_order = refl

-- ---- edge.mount.order
abbrev edge_mount_order_steps : List Step
edge_mount_order_steps =
    Step.Mount 0 16777217 1 None
    ∷ Step.Mount 0 65536 1099511627777 None
    ∷ Step.Mount 0 65536 0 None
    ∷ Step.Mount 0 16777216 1099511627776 None
    ∷ Step.Mount 0 65535 0 None
    ∷ Step.Call 0 1 (Request.Alloc 1 1 false) Answer.None
    ∷ Step.Call 0 1 (Request.Get 1 1099511627776) Answer.None
    ∷ Step.Call 0 1 (Request.Get 1 1099511627775) Answer.None
    ∷ Step.Call 0 1 (Request.Relse 1 1099511627775) Answer.None
    ∷ Step.Call 0 1 (Request.Cancel 1) Answer.None
    ∷ Step.Call 0 1 Request.Unmount Answer.None
    ∷ Step.Mount 0 0 0 None
    ∷ Step.Mount 0 65536 1 None
    ∷ []

abbrev edge_mount_order_said : List Said
edge_mount_order_said =
    told 0 (Reply.Refused Errno.Invalid)
    ∷ told 0 (Reply.Refused Errno.Invalid)
    ∷ told 0 (Reply.Refused Errno.Invalid)
    ∷ told 0 (Reply.Life 1)
    ∷ told 0 (Reply.Refused Errno.Busy)
    ∷ told 0 (Reply.Trans 1)
    ∷ told 0 (Reply.Refused Errno.Invalid)
    ∷ told 0 Reply.Okay
    ∷ told 0 Reply.Free
    ∷ told 0 Reply.Okay
    ∷ told 0 Reply.Okay
    ∷ told 0 (Reply.Refused Errno.Invalid)
    ∷ told 0 (Reply.Life 2)
    ∷ []

edge_mount_order : alone_run edge_mount_order_steps ≡ edge_mount_order_said
unfolding chunks_where
edge_mount_order = refl

edge_mount_order_order : orderly edge_mount_order_steps ≡ true
unfolding chunks_where
edge_mount_order_order = refl

-- ---- edge.read.order
abbrev edge_read_order_steps : List Step
edge_read_order_steps =
    Step.Mount 0 65536 1024 None
    ∷ Step.Call 0 1 (Request.Alloc 1 1 false) Answer.None
    ∷ Step.Call 0 1 (Request.Get 1 5) Answer.None
    ∷ Step.Call 0 1 (Request.Read 1 1024) Answer.None
    ∷ Step.Call 0 1 (Request.Read 1 5) Answer.None
    ∷ Step.Call 0 1 (Request.Alloc 1 1 false) Answer.None
    ∷ Step.Call 0 1 (Request.Read 2 5) Answer.None
    ∷ Step.Call 0 1 Request.Shutdown Answer.None
    ∷ Step.Call 0 1 (Request.Read 1 1024) Answer.None
    ∷ Step.Call 0 1 (Request.Read 1 5) Answer.None
    ∷ Step.Call 0 1 (Request.Read 2 5) Answer.None
    ∷ Step.Call 0 1 (Request.Get 2 5) Answer.None
    ∷ Step.Call 0 1 (Request.View 1 5) Answer.None
    ∷ Step.Call 0 1 (Request.View 2 5) Answer.None
    ∷ []

abbrev edge_read_order_said : List Said
edge_read_order_said =
    told 0 (Reply.Life 1)
    ∷ told 0 (Reply.Trans 1)
    ∷ told 0 Reply.Okay
    ∷ told 0 (Reply.Refused Errno.Invalid)
    ∷ told 0 (Reply.Refused Errno.Invalid)
    ∷ told 0 (Reply.Trans 2)
    ∷ told 0 (Reply.Refused Errno.Again)
    ∷ told 0 Reply.Okay
    ∷ told 0 (Reply.Refused Errno.Invalid)
    ∷ told 0 (Reply.Refused Errno.Io)
    ∷ told 0 (Reply.Refused Errno.Io)
    ∷ told 0 (Reply.Refused Errno.Io)
    ∷ told 0 (Reply.Data (replicate 4096 0))
    ∷ told 0 (Reply.Refused Errno.Invalid)
    ∷ []

edge_read_order : alone_run edge_read_order_steps ≡ edge_read_order_said
unfolding chunks_where
edge_read_order = refl

edge_read_order_order : orderly edge_read_order_steps ≡ true
unfolding chunks_where
edge_read_order_order = refl
