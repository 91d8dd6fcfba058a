-- Scripts computed over the definitions: what each step of the mount alone says, and that the list is orderly.
-- Made by tools/row-theorems from the files of rows/.
use Rattle.std.proofs.Common.{◌≡◌, ℕ, List, [], ◌∷◌, ◌++◌, Some, None, Bool, true, false, map, refl}
use Rattle.std.specs.Prelude.{replicate}
use Rattle.xt_base.specs.Alone.{Said, alone_run}
use Rattle.xt_base.specs.Chunks.{chunks_where}
use Rattle.xt_base.specs.Order.{first_disorder, in_order, orderly}
use Rattle.xt_base.specs.State.{empty}
use Rattle.xt_base.specs.declared.names.JobKind.{JobKind}
use Rattle.xt_base.specs.declared.names.JobKind.TheVariants as JobKind
use Rattle.xt_base.specs.declared.names.JobName.{JobName}
use Rattle.xt_base.specs.declared.steps.Answer.TheVariants as Answer
use Rattle.xt_base.specs.declared.steps.Errno.TheVariants as Errno
use Rattle.xt_base.specs.declared.steps.HomeOffer.{HomeOffer}
use Rattle.xt_base.specs.declared.steps.HomeOffer.TheVariants as HomeOffer
use Rattle.xt_base.specs.declared.steps.LogOffer.{LogOffer}
use Rattle.xt_base.specs.declared.steps.LogOffer.TheVariants as LogOffer
use Rattle.xt_base.specs.declared.steps.Reason.TheVariants as Reason
use Rattle.xt_base.specs.declared.steps.Reply.{Reply}
use Rattle.xt_base.specs.declared.steps.Reply.TheVariants as Reply
use Rattle.xt_base.specs.declared.steps.Request.TheVariants as Request
use Rattle.xt_base.specs.declared.steps.Step.{Step}
use Rattle.xt_base.specs.declared.steps.Step.TheVariants as Step

-- the name of a job
abbrev name : ℕ → ℕ → JobKind → ℕ → JobName
name slot life kind serial = record { slot = slot; life = life; kind = kind; serial = serial }

-- a reply with offers, and one without
abbrev said : ℕ → Reply → List LogOffer → List HomeOffer → Said
said slot reply log home = record { slot = slot; reply = reply; log = log; home = home }

abbrev told : ℕ → Reply → Said
told slot reply = said slot reply [] []

-- ---- frozen
abbrev frozen_steps : List Step
frozen_steps =
    Step.Mount 0 65536 1024 None
    ∷ Step.Call 0 1 (Request.Alloc 176 1 true) Answer.None
    ∷ Step.Call 0 1 (Request.Read 1 7) (Answer.Content (replicate 4096 0))
    ∷ Step.Call 0 1 Request.Freeze Answer.None
    ∷ Step.Call 0 1 Request.Freeze Answer.None
    ∷ Step.Call 0 1 (Request.Alloc 1 1 false) Answer.None
    ∷ Step.Call 0 1 (Request.Alloc 0 1 false) Answer.None
    ∷ Step.Call 0 1 (Request.Log 0 1 7 ((17 ∷ []))) Answer.None
    ∷ Step.Call 0 1 (Request.Roll 1) Answer.None
    ∷ Step.Call 0 1 (Request.Commit 1) Answer.None
    ∷ Step.Call 0 1 Request.Force Answer.None
    ∷ Step.Post (name 0 1 JobKind.Ckpt 1)
    ∷ Step.Take 0 (name 0 1 JobKind.Ckpt 1)
    ∷ Step.Begin 0 (name 0 1 JobKind.Ckpt 1)
    ∷ Step.End 0 (name 0 1 JobKind.Ckpt 1) (record { taken = 1; sync = Some true })
    ∷ Step.Call 0 1 Request.Thaw Answer.None
    ∷ Step.Call 0 1 Request.Thaw Answer.None
    ∷ Step.Call 0 1 (Request.Alloc 1 1 false) Answer.None
    ∷ Step.Call 0 1 Request.Shutdown Answer.None
    ∷ Step.Call 0 1 Request.Freeze Answer.None
    ∷ Step.Call 0 1 Request.Thaw Answer.None
    ∷ []

abbrev frozen_said : List Said
frozen_said =
    told 0 (Reply.Life 1)
    ∷ told 0 (Reply.Trans 1)
    ∷ told 0 Reply.Okay
    ∷ told 0 Reply.Okay
    ∷ told 0 (Reply.Refused Errno.Busy)
    ∷ told 0 (Reply.Refused Errno.Again)
    ∷ told 0 (Reply.Refused Errno.Invalid)
    ∷ told 0 Reply.Okay
    ∷ told 0 (Reply.Committed 1)
    ∷ told 0 (Reply.Committed 0)
    ∷ told 0 (Reply.Wait 1)
    ∷ told 0 Reply.Okay
    ∷ told 0 Reply.Okay
    ∷ told 0 (Reply.Begun 1 1)
    ∷ said 0 (Reply.Landed 1) (LogOffer.Piece ((88 ∷ 67 ∷ 80 ∷ 49 ∷ []) ++ replicate 7 0 ++ (1 ∷ 0 ∷ 0 ∷ 0 ∷ 1 ∷ []) ++ replicate 7 0 ++ (7 ∷ 0 ∷ 0 ∷ 0 ∷ 1 ∷ []) ++ replicate 4 0 ++ (17 ∷ []) ++ replicate 127 0 ++ (88 ∷ 67 ∷ 69 ∷ 49 ∷ 0 ∷ 0 ∷ 0 ∷ 1 ∷ []) ++ replicate 7 0 ++ (1 ∷ [])) true ∷ LogOffer.Sync true ∷ []) []
    ∷ told 0 Reply.Okay
    ∷ told 0 (Reply.Refused Errno.Invalid)
    ∷ told 0 (Reply.Trans 2)
    ∷ told 0 Reply.Okay
    ∷ told 0 (Reply.Refused Errno.Io)
    ∷ told 0 (Reply.Refused Errno.Invalid)
    ∷ []

frozen : alone_run frozen_steps ≡ frozen_said
unfolding chunks_where
frozen = refl

frozen_order : orderly frozen_steps ≡ true
unfolding chunks_where
frozen_order = refl

-- ---- edge.frozen
abbrev edge_frozen_steps : List Step
edge_frozen_steps =
    Step.Mount 0 65536 1024 None
    ∷ Step.Call 0 1 Request.Freeze Answer.None
    ∷ Step.Call 0 1 (Request.Alloc 1 1 false) Answer.None
    ∷ []

abbrev edge_frozen_said : List Said
edge_frozen_said =
    told 0 (Reply.Life 1)
    ∷ told 0 Reply.Okay
    ∷ told 0 (Reply.Refused Errno.Again)
    ∷ []

edge_frozen : alone_run edge_frozen_steps ≡ edge_frozen_said
unfolding chunks_where
edge_frozen = refl

edge_frozen_order : in_order [] empty edge_frozen_steps ≡ true
unfolding chunks_where
edge_frozen_order = refl

edge_frozen_breaks : in_order [] empty (edge_frozen_steps ++ Step.Post (name 0 1 JobKind.Flush 1) ∷ []) ≡ false
unfolding chunks_where
edge_frozen_breaks = refl

-- ---- edge.frozen.life
abbrev edge_frozen_life_steps : List Step
edge_frozen_life_steps =
    Step.Mount 0 65536 1024 None
    ∷ Step.Call 0 1 Request.Freeze Answer.None
    ∷ Step.Call 0 1 Request.Shutdown Answer.None
    ∷ Step.Call 0 1 Request.Freeze Answer.None
    ∷ Step.Call 0 1 Request.Thaw Answer.None
    ∷ Step.Call 0 1 Request.Thaw Answer.None
    ∷ Step.Call 0 1 Request.Unmount Answer.None
    ∷ Step.Call 0 1 Request.Thaw Answer.None
    ∷ Step.Mount 0 65536 1024 None
    ∷ Step.Call 0 2 Request.Freeze Answer.None
    ∷ Step.Call 0 1 Request.Thaw Answer.None
    ∷ Step.Call 0 2 Request.Unmount Answer.None
    ∷ Step.Mount 0 65536 1024 None
    ∷ Step.Call 0 3 Request.Thaw Answer.None
    ∷ Step.Call 0 3 (Request.Alloc 1 1 false) Answer.None
    ∷ []

abbrev edge_frozen_life_said : List Said
edge_frozen_life_said =
    told 0 (Reply.Life 1)
    ∷ told 0 Reply.Okay
    ∷ told 0 Reply.Okay
    ∷ told 0 (Reply.Refused Errno.Io)
    ∷ told 0 Reply.Okay
    ∷ told 0 (Reply.Refused Errno.Invalid)
    ∷ told 0 Reply.Okay
    ∷ told 0 (Reply.Refused Errno.NoDevice)
    ∷ told 0 (Reply.Life 2)
    ∷ told 0 Reply.Okay
    ∷ told 0 (Reply.Refused Errno.Stale)
    ∷ told 0 Reply.Okay
    ∷ told 0 (Reply.Life 3)
    ∷ told 0 (Reply.Refused Errno.Invalid)
    ∷ told 0 (Reply.Trans 1)
    ∷ []

edge_frozen_life : alone_run edge_frozen_life_steps ≡ edge_frozen_life_said
unfolding chunks_where
edge_frozen_life = refl

edge_frozen_life_order : orderly edge_frozen_life_steps ≡ true
unfolding chunks_where
edge_frozen_life_order = refl
