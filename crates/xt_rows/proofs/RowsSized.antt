-- Scripts computed over the definitions: what each step of the mount alone says, and that the list is orderly.
-- Made by tools/row-theorems from the files of rows/.
use Rattle.std.proofs.Common.{◌≡◌, ℕ, List, [], ◌∷◌, ◌++◌, Some, None, Bool, true, false, map, refl}
use Rattle.std.specs.Prelude.{replicate}
use Rattle.xt_base.specs.Alone.{Said, alone_run}
use Rattle.xt_base.specs.Chunks.{chunks_where}
use Rattle.xt_base.specs.Order.{first_disorder, in_order, orderly}
use Rattle.xt_base.specs.State.{empty}
use Rattle.xt_base.specs.declared.names.JobKind.{JobKind}
use Rattle.xt_base.specs.declared.names.JobKind.TheVariants as JobKind
use Rattle.xt_base.specs.declared.names.JobName.{JobName}
use Rattle.xt_base.specs.declared.steps.Answer.TheVariants as Answer
use Rattle.xt_base.specs.declared.steps.Errno.TheVariants as Errno
use Rattle.xt_base.specs.declared.steps.HomeOffer.{HomeOffer}
use Rattle.xt_base.specs.declared.steps.HomeOffer.TheVariants as HomeOffer
use Rattle.xt_base.specs.declared.steps.LogOffer.{LogOffer}
use Rattle.xt_base.specs.declared.steps.LogOffer.TheVariants as LogOffer
use Rattle.xt_base.specs.declared.steps.Reason.TheVariants as Reason
use Rattle.xt_base.specs.declared.steps.Reply.{Reply}
use Rattle.xt_base.specs.declared.steps.Reply.TheVariants as Reply
use Rattle.xt_base.specs.declared.steps.Request.TheVariants as Request
use Rattle.xt_base.specs.declared.steps.Step.{Step}
use Rattle.xt_base.specs.declared.steps.Step.TheVariants as Step

-- the name of a job
abbrev name : ℕ → ℕ → JobKind → ℕ → JobName
name slot life kind serial = record { slot = slot; life = life; kind = kind; serial = serial }

-- a reply with offers, and one without
abbrev said : ℕ → Reply → List LogOffer → List HomeOffer → Said
said slot reply log home = record { slot = slot; reply = reply; log = log; home = home }

abbrev told : ℕ → Reply → Said
told slot reply = said slot reply [] []

-- ---- small_blocks
abbrev small_blocks_steps : List Step
small_blocks_steps =
    Step.Mount 0 65536 1024 (Some 512)
    ∷ Step.Call 0 1 (Request.Alloc 180 1 false) Answer.None
    ∷ Step.Call 0 1 (Request.Read 1 7) (Answer.Content (replicate 512 0))
    ∷ Step.Call 0 1 (Request.Log 512 1 7 ((255 ∷ []))) Answer.None
    ∷ Step.Call 0 1 (Request.Log 130 1 7 ((1 ∷ 2 ∷ []))) Answer.None
    ∷ Step.Call 0 1 (Request.Commit 1) Answer.None
    ∷ Step.Call 0 1 Request.Force Answer.None
    ∷ Step.Post (name 0 1 JobKind.Ckpt 1)
    ∷ Step.Take 0 (name 0 1 JobKind.Ckpt 1)
    ∷ Step.Begin 0 (name 0 1 JobKind.Ckpt 1)
    ∷ Step.End 0 (name 0 1 JobKind.Ckpt 1) (record { taken = 1; sync = Some true })
    ∷ []

abbrev small_blocks_said : List Said
small_blocks_said =
    told 0 (Reply.Life 1)
    ∷ told 0 (Reply.Trans 1)
    ∷ told 0 Reply.Okay
    ∷ told 0 (Reply.Refused Errno.Invalid)
    ∷ told 0 Reply.Okay
    ∷ told 0 (Reply.Committed 1)
    ∷ told 0 (Reply.Wait 1)
    ∷ told 0 Reply.Okay
    ∷ told 0 Reply.Okay
    ∷ told 0 (Reply.Begun 1 1)
    ∷ said 0 (Reply.Landed 1) (LogOffer.Piece ((88 ∷ 67 ∷ 80 ∷ 50 ∷ []) ++ replicate 7 0 ++ (1 ∷ 0 ∷ 0 ∷ 0 ∷ 1 ∷ 0 ∷ 0 ∷ 2 ∷ []) ++ replicate 8 0 ++ (7 ∷ 0 ∷ 0 ∷ 0 ∷ 2 ∷ []) ++ replicate 6 0 ++ (1 ∷ 2 ∷ []) ++ replicate 124 0 ++ (88 ∷ 67 ∷ 69 ∷ 50 ∷ 0 ∷ 0 ∷ 0 ∷ 1 ∷ []) ++ replicate 7 0 ++ (1 ∷ [])) true ∷ LogOffer.Sync true ∷ []) []
    ∷ []

small_blocks : alone_run small_blocks_steps ≡ small_blocks_said
unfolding chunks_where
small_blocks = refl

small_blocks_order : orderly small_blocks_steps ≡ true
unfolding chunks_where
small_blocks_order = refl

-- ---- sized_charge
abbrev sized_charge_steps : List Step
sized_charge_steps =
    Step.Mount 0 65536 8 (Some 4096)
    ∷ Step.Call 0 1 (Request.Alloc 4147 1 false) Answer.None
    ∷ Step.Call 0 1 (Request.Get 1 0) Answer.None
    ∷ Step.Call 0 1 (Request.Log 0 1 0 (replicate 4096 170)) Answer.None
    ∷ Step.Call 0 1 (Request.Cancel 1) Answer.None
    ∷ Step.Call 0 1 (Request.Alloc 4148 1 false) Answer.None
    ∷ Step.Call 0 1 (Request.Get 2 0) Answer.None
    ∷ Step.Call 0 1 (Request.Log 0 2 0 (replicate 4096 170)) Answer.None
    ∷ Step.Call 0 1 (Request.Commit 2) Answer.None
    ∷ Step.Call 0 1 Request.Force Answer.None
    ∷ Step.Post (name 0 1 JobKind.Ckpt 1)
    ∷ Step.Take 0 (name 0 1 JobKind.Ckpt 1)
    ∷ Step.Begin 0 (name 0 1 JobKind.Ckpt 1)
    ∷ Step.End 0 (name 0 1 JobKind.Ckpt 1) (record { taken = 2; sync = Some true })
    ∷ []

abbrev sized_charge_said : List Said
sized_charge_said =
    told 0 (Reply.Life 1)
    ∷ told 0 (Reply.Trans 1)
    ∷ told 0 Reply.Okay
    ∷ told 0 (Reply.Refused Errno.NoSpace)
    ∷ told 0 Reply.Okay
    ∷ told 0 (Reply.Trans 2)
    ∷ told 0 Reply.Okay
    ∷ told 0 Reply.Okay
    ∷ told 0 (Reply.Committed 1)
    ∷ told 0 (Reply.Wait 1)
    ∷ told 0 Reply.Okay
    ∷ told 0 Reply.Okay
    ∷ told 0 (Reply.Begun 1 2)
    ∷ said 0 (Reply.Landed 1) (LogOffer.Piece ((88 ∷ 67 ∷ 80 ∷ 50 ∷ []) ++ replicate 7 0 ++ (1 ∷ 0 ∷ 0 ∷ 0 ∷ 1 ∷ 0 ∷ 0 ∷ 16 ∷ []) ++ replicate 9 0 ++ replicate 4 255 ++ replicate 4 0 ++ replicate 4060 170) true ∷ LogOffer.Piece (replicate 36 170 ++ (88 ∷ 67 ∷ 69 ∷ 50 ∷ 0 ∷ 0 ∷ 0 ∷ 1 ∷ []) ++ replicate 7 0 ++ (1 ∷ [])) true ∷ LogOffer.Sync true ∷ []) []
    ∷ []

sized_charge : alone_run sized_charge_steps ≡ sized_charge_said
unfolding chunks_where
sized_charge = refl

sized_charge_order : orderly sized_charge_steps ≡ true
unfolding chunks_where
sized_charge_order = refl

-- ---- no_size
abbrev no_size_steps : List Step
no_size_steps =
    Step.Mount 1 65536 8 (Some 600)
    ∷ []

abbrev no_size_said : List Said
no_size_said =
    told 1 (Reply.Refused Errno.Invalid)
    ∷ []

no_size : alone_run no_size_steps ≡ no_size_said
unfolding chunks_where
no_size = refl

no_size_order : orderly no_size_steps ≡ true
unfolding chunks_where
no_size_order = refl

-- ---- content_of_another_size
abbrev content_of_another_size_steps : List Step
content_of_another_size_steps =
    Step.Mount 0 65536 1024 (Some 512)
    ∷ Step.Call 0 1 (Request.Alloc 180 1 false) Answer.None
    ∷ []

abbrev content_of_another_size_said : List Said
content_of_another_size_said =
    told 0 (Reply.Life 1)
    ∷ told 0 (Reply.Trans 1)
    ∷ []

content_of_another_size : alone_run content_of_another_size_steps ≡ content_of_another_size_said
unfolding chunks_where
content_of_another_size = refl

content_of_another_size_order : in_order [] empty content_of_another_size_steps ≡ true
unfolding chunks_where
content_of_another_size_order = refl

content_of_another_size_breaks : in_order [] empty (content_of_another_size_steps ++ Step.Call 0 1 (Request.Read 1 7) (Answer.Content (replicate 4096 0)) ∷ []) ≡ false
unfolding chunks_where
content_of_another_size_breaks = refl

-- ---- small_home
abbrev small_home_steps : List Step
small_home_steps =
    Step.Mount 0 65536 1024 (Some 512)
    ∷ Step.Call 0 1 (Request.Alloc 180 1 false) Answer.None
    ∷ Step.Call 0 1 (Request.Read 1 7) (Answer.Content (replicate 512 0))
    ∷ Step.Call 0 1 (Request.Log 130 1 7 ((1 ∷ 2 ∷ []))) Answer.None
    ∷ Step.Call 0 1 (Request.Commit 1) Answer.None
    ∷ Step.Call 0 1 Request.Force Answer.None
    ∷ Step.Post (name 0 1 JobKind.Ckpt 1)
    ∷ Step.Take 0 (name 0 1 JobKind.Ckpt 1)
    ∷ Step.Begin 0 (name 0 1 JobKind.Ckpt 1)
    ∷ Step.End 0 (name 0 1 JobKind.Ckpt 1) (record { taken = 1; sync = Some true })
    ∷ Step.Call 0 1 Request.Push Answer.None
    ∷ Step.Post (name 0 1 JobKind.Flush 2)
    ∷ Step.Take 0 (name 0 1 JobKind.Flush 2)
    ∷ Step.Flush 0 (name 0 1 JobKind.Flush 2) (record { count = 1; writes = (true ∷ false ∷ false ∷ false ∷ false ∷ false ∷ false ∷ false ∷ []); sync = true })
    ∷ Step.Call 0 1 Request.Unmount Answer.None
    ∷ []

abbrev small_home_said : List Said
small_home_said =
    told 0 (Reply.Life 1)
    ∷ told 0 (Reply.Trans 1)
    ∷ told 0 Reply.Okay
    ∷ told 0 Reply.Okay
    ∷ told 0 (Reply.Committed 1)
    ∷ told 0 (Reply.Wait 1)
    ∷ told 0 Reply.Okay
    ∷ told 0 Reply.Okay
    ∷ told 0 (Reply.Begun 1 1)
    ∷ said 0 (Reply.Landed 1) (LogOffer.Piece ((88 ∷ 67 ∷ 80 ∷ 50 ∷ []) ++ replicate 7 0 ++ (1 ∷ 0 ∷ 0 ∷ 0 ∷ 1 ∷ 0 ∷ 0 ∷ 2 ∷ []) ++ replicate 8 0 ++ (7 ∷ 0 ∷ 0 ∷ 0 ∷ 2 ∷ []) ++ replicate 6 0 ++ (1 ∷ 2 ∷ []) ++ replicate 124 0 ++ (88 ∷ 67 ∷ 69 ∷ 50 ∷ 0 ∷ 0 ∷ 0 ∷ 1 ∷ []) ++ replicate 7 0 ++ (1 ∷ [])) true ∷ LogOffer.Sync true ∷ []) []
    ∷ told 0 Reply.Okay
    ∷ told 0 Reply.Okay
    ∷ told 0 Reply.Okay
    ∷ said 0 (Reply.Flushed 1) [] (HomeOffer.Write 7 (replicate 130 0 ++ (1 ∷ 2 ∷ []) ++ replicate 380 0) true ∷ HomeOffer.Sync true ∷ [])
    ∷ told 0 Reply.Okay
    ∷ []

small_home : alone_run small_home_steps ≡ small_home_said
unfolding chunks_where
small_home = refl

small_home_order : orderly small_home_steps ≡ true
unfolding chunks_where
small_home_order = refl
