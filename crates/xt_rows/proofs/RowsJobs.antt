-- Scripts computed over the definitions: what each step of the mount alone says, and that the list is orderly.
-- Made by tools/row-theorems from the files of rows/.
use Rattle.std.proofs.Common.{◌≡◌, ℕ, List, [], ◌∷◌, ◌++◌, Some, None, true, false, refl}
use Rattle.std.specs.Prelude.{replicate}
use Rattle.xt_base.specs.Alone.{Said, alone_run}
use Rattle.xt_base.specs.Chunks.{chunks_where}
use Rattle.xt_base.specs.Order.{orderly}
use Rattle.xt_base.specs.declared.names.JobKind.{JobKind}
use Rattle.xt_base.specs.declared.names.JobName.{JobName}
use Rattle.xt_base.specs.declared.steps.Answer.TheVariants as Answer
use Rattle.xt_base.specs.declared.steps.Errno.TheVariants as Errno
use Rattle.xt_base.specs.declared.steps.HomeOffer.{HomeOffer}
use Rattle.xt_base.specs.declared.steps.LogOffer.{LogOffer}
use Rattle.xt_base.specs.declared.steps.Reason.TheVariants as Reason
use Rattle.xt_base.specs.declared.steps.Reply.{Reply}
use Rattle.xt_base.specs.declared.steps.Request.TheVariants as Request
use Rattle.xt_base.specs.declared.steps.Step.{Step}

-- the name of a job
abbrev name : ℕ → ℕ → JobKind → ℕ → JobName
name slot life kind serial = record { slot = slot; life = life; kind = kind; serial = serial }

-- a reply with offers, and one without
abbrev said : ℕ → Reply → List LogOffer → List HomeOffer → Said
said slot reply log home = record { slot = slot; reply = reply; log = log; home = home }

abbrev told : ℕ → Reply → Said
told slot reply = said slot reply [] []

-- ---- row10
abbrev row10_steps : List Step
row10_steps =
    Step.Mount 0 65536 1024 None
    ∷ Step.Call 0 1 (Request.Alloc 176 1 false) Answer.None
    ∷ Step.Call 0 1 (Request.Alloc 176 1 false) Answer.None
    ∷ Step.Call 0 1 (Request.Alloc 176 1 false) Answer.None
    ∷ Step.Call 0 1 (Request.Read 1 7) (Answer.Content (replicate 4096 0))
    ∷ Step.Call 0 1 (Request.Log 0 1 7 ((17 ∷ []))) Answer.None
    ∷ Step.Call 0 1 (Request.Read 3 8) (Answer.Content (replicate 4096 0))
    ∷ Step.Call 0 1 (Request.Log 0 3 8 ((17 ∷ []))) Answer.None
    ∷ Step.Call 0 1 (Request.Cancel 1) Answer.None
    ∷ Step.Show 0
    ∷ Step.Peek 0
    ∷ Step.Call 0 1 (Request.Alloc 176 1 false) Answer.None
    ∷ Step.Call 0 1 (Request.Commit 2) Answer.None
    ∷ Step.Call 0 1 (Request.Commit 3) Answer.None
    ∷ Step.Call 0 1 Request.Unmount Answer.None
    ∷ []

abbrev row10_said : List Said
row10_said =
    told 0 (Reply.Life 1)
    ∷ told 0 (Reply.Trans 1)
    ∷ told 0 (Reply.Trans 2)
    ∷ told 0 (Reply.Trans 3)
    ∷ told 0 Reply.Okay
    ∷ told 0 Reply.Okay
    ∷ told 0 Reply.Okay
    ∷ told 0 Reply.Okay
    ∷ told 0 Reply.Okay
    ∷ told 0 Reply.Okay
    ∷ told 0 (Reply.Seen 1 (Some Reason.CorruptIncore))
    ∷ told 0 (Reply.Refused Errno.Io)
    ∷ told 0 (Reply.Committed 0)
    ∷ told 0 (Reply.Refused Errno.Io)
    ∷ told 0 Reply.Okay
    ∷ []

row10 : alone_run row10_steps ≡ row10_said
unfolding chunks_where
row10 = refl

row10_order : orderly row10_steps ≡ true
unfolding chunks_where
row10_order = refl

-- ---- row13.slot0
abbrev row13_slot0_steps : List Step
row13_slot0_steps =
    Step.Mount 0 65536 1024 None
    ∷ Step.Call 0 1 (Request.Alloc 5000 1 false) Answer.None
    ∷ Step.Call 0 1 (Request.Get 1 7) Answer.None
    ∷ Step.Call 0 1 (Request.Log 0 1 7 (replicate 4096 170)) Answer.None
    ∷ Step.Call 0 1 (Request.Commit 1) Answer.None
    ∷ Step.Call 0 1 Request.Force Answer.None
    ∷ Step.Post (name 0 1 JobKind.Ckpt 1)
    ∷ Step.Take 0 (name 0 1 JobKind.Ckpt 1)
    ∷ Step.Begin 0 (name 0 1 JobKind.Ckpt 1)
    ∷ Step.End 0 (name 0 1 JobKind.Ckpt 1) (record { taken = 1; sync = None })
    ∷ Step.Show 0
    ∷ Step.Peek 0
    ∷ Step.Call 0 1 Request.Force Answer.None
    ∷ []

abbrev row13_slot0_said : List Said
row13_slot0_said =
    told 0 (Reply.Life 1)
    ∷ told 0 (Reply.Trans 1)
    ∷ told 0 Reply.Okay
    ∷ told 0 Reply.Okay
    ∷ told 0 (Reply.Committed 1)
    ∷ told 0 (Reply.Wait 1)
    ∷ told 0 Reply.Okay
    ∷ told 0 Reply.Okay
    ∷ told 0 (Reply.Begun 1 2)
    ∷ said 0 (Reply.Failed 1) (LogOffer.Piece ((88 ∷ 67 ∷ 80 ∷ 49 ∷ []) ++ replicate 7 0 ++ (1 ∷ 0 ∷ 0 ∷ 0 ∷ 1 ∷ []) ++ replicate 7 0 ++ (7 ∷ []) ++ replicate 4 255 ++ replicate 4 0 ++ replicate 4064 170) true ∷ LogOffer.Piece (replicate 32 170 ++ (88 ∷ 67 ∷ 69 ∷ 49 ∷ 0 ∷ 0 ∷ 0 ∷ 1 ∷ []) ++ replicate 7 0 ++ (1 ∷ [])) false ∷ []) []
    ∷ told 0 Reply.Okay
    ∷ told 0 (Reply.Seen 1 (Some Reason.LogIoError))
    ∷ told 0 (Reply.Refused Errno.Io)
    ∷ []

row13_slot0 : alone_run row13_slot0_steps ≡ row13_slot0_said
unfolding chunks_where
row13_slot0 = refl

row13_slot0_order : orderly row13_slot0_steps ≡ true
unfolding chunks_where
row13_slot0_order = refl

-- ---- row13.r1
abbrev row13_r1_steps : List Step
row13_r1_steps =
    Step.Mount 0 65536 1024 None
    ∷ Step.Call 0 1 (Request.Alloc 5000 1 false) Answer.None
    ∷ Step.Call 0 1 (Request.Get 1 7) Answer.None
    ∷ Step.Call 0 1 (Request.Log 0 1 7 (replicate 4096 170)) Answer.None
    ∷ Step.Call 0 1 (Request.Commit 1) Answer.None
    ∷ Step.Call 0 1 Request.Force Answer.None
    ∷ Step.Post (name 0 1 JobKind.Ckpt 1)
    ∷ Step.Take 0 (name 0 1 JobKind.Ckpt 1)
    ∷ Step.Begin 0 (name 0 1 JobKind.Ckpt 1)
    ∷ Step.End 0 (name 0 1 JobKind.Ckpt 1) (record { taken = 1; sync = None })
    ∷ Step.Call 0 1 Request.Force Answer.None
    ∷ []

abbrev row13_r1_said : List Said
row13_r1_said =
    told 0 (Reply.Life 1)
    ∷ told 0 (Reply.Trans 1)
    ∷ told 0 Reply.Okay
    ∷ told 0 Reply.Okay
    ∷ told 0 (Reply.Committed 1)
    ∷ told 0 (Reply.Wait 1)
    ∷ told 0 Reply.Okay
    ∷ told 0 Reply.Okay
    ∷ told 0 (Reply.Begun 1 2)
    ∷ said 0 (Reply.Failed 1) (LogOffer.Piece ((88 ∷ 67 ∷ 80 ∷ 49 ∷ []) ++ replicate 7 0 ++ (1 ∷ 0 ∷ 0 ∷ 0 ∷ 1 ∷ []) ++ replicate 7 0 ++ (7 ∷ []) ++ replicate 4 255 ++ replicate 4 0 ++ replicate 4064 170) true ∷ LogOffer.Piece (replicate 32 170 ++ (88 ∷ 67 ∷ 69 ∷ 49 ∷ 0 ∷ 0 ∷ 0 ∷ 1 ∷ []) ++ replicate 7 0 ++ (1 ∷ [])) false ∷ []) []
    ∷ told 0 (Reply.Refused Errno.Io)
    ∷ []

row13_r1 : alone_run row13_r1_steps ≡ row13_r1_said
unfolding chunks_where
row13_r1 = refl

row13_r1_order : orderly row13_r1_steps ≡ true
unfolding chunks_where
row13_r1_order = refl

-- ---- row14
abbrev row14_steps : List Step
row14_steps =
    Step.Mount 0 65536 1024 None
    ∷ Step.Call 0 1 (Request.Alloc 176 1 false) Answer.None
    ∷ Step.Call 0 1 (Request.Read 1 7) Answer.Failed
    ∷ Step.Show 0
    ∷ Step.Peek 0
    ∷ Step.Call 0 1 (Request.Read 1 7) (Answer.Content (replicate 4096 0))
    ∷ Step.Call 0 1 (Request.Log 0 1 7 ((17 ∷ []))) Answer.None
    ∷ Step.Call 0 1 (Request.Read 1 8) Answer.Failed
    ∷ Step.Show 0
    ∷ Step.Peek 0
    ∷ Step.Call 0 1 (Request.Cancel 1) Answer.None
    ∷ []

abbrev row14_said : List Said
row14_said =
    told 0 (Reply.Life 1)
    ∷ told 0 (Reply.Trans 1)
    ∷ told 0 (Reply.Refused Errno.Io)
    ∷ told 0 Reply.Okay
    ∷ told 0 (Reply.Seen 1 None)
    ∷ told 0 Reply.Okay
    ∷ told 0 Reply.Okay
    ∷ told 0 (Reply.Refused Errno.Io)
    ∷ told 0 Reply.Okay
    ∷ told 0 (Reply.Seen 1 (Some Reason.MetaIoError))
    ∷ told 0 Reply.Okay
    ∷ []

row14 : alone_run row14_steps ≡ row14_said
unfolding chunks_where
row14 = refl

row14_order : orderly row14_steps ≡ true
unfolding chunks_where
row14_order = refl

-- ---- row15
abbrev row15_steps : List Step
row15_steps =
    Step.Mount 0 65536 1024 None
    ∷ Step.Call 0 1 (Request.Alloc 176 1 false) Answer.None
    ∷ Step.Call 0 1 (Request.Read 1 7) (Answer.Content (replicate 4096 0))
    ∷ Step.Call 0 1 (Request.Log 0 1 7 ((17 ∷ []))) Answer.None
    ∷ Step.Call 0 1 (Request.Log 128 1 7 ((34 ∷ []))) Answer.None
    ∷ Step.Call 0 1 (Request.View 1 7) Answer.None
    ∷ Step.Call 0 1 (Request.Roll 1) Answer.None
    ∷ Step.Call 0 1 (Request.Alloc 176 2 true) Answer.None
    ∷ Step.Call 0 1 (Request.Read 2 8) (Answer.Content (replicate 4096 0))
    ∷ Step.Call 0 1 (Request.Log 0 2 8 ((17 ∷ []))) Answer.None
    ∷ Step.Call 0 1 (Request.Roll 2) Answer.None
    ∷ Step.Call 0 1 (Request.Alloc 65008 1 false) Answer.None
    ∷ Step.Call 0 1 (Request.Get 2 8) Answer.None
    ∷ Step.Call 0 1 (Request.Log 128 2 8 ((34 ∷ []))) Answer.None
    ∷ Step.Call 0 1 (Request.Roll 2) Answer.None
    ∷ Step.Call 0 1 (Request.View 2 8) Answer.None
    ∷ Step.Call 0 1 (Request.Cancel 3) Answer.None
    ∷ Step.Call 0 1 (Request.Roll 2) Answer.None
    ∷ []

abbrev row15_said : List Said
row15_said =
    told 0 (Reply.Life 1)
    ∷ told 0 (Reply.Trans 1)
    ∷ told 0 Reply.Okay
    ∷ told 0 Reply.Okay
    ∷ told 0 (Reply.Refused Errno.NoSpace)
    ∷ told 0 (Reply.Data ((17 ∷ []) ++ replicate 4095 0))
    ∷ told 0 (Reply.Refused Errno.Invalid)
    ∷ told 0 (Reply.Trans 2)
    ∷ told 0 Reply.Okay
    ∷ told 0 Reply.Okay
    ∷ told 0 (Reply.Committed 1)
    ∷ told 0 (Reply.Trans 3)
    ∷ told 0 Reply.Okay
    ∷ told 0 Reply.Okay
    ∷ told 0 (Reply.Refused Errno.Again)
    ∷ told 0 (Reply.Data ((17 ∷ []) ++ replicate 127 0 ++ (34 ∷ []) ++ replicate 3967 0))
    ∷ told 0 Reply.Okay
    ∷ told 0 (Reply.Committed 1)
    ∷ []

row15 : alone_run row15_steps ≡ row15_said
unfolding chunks_where
row15 = refl

row15_order : orderly row15_steps ≡ true
unfolding chunks_where
row15_order = refl

-- ---- row17
abbrev row17_steps : List Step
row17_steps =
    Step.Mount 0 65536 1024 None
    ∷ Step.Call 0 1 (Request.Alloc 176 1 false) Answer.None
    ∷ Step.Call 0 1 (Request.Read 1 7) (Answer.Content (replicate 4096 0))
    ∷ Step.Call 0 1 (Request.Log 0 1 7 ((17 ∷ []))) Answer.None
    ∷ Step.Call 0 1 (Request.Commit 1) Answer.None
    ∷ Step.Call 0 1 Request.Force Answer.None
    ∷ Step.Post (name 0 1 JobKind.Ckpt 1)
    ∷ Step.Take 0 (name 0 1 JobKind.Ckpt 1)
    ∷ Step.Begin 0 (name 0 1 JobKind.Ckpt 1)
    ∷ Step.Call 0 1 (Request.Alloc 176 1 false) Answer.None
    ∷ Step.Call 0 1 (Request.Get 2 7) Answer.None
    ∷ Step.Call 0 1 (Request.Log 128 2 7 ((34 ∷ []))) Answer.None
    ∷ Step.Call 0 1 (Request.Commit 2) Answer.None
    ∷ Step.End 0 (name 0 1 JobKind.Ckpt 1) (record { taken = 1; sync = Some true })
    ∷ Step.Call 0 1 Request.Push Answer.None
    ∷ Step.Post (name 0 1 JobKind.Flush 2)
    ∷ Step.Take 0 (name 0 1 JobKind.Flush 2)
    ∷ Step.Flush 0 (name 0 1 JobKind.Flush 2) (record { count = 0; writes = (false ∷ false ∷ false ∷ false ∷ false ∷ false ∷ false ∷ false ∷ []); sync = false })
    ∷ Step.Call 0 1 Request.Force Answer.None
    ∷ Step.Post (name 0 1 JobKind.Ckpt 3)
    ∷ Step.Take 0 (name 0 1 JobKind.Ckpt 3)
    ∷ Step.Begin 0 (name 0 1 JobKind.Ckpt 3)
    ∷ Step.End 0 (name 0 1 JobKind.Ckpt 3) (record { taken = 1; sync = Some true })
    ∷ Step.Call 0 1 Request.Push Answer.None
    ∷ Step.Post (name 0 1 JobKind.Flush 4)
    ∷ Step.Take 0 (name 0 1 JobKind.Flush 4)
    ∷ Step.Flush 0 (name 0 1 JobKind.Flush 4) (record { count = 1; writes = (true ∷ false ∷ false ∷ false ∷ false ∷ false ∷ false ∷ false ∷ []); sync = true })
    ∷ []

abbrev row17_said : List Said
row17_said =
    told 0 (Reply.Life 1)
    ∷ told 0 (Reply.Trans 1)
    ∷ told 0 Reply.Okay
    ∷ told 0 Reply.Okay
    ∷ told 0 (Reply.Committed 1)
    ∷ told 0 (Reply.Wait 1)
    ∷ told 0 Reply.Okay
    ∷ told 0 Reply.Okay
    ∷ told 0 (Reply.Begun 1 1)
    ∷ told 0 (Reply.Trans 2)
    ∷ told 0 Reply.Okay
    ∷ told 0 Reply.Okay
    ∷ told 0 (Reply.Committed 2)
    ∷ said 0 (Reply.Landed 1) (LogOffer.Piece ((88 ∷ 67 ∷ 80 ∷ 49 ∷ []) ++ replicate 7 0 ++ (1 ∷ 0 ∷ 0 ∷ 0 ∷ 1 ∷ []) ++ replicate 7 0 ++ (7 ∷ 0 ∷ 0 ∷ 0 ∷ 1 ∷ []) ++ replicate 4 0 ++ (17 ∷ []) ++ replicate 127 0 ++ (88 ∷ 67 ∷ 69 ∷ 49 ∷ 0 ∷ 0 ∷ 0 ∷ 1 ∷ []) ++ replicate 7 0 ++ (1 ∷ [])) true ∷ LogOffer.Sync true ∷ []) []
    ∷ told 0 Reply.Okay
    ∷ told 0 Reply.Okay
    ∷ told 0 Reply.Okay
    ∷ told 0 Reply.Nothing
    ∷ told 0 (Reply.Wait 2)
    ∷ told 0 Reply.Okay
    ∷ told 0 Reply.Okay
    ∷ told 0 (Reply.Begun 2 1)
    ∷ said 0 (Reply.Landed 2) (LogOffer.Piece ((88 ∷ 67 ∷ 80 ∷ 49 ∷ []) ++ replicate 7 0 ++ (2 ∷ 0 ∷ 0 ∷ 0 ∷ 1 ∷ []) ++ replicate 7 0 ++ (7 ∷ 0 ∷ 0 ∷ 0 ∷ 2 ∷ []) ++ replicate 4 0 ++ (34 ∷ []) ++ replicate 127 0 ++ (88 ∷ 67 ∷ 69 ∷ 49 ∷ 0 ∷ 0 ∷ 0 ∷ 1 ∷ []) ++ replicate 7 0 ++ (2 ∷ [])) true ∷ LogOffer.Sync true ∷ []) []
    ∷ told 0 Reply.Okay
    ∷ told 0 Reply.Okay
    ∷ told 0 Reply.Okay
    ∷ said 0 (Reply.Flushed 1) [] (HomeOffer.Write 7 ((17 ∷ []) ++ replicate 127 0 ++ (34 ∷ []) ++ replicate 3967 0) true ∷ HomeOffer.Sync true ∷ [])
    ∷ []

row17 : alone_run row17_steps ≡ row17_said
unfolding chunks_where
row17 = refl

row17_order : orderly row17_steps ≡ true
unfolding chunks_where
row17_order = refl

-- ---- row17.open_leg
abbrev row17_open_leg_steps : List Step
row17_open_leg_steps =
    Step.Mount 0 65536 1024 None
    ∷ Step.Call 0 1 (Request.Alloc 176 1 false) Answer.None
    ∷ Step.Call 0 1 (Request.Read 1 7) (Answer.Content (replicate 4096 0))
    ∷ Step.Call 0 1 (Request.Log 0 1 7 ((17 ∷ []))) Answer.None
    ∷ Step.Call 0 1 (Request.Commit 1) Answer.None
    ∷ Step.Call 0 1 Request.Force Answer.None
    ∷ Step.Post (name 0 1 JobKind.Ckpt 1)
    ∷ Step.Take 0 (name 0 1 JobKind.Ckpt 1)
    ∷ Step.Begin 0 (name 0 1 JobKind.Ckpt 1)
    ∷ Step.Call 0 1 (Request.Alloc 176 1 false) Answer.None
    ∷ Step.Call 0 1 (Request.Get 2 7) Answer.None
    ∷ Step.Call 0 1 (Request.Log 128 2 7 ((34 ∷ []))) Answer.None
    ∷ Step.Call 0 1 (Request.Commit 2) Answer.None
    ∷ Step.End 0 (name 0 1 JobKind.Ckpt 1) (record { taken = 1; sync = Some true })
    ∷ Step.Call 0 1 Request.Push Answer.None
    ∷ Step.Post (name 0 1 JobKind.Flush 2)
    ∷ Step.Take 0 (name 0 1 JobKind.Flush 2)
    ∷ Step.Flush 0 (name 0 1 JobKind.Flush 2) (record { count = 0; writes = (false ∷ false ∷ false ∷ false ∷ false ∷ false ∷ false ∷ false ∷ []); sync = false })
    ∷ Step.Call 0 1 Request.Force Answer.None
    ∷ Step.Post (name 0 1 JobKind.Ckpt 3)
    ∷ Step.Take 0 (name 0 1 JobKind.Ckpt 3)
    ∷ Step.Call 0 1 (Request.Alloc 176 1 false) Answer.None
    ∷ Step.Call 0 1 (Request.Get 3 7) Answer.None
    ∷ Step.Call 0 1 (Request.Log 256 3 7 ((51 ∷ []))) Answer.None
    ∷ Step.Begin 0 (name 0 1 JobKind.Ckpt 3)
    ∷ Step.End 0 (name 0 1 JobKind.Ckpt 3) (record { taken = 1; sync = Some true })
    ∷ Step.Call 0 1 Request.Push Answer.None
    ∷ Step.Post (name 0 1 JobKind.Flush 4)
    ∷ Step.Take 0 (name 0 1 JobKind.Flush 4)
    ∷ Step.Flush 0 (name 0 1 JobKind.Flush 4) (record { count = 0; writes = (false ∷ false ∷ false ∷ false ∷ false ∷ false ∷ false ∷ false ∷ []); sync = false })
    ∷ []

abbrev row17_open_leg_said : List Said
row17_open_leg_said =
    told 0 (Reply.Life 1)
    ∷ told 0 (Reply.Trans 1)
    ∷ told 0 Reply.Okay
    ∷ told 0 Reply.Okay
    ∷ told 0 (Reply.Committed 1)
    ∷ told 0 (Reply.Wait 1)
    ∷ told 0 Reply.Okay
    ∷ told 0 Reply.Okay
    ∷ told 0 (Reply.Begun 1 1)
    ∷ told 0 (Reply.Trans 2)
    ∷ told 0 Reply.Okay
    ∷ told 0 Reply.Okay
    ∷ told 0 (Reply.Committed 2)
    ∷ said 0 (Reply.Landed 1) (LogOffer.Piece ((88 ∷ 67 ∷ 80 ∷ 49 ∷ []) ++ replicate 7 0 ++ (1 ∷ 0 ∷ 0 ∷ 0 ∷ 1 ∷ []) ++ replicate 7 0 ++ (7 ∷ 0 ∷ 0 ∷ 0 ∷ 1 ∷ []) ++ replicate 4 0 ++ (17 ∷ []) ++ replicate 127 0 ++ (88 ∷ 67 ∷ 69 ∷ 49 ∷ 0 ∷ 0 ∷ 0 ∷ 1 ∷ []) ++ replicate 7 0 ++ (1 ∷ [])) true ∷ LogOffer.Sync true ∷ []) []
    ∷ told 0 Reply.Okay
    ∷ told 0 Reply.Okay
    ∷ told 0 Reply.Okay
    ∷ told 0 Reply.Nothing
    ∷ told 0 (Reply.Wait 2)
    ∷ told 0 Reply.Okay
    ∷ told 0 Reply.Okay
    ∷ told 0 (Reply.Trans 3)
    ∷ told 0 Reply.Okay
    ∷ told 0 Reply.Okay
    ∷ told 0 (Reply.Begun 2 1)
    ∷ said 0 (Reply.Landed 2) (LogOffer.Piece ((88 ∷ 67 ∷ 80 ∷ 49 ∷ []) ++ replicate 7 0 ++ (2 ∷ 0 ∷ 0 ∷ 0 ∷ 1 ∷ []) ++ replicate 7 0 ++ (7 ∷ 0 ∷ 0 ∷ 0 ∷ 2 ∷ []) ++ replicate 4 0 ++ (34 ∷ []) ++ replicate 127 0 ++ (88 ∷ 67 ∷ 69 ∷ 49 ∷ 0 ∷ 0 ∷ 0 ∷ 1 ∷ []) ++ replicate 7 0 ++ (2 ∷ [])) true ∷ LogOffer.Sync true ∷ []) []
    ∷ told 0 Reply.Okay
    ∷ told 0 Reply.Okay
    ∷ told 0 Reply.Okay
    ∷ told 0 Reply.Nothing
    ∷ []

row17_open_leg : alone_run row17_open_leg_steps ≡ row17_open_leg_said
unfolding chunks_where
row17_open_leg = refl

row17_open_leg_order : orderly row17_open_leg_steps ≡ true
unfolding chunks_where
row17_open_leg_order = refl

-- ---- row19
abbrev row19_steps : List Step
row19_steps =
    Step.Mount 0 65536 1024 None
    ∷ Step.Call 0 1 (Request.Alloc 176 1 false) Answer.None
    ∷ Step.Call 0 1 (Request.Read 1 7) (Answer.Content (replicate 4096 0))
    ∷ Step.Call 0 1 (Request.Log 130 1 7 ((1 ∷ 2 ∷ []))) Answer.None
    ∷ Step.Call 0 1 (Request.Commit 1) Answer.None
    ∷ Step.Call 0 1 Request.Force Answer.None
    ∷ Step.Post (name 0 1 JobKind.Ckpt 1)
    ∷ Step.Take 0 (name 0 1 JobKind.Ckpt 1)
    ∷ Step.Begin 0 (name 0 1 JobKind.Ckpt 1)
    ∷ Step.End 0 (name 0 1 JobKind.Ckpt 1) (record { taken = 1; sync = Some true })
    ∷ Step.Call 0 1 Request.Push Answer.None
    ∷ Step.Post (name 0 1 JobKind.Flush 2)
    ∷ Step.Take 0 (name 0 1 JobKind.Flush 2)
    ∷ Step.Flush 0 (name 0 1 JobKind.Flush 2) (record { count = 1; writes = (false ∷ false ∷ false ∷ false ∷ false ∷ false ∷ false ∷ false ∷ []); sync = true })
    ∷ Step.Call 0 1 Request.Unmount Answer.None
    ∷ Step.Call 0 1 Request.Push Answer.None
    ∷ Step.Post (name 0 1 JobKind.Flush 3)
    ∷ Step.Take 0 (name 0 1 JobKind.Flush 3)
    ∷ Step.Flush 0 (name 0 1 JobKind.Flush 3) (record { count = 1; writes = (true ∷ false ∷ false ∷ false ∷ false ∷ false ∷ false ∷ false ∷ []); sync = true })
    ∷ Step.Call 0 1 Request.Unmount Answer.None
    ∷ []

abbrev row19_said : List Said
row19_said =
    told 0 (Reply.Life 1)
    ∷ told 0 (Reply.Trans 1)
    ∷ told 0 Reply.Okay
    ∷ told 0 Reply.Okay
    ∷ told 0 (Reply.Committed 1)
    ∷ told 0 (Reply.Wait 1)
    ∷ told 0 Reply.Okay
    ∷ told 0 Reply.Okay
    ∷ told 0 (Reply.Begun 1 1)
    ∷ said 0 (Reply.Landed 1) (LogOffer.Piece ((88 ∷ 67 ∷ 80 ∷ 49 ∷ []) ++ replicate 7 0 ++ (1 ∷ 0 ∷ 0 ∷ 0 ∷ 1 ∷ []) ++ replicate 7 0 ++ (7 ∷ 0 ∷ 0 ∷ 0 ∷ 2 ∷ []) ++ replicate 6 0 ++ (1 ∷ 2 ∷ []) ++ replicate 124 0 ++ (88 ∷ 67 ∷ 69 ∷ 49 ∷ 0 ∷ 0 ∷ 0 ∷ 1 ∷ []) ++ replicate 7 0 ++ (1 ∷ [])) true ∷ LogOffer.Sync true ∷ []) []
    ∷ told 0 Reply.Okay
    ∷ told 0 Reply.Okay
    ∷ told 0 Reply.Okay
    ∷ said 0 (Reply.Flushed 0) [] (HomeOffer.Write 7 (replicate 130 0 ++ (1 ∷ 2 ∷ []) ++ replicate 3964 0) false ∷ HomeOffer.Sync true ∷ [])
    ∷ told 0 (Reply.Refused Errno.Busy)
    ∷ told 0 Reply.Okay
    ∷ told 0 Reply.Okay
    ∷ told 0 Reply.Okay
    ∷ said 0 (Reply.Flushed 1) [] (HomeOffer.Write 7 (replicate 130 0 ++ (1 ∷ 2 ∷ []) ++ replicate 3964 0) true ∷ HomeOffer.Sync true ∷ [])
    ∷ told 0 Reply.Okay
    ∷ []

row19 : alone_run row19_steps ≡ row19_said
unfolding chunks_where
row19 = refl

row19_order : orderly row19_steps ≡ true
unfolding chunks_where
row19_order = refl

-- ---- row20
abbrev row20_steps : List Step
row20_steps =
    Step.Mount 0 65535 1 None
    ∷ Step.Mount 0 16777216 1 None
    ∷ Step.Mount 0 65536 1 None
    ∷ Step.Call 0 1 Request.Unmount Answer.None
    ∷ Step.Call 0 1 Request.Force Answer.None
    ∷ Step.Mount 0 65536 1 None
    ∷ Step.Call 0 1 Request.Force Answer.None
    ∷ Step.Call 0 2 Request.Force Answer.None
    ∷ Step.Call 0 2 (Request.Alloc 1 2 false) Answer.None
    ∷ Step.Call 0 2 (Request.Alloc 1 1 false) Answer.None
    ∷ Step.Call 0 2 (Request.Get 1 1) Answer.None
    ∷ []

abbrev row20_said : List Said
row20_said =
    told 0 (Reply.Refused Errno.Invalid)
    ∷ told 0 (Reply.Life 1)
    ∷ told 0 (Reply.Refused Errno.Busy)
    ∷ told 0 Reply.Okay
    ∷ told 0 (Reply.Refused Errno.NoDevice)
    ∷ told 0 (Reply.Life 2)
    ∷ told 0 (Reply.Refused Errno.Stale)
    ∷ told 0 Reply.Done
    ∷ told 0 (Reply.Refused Errno.Invalid)
    ∷ told 0 (Reply.Trans 1)
    ∷ told 0 (Reply.Refused Errno.Invalid)
    ∷ []

row20 : alone_run row20_steps ≡ row20_said
unfolding chunks_where
row20 = refl

row20_order : orderly row20_steps ≡ true
unfolding chunks_where
row20_order = refl

-- ---- relogged
abbrev relogged_steps : List Step
relogged_steps =
    Step.Mount 0 65536 1024 None
    ∷ Step.Call 0 1 (Request.Alloc 5000 1 false) Answer.None
    ∷ Step.Call 0 1 (Request.Get 1 7) Answer.None
    ∷ Step.Call 0 1 (Request.Log 0 1 7 (replicate 4096 170)) Answer.None
    ∷ Step.Call 0 1 (Request.Commit 1) Answer.None
    ∷ Step.Call 0 1 Request.Force Answer.None
    ∷ Step.Post (name 0 1 JobKind.Ckpt 1)
    ∷ Step.Take 0 (name 0 1 JobKind.Ckpt 1)
    ∷ Step.Begin 0 (name 0 1 JobKind.Ckpt 1)
    ∷ Step.End 0 (name 0 1 JobKind.Ckpt 1) (record { taken = 2; sync = Some true })
    ∷ Step.Call 0 1 Request.Force Answer.None
    ∷ Step.Call 0 1 (Request.Alloc 176 1 false) Answer.None
    ∷ Step.Call 0 1 (Request.Get 2 7) Answer.None
    ∷ Step.Call 0 1 (Request.Log 0 2 7 ((187 ∷ []))) Answer.None
    ∷ Step.Call 0 1 (Request.Commit 2) Answer.None
    ∷ Step.Call 0 1 Request.Force Answer.None
    ∷ Step.Post (name 0 1 JobKind.Ckpt 2)
    ∷ Step.Take 0 (name 0 1 JobKind.Ckpt 2)
    ∷ Step.Begin 0 (name 0 1 JobKind.Ckpt 2)
    ∷ Step.End 0 (name 0 1 JobKind.Ckpt 2) (record { taken = 1; sync = Some true })
    ∷ []

abbrev relogged_said : List Said
relogged_said =
    told 0 (Reply.Life 1)
    ∷ told 0 (Reply.Trans 1)
    ∷ told 0 Reply.Okay
    ∷ told 0 Reply.Okay
    ∷ told 0 (Reply.Committed 1)
    ∷ told 0 (Reply.Wait 1)
    ∷ told 0 Reply.Okay
    ∷ told 0 Reply.Okay
    ∷ told 0 (Reply.Begun 1 2)
    ∷ said 0 (Reply.Landed 1) (LogOffer.Piece ((88 ∷ 67 ∷ 80 ∷ 49 ∷ []) ++ replicate 7 0 ++ (1 ∷ 0 ∷ 0 ∷ 0 ∷ 1 ∷ []) ++ replicate 7 0 ++ (7 ∷ []) ++ replicate 4 255 ++ replicate 4 0 ++ replicate 4064 170) true ∷ LogOffer.Piece (replicate 32 170 ++ (88 ∷ 67 ∷ 69 ∷ 49 ∷ 0 ∷ 0 ∷ 0 ∷ 1 ∷ []) ++ replicate 7 0 ++ (1 ∷ [])) true ∷ LogOffer.Sync true ∷ []) []
    ∷ told 0 Reply.Done
    ∷ told 0 (Reply.Trans 2)
    ∷ told 0 Reply.Okay
    ∷ told 0 Reply.Okay
    ∷ told 0 (Reply.Committed 2)
    ∷ told 0 (Reply.Wait 2)
    ∷ told 0 Reply.Okay
    ∷ told 0 Reply.Okay
    ∷ told 0 (Reply.Begun 2 1)
    ∷ said 0 (Reply.Landed 2) (LogOffer.Piece ((88 ∷ 67 ∷ 80 ∷ 49 ∷ []) ++ replicate 7 0 ++ (2 ∷ 0 ∷ 0 ∷ 0 ∷ 1 ∷ []) ++ replicate 7 0 ++ (7 ∷ 0 ∷ 0 ∷ 0 ∷ 1 ∷ []) ++ replicate 4 0 ++ (187 ∷ []) ++ replicate 127 170 ++ (88 ∷ 67 ∷ 69 ∷ 49 ∷ 0 ∷ 0 ∷ 0 ∷ 1 ∷ []) ++ replicate 7 0 ++ (2 ∷ [])) true ∷ LogOffer.Sync true ∷ []) []
    ∷ []

relogged : alone_run relogged_steps ≡ relogged_said
unfolding chunks_where
relogged = refl

relogged_order : orderly relogged_steps ≡ true
unfolding chunks_where
relogged_order = refl

-- ---- refused_allocs
abbrev refused_allocs_steps : List Step
refused_allocs_steps =
    Step.Mount 0 65536 1024 None
    ∷ Step.Call 0 1 (Request.Alloc 8193 8 true) Answer.None
    ∷ Step.Call 0 1 (Request.Alloc 65536 1 false) Answer.None
    ∷ Step.Call 0 1 (Request.Alloc 1 1 false) Answer.None
    ∷ Step.Call 0 1 (Request.Commit 1) Answer.None
    ∷ Step.Call 0 1 (Request.Alloc 8192 8 true) Answer.None
    ∷ []

abbrev refused_allocs_said : List Said
refused_allocs_said =
    told 0 (Reply.Life 1)
    ∷ told 0 (Reply.Refused Errno.Invalid)
    ∷ told 0 (Reply.Trans 1)
    ∷ told 0 (Reply.Refused Errno.Again)
    ∷ told 0 (Reply.Committed 0)
    ∷ told 0 (Reply.Trans 2)
    ∷ []

refused_allocs : alone_run refused_allocs_steps ≡ refused_allocs_said
unfolding chunks_where
refused_allocs = refl

refused_allocs_order : orderly refused_allocs_steps ≡ true
unfolding chunks_where
refused_allocs_order = refl
