-- Scripts computed over the definitions: what each step of the mount alone says, and that the list is orderly.
-- Made by tools/row-theorems from the files of rows/.
use Rattle.std.proofs.Common.{◌≡◌, ℕ, List, [], ◌∷◌, ◌++◌, Some, None, true, false, refl}
use Rattle.std.specs.Prelude.{replicate}
use Rattle.xt_base.specs.Alone.{Said, alone_run}
use Rattle.xt_base.specs.Chunks.{chunks_where}
use Rattle.xt_base.specs.Order.{in_order}
use Rattle.xt_base.specs.State.{empty}
use Rattle.xt_base.specs.declared.names.JobKind.{JobKind}
use Rattle.xt_base.specs.declared.names.JobName.{JobName}
use Rattle.xt_base.specs.declared.steps.Answer.TheVariants as Answer
use Rattle.xt_base.specs.declared.steps.Errno.TheVariants as Errno
use Rattle.xt_base.specs.declared.steps.HomeOffer.{HomeOffer}
use Rattle.xt_base.specs.declared.steps.LogOffer.{LogOffer}
use Rattle.xt_base.specs.declared.steps.Reason.TheVariants as Reason
use Rattle.xt_base.specs.declared.steps.Reply.{Reply}
use Rattle.xt_base.specs.declared.steps.Request.TheVariants as Request
use Rattle.xt_base.specs.declared.steps.Step.{Step}

-- the name of a job
abbrev name : ℕ → ℕ → JobKind → ℕ → JobName
name slot life kind serial = record { slot = slot; life = life; kind = kind; serial = serial }

-- a reply with offers, and one without
abbrev said : ℕ → Reply → List LogOffer → List HomeOffer → Said
said slot reply log home = record { slot = slot; reply = reply; log = log; home = home }

abbrev told : ℕ → Reply → Said
told slot reply = said slot reply [] []

-- ---- list10
abbrev list10_steps : List Step
list10_steps =
    Step.Mount 5 65536 40 None
    ∷ Step.Call 5 1 (Request.Alloc 180 1 false) Answer.None
    ∷ Step.Call 5 1 (Request.Read 1 34) (Answer.Content (replicate 4096 85))
    ∷ Step.Call 5 1 (Request.Log 0 1 34 ((90 ∷ []))) Answer.None
    ∷ Step.Call 5 1 (Request.Commit 1) Answer.None
    ∷ Step.Call 5 1 Request.Force Answer.None
    ∷ Step.Post (name 5 1 JobKind.Ckpt 1)
    ∷ Step.Call 5 1 Request.Push Answer.None
    ∷ Step.Post (name 5 1 JobKind.Flush 2)
    ∷ Step.Call 5 1 (Request.Alloc 5000 1 false) Answer.None
    ∷ Step.Mount 5 65536 1024 None
    ∷ Step.Call 5 1 (Request.Release 22) Answer.None
    ∷ Step.Call 5 1 (Request.Read 2 0) (Answer.Content (replicate 4096 102))
    ∷ Step.Call 5 1 (Request.Alloc 816 1 false) Answer.None
    ∷ Step.Call 5 1 (Request.Log 3455 2 0 ((17 ∷ 17 ∷ []))) Answer.None
    ∷ Step.Call 5 1 (Request.View 2 0) Answer.None
    ∷ Step.Call 5 1 (Request.Log 3712 2 26 ((80 ∷ 216 ∷ 217 ∷ 100 ∷ []))) Answer.None
    ∷ Step.Call 5 1 (Request.Log 1987 2 0 ((34 ∷ 34 ∷ []) ++ replicate 2107 0)) Answer.None
    ∷ Step.Call 5 1 (Request.Read 2 10) (Answer.Content ((253 ∷ []) ++ replicate 4095 0))
    ∷ Step.Show 5
    ∷ Step.Call 5 1 (Request.ForceTo 0) Answer.None
    ∷ Step.Call 5 1 (Request.Log 3161 2 10 ((170 ∷ 170 ∷ 34 ∷ []) ++ replicate 297 0)) Answer.None
    ∷ Step.Call 5 1 (Request.Unhold 2 0) Answer.None
    ∷ Step.Mount 5 65536 1024 None
    ∷ Step.Call 5 1 (Request.Join 3 31) Answer.None
    ∷ Step.Call 5 1 (Request.Log 353 2 0 ((32 ∷ []))) Answer.None
    ∷ Step.Call 5 1 (Request.Read 2 0) Answer.None
    ∷ Step.Take 7 (name 5 1 JobKind.Ckpt 1)
    ∷ Step.Call 5 1 (Request.Read 3 22) (Answer.Content (replicate 4096 85))
    ∷ Step.Call 5 1 (Request.Log 3690 3 22 (replicate 4 255)) Answer.None
    ∷ Step.Take 2 (name 5 1 JobKind.Flush 2)
    ∷ Step.Call 5 1 (Request.Read 3 19) (Answer.Content ((206 ∷ 203 ∷ []) ++ replicate 4094 1))
    ∷ Step.Call 5 1 (Request.Log 3455 3 22 ((0 ∷ 0 ∷ []))) Answer.None
    ∷ Step.Call 5 1 (Request.Alloc 20592 1 true) Answer.None
    ∷ Step.Call 5 1 (Request.Get 4 24) Answer.None
    ∷ Step.Call 5 1 (Request.Log 0 4 24 (replicate 4096 2)) Answer.None
    ∷ Step.Call 5 1 (Request.Get 4 14) Answer.None
    ∷ Step.Call 5 1 (Request.Log 0 4 14 (replicate 4096 74)) Answer.None
    ∷ Step.Flush 2 (name 5 1 JobKind.Flush 2) (record { count = 0; writes = (false ∷ false ∷ false ∷ false ∷ false ∷ false ∷ false ∷ false ∷ []); sync = false })
    ∷ Step.Call 5 1 (Request.Get 4 6) Answer.None
    ∷ Step.Call 5 1 (Request.Log 0 4 6 (replicate 4096 116)) Answer.None
    ∷ Step.Call 5 1 (Request.Get 2 12) Answer.None
    ∷ Step.Call 5 1 (Request.ForceTo 0) Answer.None
    ∷ Step.Call 5 1 (Request.Get 4 2) Answer.None
    ∷ Step.Call 5 1 (Request.Log 0 4 2 (replicate 4096 61)) Answer.None
    ∷ Step.Call 5 1 (Request.Get 4 30) Answer.None
    ∷ Step.Call 5 1 (Request.Log 0 4 30 (replicate 4096 101)) Answer.None
    ∷ Step.Call 5 1 (Request.Commit 4) Answer.None
    ∷ Step.Call 5 1 (Request.Commit 3) Answer.None
    ∷ Step.Call 5 1 (Request.Log 2048 2 10 (replicate 129 0)) Answer.None
    ∷ Step.Call 5 1 Request.Force Answer.None
    ∷ Step.Call 5 1 (Request.Get 2 34) Answer.None
    ∷ Step.Call 5 1 (Request.Log 256 2 34 (replicate 128 0)) Answer.None
    ∷ Step.Call 5 1 (Request.Commit 2) Answer.None
    ∷ Step.Call 5 1 (Request.Get 1 24) Answer.None
    ∷ Step.Call 5 1 (Request.Log 2688 1 24 ((0 ∷ 0 ∷ 0 ∷ []) ++ replicate 5 170 ++ (0 ∷ 0 ∷ 0 ∷ 255 ∷ 170 ∷ []) ++ replicate 5 34 ++ replicate 109 170)) Answer.None
    ∷ Step.Call 5 1 (Request.Inval 1 24) Answer.None
    ∷ Step.Call 5 1 (Request.Commit 1) Answer.None
    ∷ Step.Call 5 1 (Request.Get 1 10) Answer.None
    ∷ Step.Call 5 1 (Request.Log 1420 1 10 ((255 ∷ []))) Answer.None
    ∷ Step.Call 5 1 (Request.Commit 1) Answer.None
    ∷ Step.Call 5 1 (Request.Alloc 351 1 false) Answer.None
    ∷ Step.Call 5 1 (Request.Read 5 21) (Answer.Content ((245 ∷ 44 ∷ []) ++ replicate 4094 1))
    ∷ Step.Call 5 1 (Request.Alloc 1000 3 true) Answer.None
    ∷ Step.Call 5 1 (Request.Read 6 22) Answer.None
    ∷ Step.Call 5 1 (Request.Log 2303 6 22 (replicate 4 170 ++ replicate 1789 17)) Answer.None
    ∷ Step.Call 5 1 (Request.Roll 6) Answer.None
    ∷ Step.Call 5 1 (Request.Get 6 19) Answer.None
    ∷ Step.Call 5 1 (Request.Relse 5 21) Answer.None
    ∷ Step.Call 5 1 (Request.Log 384 6 19 ((34 ∷ 17 ∷ 17 ∷ []) ++ replicate 4 34 ++ (17 ∷ 17 ∷ 17 ∷ 0 ∷ 34 ∷ 34 ∷ 34 ∷ []) ++ replicate 3698 0)) Answer.None
    ∷ Step.Call 5 1 (Request.Hold 6 19) Answer.None
    ∷ Step.Call 5 1 (Request.Roll 6) Answer.None
    ∷ Step.Call 5 1 (Request.Get 6 24) Answer.None
    ∷ Step.Call 5 1 (Request.Log 2459 6 24 ((100 ∷ 123 ∷ []))) Answer.None
    ∷ Step.Call 5 1 (Request.Roll 6) Answer.None
    ∷ Step.Call 5 1 (Request.Read 6 20) (Answer.Content (replicate 4096 0))
    ∷ Step.Call 5 1 (Request.Get 6 31) Answer.None
    ∷ Step.Call 5 1 (Request.Log 0 6 31 (replicate 4096 170)) Answer.None
    ∷ Step.Call 5 1 (Request.Commit 6) Answer.None
    ∷ Step.Call 5 1 (Request.Hold 6 31) Answer.None
    ∷ Step.Call 5 1 (Request.Roll 6) Answer.None
    ∷ Step.Call 5 1 (Request.Get 6 33) Answer.None
    ∷ Step.Call 5 1 (Request.Log 256 6 33 (replicate 4 17)) Answer.None
    ∷ Step.Call 5 1 (Request.Roll 6) Answer.None
    ∷ Step.Call 5 1 Request.Force Answer.None
    ∷ Step.Call 5 1 (Request.Get 6 10) Answer.None
    ∷ Step.Call 5 1 (Request.Cancel 5) Answer.None
    ∷ Step.Call 5 1 (Request.Release 19) Answer.None
    ∷ Step.Call 5 1 Request.Force Answer.None
    ∷ Step.Call 5 1 Request.Force Answer.None
    ∷ Step.Call 5 1 (Request.Log 1920 6 10 (replicate 300 34)) Answer.None
    ∷ Step.Call 5 1 Request.Unmount Answer.None
    ∷ Step.Call 5 1 Request.Force Answer.None
    ∷ Step.Call 5 1 Request.Force Answer.None
    ∷ Step.Call 5 1 Request.Unmount Answer.None
    ∷ Step.Call 5 1 Request.Force Answer.None
    ∷ Step.Call 5 1 Request.Unmount Answer.None
    ∷ Step.Call 5 1 Request.Unmount Answer.None
    ∷ Step.Call 5 1 Request.Force Answer.None
    ∷ Step.Call 5 1 (Request.Roll 6) Answer.None
    ∷ []

abbrev list10_said : List Said
list10_said =
    told 5 (Reply.Life 1)
    ∷ told 5 (Reply.Trans 1)
    ∷ told 5 Reply.Okay
    ∷ told 5 Reply.Okay
    ∷ told 5 (Reply.Committed 1)
    ∷ told 5 (Reply.Wait 1)
    ∷ told 5 Reply.Okay
    ∷ told 5 Reply.Okay
    ∷ told 5 Reply.Okay
    ∷ told 5 (Reply.Trans 2)
    ∷ told 5 (Reply.Refused Errno.Busy)
    ∷ told 5 (Reply.Refused Errno.Invalid)
    ∷ told 5 Reply.Okay
    ∷ told 5 (Reply.Trans 3)
    ∷ told 5 Reply.Okay
    ∷ told 5 (Reply.Data (replicate 3455 102 ++ (17 ∷ 17 ∷ []) ++ replicate 639 102))
    ∷ told 5 (Reply.Refused Errno.Invalid)
    ∷ told 5 Reply.Okay
    ∷ told 5 Reply.Okay
    ∷ told 5 Reply.Okay
    ∷ told 5 (Reply.Refused Errno.Invalid)
    ∷ told 5 Reply.Okay
    ∷ told 5 (Reply.Refused Errno.Invalid)
    ∷ told 5 (Reply.Refused Errno.Busy)
    ∷ told 5 (Reply.Refused Errno.Invalid)
    ∷ told 5 Reply.Okay
    ∷ told 5 Reply.Okay
    ∷ told 5 Reply.Okay
    ∷ told 5 Reply.Okay
    ∷ told 5 Reply.Okay
    ∷ told 5 Reply.Okay
    ∷ told 5 Reply.Okay
    ∷ told 5 Reply.Okay
    ∷ told 5 (Reply.Trans 4)
    ∷ told 5 Reply.Okay
    ∷ told 5 Reply.Okay
    ∷ told 5 Reply.Okay
    ∷ told 5 Reply.Okay
    ∷ told 5 Reply.Nothing
    ∷ told 5 Reply.Okay
    ∷ told 5 Reply.Okay
    ∷ told 5 Reply.Okay
    ∷ told 5 (Reply.Refused Errno.Invalid)
    ∷ told 5 Reply.Okay
    ∷ told 5 Reply.Okay
    ∷ told 5 Reply.Okay
    ∷ told 5 Reply.Okay
    ∷ told 5 (Reply.Committed 1)
    ∷ told 5 (Reply.Committed 1)
    ∷ told 5 Reply.Okay
    ∷ told 5 (Reply.Wait 1)
    ∷ told 5 Reply.Okay
    ∷ told 5 Reply.Okay
    ∷ told 5 (Reply.Committed 1)
    ∷ told 5 (Reply.Refused Errno.Invalid)
    ∷ told 5 (Reply.Refused Errno.Invalid)
    ∷ told 5 (Reply.Refused Errno.Invalid)
    ∷ told 5 (Reply.Refused Errno.Invalid)
    ∷ told 5 (Reply.Refused Errno.Invalid)
    ∷ told 5 (Reply.Refused Errno.Invalid)
    ∷ told 5 (Reply.Refused Errno.Invalid)
    ∷ told 5 (Reply.Trans 5)
    ∷ told 5 Reply.Okay
    ∷ told 5 (Reply.Trans 6)
    ∷ told 5 Reply.Okay
    ∷ told 5 (Reply.Refused Errno.NoSpace)
    ∷ told 5 (Reply.Committed 0)
    ∷ told 5 Reply.Okay
    ∷ told 5 Reply.Free
    ∷ told 5 (Reply.Refused Errno.NoSpace)
    ∷ told 5 Reply.Okay
    ∷ told 5 (Reply.CommittedHeld 0 (19 ∷ []))
    ∷ told 5 Reply.Okay
    ∷ told 5 Reply.Okay
    ∷ told 5 (Reply.Committed 1)
    ∷ told 5 Reply.Okay
    ∷ told 5 Reply.Okay
    ∷ told 5 (Reply.Refused Errno.NoSpace)
    ∷ told 5 (Reply.Committed 0)
    ∷ told 5 (Reply.Refused Errno.Invalid)
    ∷ told 5 (Reply.Refused Errno.Invalid)
    ∷ told 5 (Reply.Refused Errno.Invalid)
    ∷ told 5 (Reply.Refused Errno.Invalid)
    ∷ told 5 (Reply.Refused Errno.Invalid)
    ∷ told 5 (Reply.Wait 1)
    ∷ told 5 (Reply.Refused Errno.Invalid)
    ∷ told 5 Reply.Okay
    ∷ told 5 Reply.Okay
    ∷ told 5 (Reply.Wait 1)
    ∷ told 5 (Reply.Wait 1)
    ∷ told 5 (Reply.Refused Errno.Invalid)
    ∷ told 5 (Reply.Refused Errno.Busy)
    ∷ told 5 (Reply.Wait 1)
    ∷ told 5 (Reply.Wait 1)
    ∷ told 5 (Reply.Refused Errno.Busy)
    ∷ told 5 (Reply.Wait 1)
    ∷ told 5 (Reply.Refused Errno.Busy)
    ∷ told 5 (Reply.Refused Errno.Busy)
    ∷ told 5 (Reply.Wait 1)
    ∷ told 5 (Reply.Refused Errno.Invalid)
    ∷ []

list10 : alone_run list10_steps ≡ list10_said
unfolding chunks_where
list10 = refl

list10_order : in_order [] empty list10_steps ≡ true
unfolding chunks_where
list10_order = refl

-- ---- list11
abbrev list11_steps : List Step
list11_steps =
    Step.Peek 8
    ∷ Step.Mount 8 65536 1024 None
    ∷ Step.Call 8 1 (Request.Alloc 600 1 false) Answer.None
    ∷ Step.Call 8 1 (Request.Read 1 140) (Answer.Content ((34 ∷ 34 ∷ 34 ∷ 17 ∷ 17 ∷ []) ++ replicate 4091 1))
    ∷ Step.Call 8 1 (Request.Log 0 1 140 ((90 ∷ []))) Answer.None
    ∷ Step.Call 8 1 (Request.Commit 1) Answer.None
    ∷ Step.Call 8 1 Request.Force Answer.None
    ∷ Step.Call 8 1 Request.Push Answer.None
    ∷ Step.Post (name 8 1 JobKind.Flush 1)
    ∷ Step.Call 8 1 (Request.Alloc 32 1 false) Answer.None
    ∷ Step.Post (name 8 1 JobKind.Ckpt 2)
    ∷ Step.Call 8 1 (Request.Log 767 2 144 ((63 ∷ []))) Answer.None
    ∷ Step.Call 8 1 (Request.Alloc 1000 1 false) Answer.None
    ∷ Step.Call 8 1 (Request.Alloc 559 1 false) Answer.None
    ∷ Step.Call 8 1 (Request.Read 4 144) (Answer.Content (replicate 4096 51))
    ∷ Step.Call 8 1 (Request.Log 2110 4 144 (replicate 5 255 ++ replicate 4 17 ++ replicate 291 0)) Answer.None
    ∷ Step.Call 8 1 (Request.Hold 4 144) Answer.None
    ∷ Step.Call 8 1 (Request.Alloc 2192 1 false) Answer.None
    ∷ Step.Call 8 1 (Request.Read 5 270) (Answer.Content ((0 ∷ 0 ∷ 0 ∷ []) ++ replicate 297 17 ++ replicate 3796 1))
    ∷ Step.Call 8 1 (Request.Log 17 5 270 ((49 ∷ 159 ∷ 191 ∷ []))) Answer.None
    ∷ Step.Call 8 1 (Request.Read 5 182) (Answer.Content ((17 ∷ []) ++ replicate 4095 238))
    ∷ Step.Call 8 1 (Request.Log 9 5 182 ((17 ∷ 17 ∷ 17 ∷ []))) Answer.None
    ∷ Step.Call 8 1 (Request.Read 5 165) (Answer.Content (replicate 4096 85))
    ∷ Step.Call 8 1 (Request.Log 28 5 165 ((122 ∷ 220 ∷ 96 ∷ []))) Answer.None
    ∷ Step.Call 8 1 (Request.Read 5 77) (Answer.Content ((214 ∷ []) ++ replicate 4095 0))
    ∷ Step.Call 8 1 (Request.Log 14 5 77 ((170 ∷ 170 ∷ 170 ∷ []))) Answer.None
    ∷ Step.Call 8 1 (Request.Read 5 120) (Answer.Content (replicate 5 0 ++ replicate 125 170 ++ replicate 3966 1))
    ∷ Step.Call 8 1 (Request.Log 74 5 120 ((82 ∷ 175 ∷ 161 ∷ []))) Answer.None
    ∷ Step.Take 5 (name 8 1 JobKind.Flush 1)
    ∷ Step.Take 1 (name 8 1 JobKind.Ckpt 2)
    ∷ Step.Call 8 1 (Request.Read 5 356) (Answer.Content (replicate 4096 119))
    ∷ Step.Call 8 1 (Request.Inval 4 144) Answer.None
    ∷ Step.Call 8 1 (Request.Log 7 5 356 ((0 ∷ 0 ∷ 0 ∷ []))) Answer.None
    ∷ Step.Call 8 1 (Request.Read 5 49) (Answer.Content (replicate 4096 85))
    ∷ Step.Call 8 1 (Request.Commit 2) Answer.None
    ∷ Step.Call 8 1 (Request.Log 94 5 49 ((255 ∷ 255 ∷ 0 ∷ []))) Answer.None
    ∷ Step.Flush 5 (name 8 1 JobKind.Flush 1) (record { count = 0; writes = (false ∷ false ∷ false ∷ false ∷ false ∷ false ∷ false ∷ false ∷ []); sync = false })
    ∷ Step.Begin 1 (name 8 1 JobKind.Ckpt 2)
    ∷ Step.End 1 (name 8 1 JobKind.Ckpt 2) (record { taken = 1; sync = Some true })
    ∷ Step.Call 8 1 (Request.Read 5 287) (Answer.Content ((17 ∷ []) ++ replicate 4095 238))
    ∷ Step.Call 8 1 (Request.Log 21 5 287 ((154 ∷ 48 ∷ 115 ∷ []))) Answer.None
    ∷ Step.Call 8 1 (Request.Read 5 126) (Answer.Content (replicate 4 34 ++ (170 ∷ []) ++ replicate 4091 238))
    ∷ Step.Call 8 1 (Request.Log 70 5 126 ((177 ∷ 123 ∷ 14 ∷ []))) Answer.None
    ∷ Step.Call 8 1 (Request.Read 5 157) (Answer.Content (replicate 4 255 ++ replicate 7 17 ++ replicate 8 0 ++ replicate 5 17 ++ replicate 7 170 ++ replicate 99 34 ++ replicate 3966 1))
    ∷ Step.Call 8 1 (Request.Log 31 5 157 ((0 ∷ 0 ∷ 170 ∷ []))) Answer.None
    ∷ Step.Call 8 1 (Request.Read 5 306) Answer.Failed
    ∷ Step.Show 8
    ∷ Step.Call 8 1 (Request.Log 0 5 306 ((71 ∷ 29 ∷ 71 ∷ []))) Answer.None
    ∷ Step.Call 8 1 (Request.Read 5 396) Answer.None
    ∷ Step.Call 8 1 (Request.Log 82 5 396 ((17 ∷ 17 ∷ 17 ∷ []))) Answer.None
    ∷ Step.Call 8 1 (Request.Commit 5) Answer.None
    ∷ Step.Call 8 1 Request.Force Answer.None
    ∷ Step.Call 8 1 Request.Push Answer.None
    ∷ Step.Peek 8
    ∷ Step.Call 8 1 (Request.Commit 4) Answer.None
    ∷ Step.Call 8 1 (Request.Commit 3) Answer.None
    ∷ Step.Call 8 1 (Request.Alloc 193 2 true) Answer.None
    ∷ Step.Call 8 1 (Request.Alloc 1 0 false) Answer.None
    ∷ Step.Call 8 1 (Request.Alloc 65360 1 true) Answer.None
    ∷ Step.Call 8 1 Request.Unmount Answer.None
    ∷ Step.Mount 8 66051 1 None
    ∷ Step.Call 8 2 (Request.Alloc 12367 2 true) Answer.None
    ∷ Step.Call 8 2 (Request.Alloc 4143 1 false) Answer.None
    ∷ Step.Call 8 2 (Request.Read 1 0) (Answer.Content (replicate 4096 85))
    ∷ Step.Call 8 2 Request.Force Answer.None
    ∷ Step.Call 8 2 (Request.Get 2 0) Answer.None
    ∷ Step.Call 8 2 (Request.Log 2304 2 0 ((170 ∷ 170 ∷ []) ++ replicate 125 17)) Answer.None
    ∷ Step.Call 8 2 (Request.Commit 2) Answer.None
    ∷ Step.Call 8 2 (Request.Get 1 0) Answer.None
    ∷ Step.Call 8 2 (Request.Log 2432 1 0 ((4 ∷ 4 ∷ []))) Answer.None
    ∷ Step.Call 8 2 (Request.Commit 1) Answer.None
    ∷ Step.Call 8 2 (Request.Get 2 0) Answer.None
    ∷ Step.Call 8 2 (Request.Log 2560 2 0 (replicate 4 34)) Answer.None
    ∷ Step.Call 8 2 (Request.Commit 2) Answer.None
    ∷ Step.Call 8 2 (Request.Alloc 5000 1 false) Answer.None
    ∷ Step.Call 8 2 (Request.Alloc 4144 1 true) Answer.None
    ∷ Step.Call 8 2 (Request.Read 3 0) Answer.None
    ∷ Step.Call 8 2 (Request.Read 4 0) Answer.None
    ∷ Step.Call 8 2 (Request.Relse 3 0) Answer.None
    ∷ Step.Call 8 2 (Request.Get 3 0) Answer.None
    ∷ Step.Call 8 2 (Request.Alloc 4272 1 false) Answer.None
    ∷ Step.Call 8 2 (Request.Alloc 4272 1 false) Answer.None
    ∷ Step.Call 8 2 (Request.Get 5 0) Answer.None
    ∷ Step.Call 8 2 (Request.Relse 3 0) Answer.None
    ∷ Step.Call 8 2 Request.Force Answer.None
    ∷ Step.Post (name 8 2 JobKind.Ckpt 1)
    ∷ Step.Take 1 (name 8 2 JobKind.Ckpt 1)
    ∷ Step.Begin 1 (name 8 2 JobKind.Ckpt 1)
    ∷ Step.End 1 (name 8 2 JobKind.Ckpt 1) (record { taken = 1; sync = Some true })
    ∷ Step.Call 8 2 (Request.Get 5 0) Answer.None
    ∷ Step.Call 8 2 (Request.Log 2944 5 0 ((0 ∷ 255 ∷ []))) Answer.None
    ∷ Step.Call 8 2 (Request.Release 0) Answer.None
    ∷ Step.Call 8 2 (Request.Log 1792 5 0 (replicate 129 255)) Answer.None
    ∷ Step.Call 8 2 (Request.Commit 5) Answer.None
    ∷ Step.Call 8 2 (Request.Get 3 0) Answer.None
    ∷ Step.Call 8 2 (Request.Log 2175 3 0 (replicate 4 0 ++ (34 ∷ 34 ∷ 34 ∷ []) ++ replicate 120 17)) Answer.None
    ∷ Step.Call 8 2 (Request.Commit 3) Answer.None
    ∷ Step.Call 8 2 (Request.Get 6 0) Answer.None
    ∷ Step.Call 8 2 (Request.Log 597 6 0 ((159 ∷ []))) Answer.None
    ∷ Step.Call 8 2 (Request.Commit 6) Answer.None
    ∷ []

abbrev list11_said : List Said
list11_said =
    told 8 (Reply.Seen 0 None)
    ∷ told 8 (Reply.Life 1)
    ∷ told 8 (Reply.Trans 1)
    ∷ told 8 Reply.Okay
    ∷ told 8 Reply.Okay
    ∷ told 8 (Reply.Committed 1)
    ∷ told 8 (Reply.Wait 1)
    ∷ told 8 Reply.Okay
    ∷ told 8 Reply.Okay
    ∷ told 8 (Reply.Trans 2)
    ∷ told 8 Reply.Okay
    ∷ told 8 (Reply.Refused Errno.Invalid)
    ∷ told 8 (Reply.Trans 3)
    ∷ told 8 (Reply.Trans 4)
    ∷ told 8 Reply.Okay
    ∷ told 8 Reply.Okay
    ∷ told 8 Reply.Okay
    ∷ told 8 (Reply.Trans 5)
    ∷ told 8 Reply.Okay
    ∷ told 8 Reply.Okay
    ∷ told 8 Reply.Okay
    ∷ told 8 Reply.Okay
    ∷ told 8 Reply.Okay
    ∷ told 8 Reply.Okay
    ∷ told 8 Reply.Okay
    ∷ told 8 Reply.Okay
    ∷ told 8 Reply.Okay
    ∷ told 8 Reply.Okay
    ∷ told 8 Reply.Okay
    ∷ told 8 Reply.Okay
    ∷ told 8 Reply.Okay
    ∷ told 8 Reply.Okay
    ∷ told 8 Reply.Okay
    ∷ told 8 Reply.Okay
    ∷ told 8 (Reply.Committed 0)
    ∷ told 8 Reply.Okay
    ∷ told 8 Reply.Nothing
    ∷ told 8 (Reply.Begun 1 1)
    ∷ said 8 (Reply.Landed 1) (LogOffer.Piece ((88 ∷ 67 ∷ 80 ∷ 49 ∷ []) ++ replicate 7 0 ++ (1 ∷ 0 ∷ 0 ∷ 0 ∷ 1 ∷ []) ++ replicate 7 0 ++ (140 ∷ 0 ∷ 0 ∷ 0 ∷ 1 ∷ []) ++ replicate 4 0 ++ (90 ∷ 34 ∷ 34 ∷ 17 ∷ 17 ∷ []) ++ replicate 123 1 ++ (88 ∷ 67 ∷ 69 ∷ 49 ∷ 0 ∷ 0 ∷ 0 ∷ 1 ∷ []) ++ replicate 7 0 ++ (1 ∷ [])) true ∷ LogOffer.Sync true ∷ []) []
    ∷ told 8 Reply.Okay
    ∷ told 8 Reply.Okay
    ∷ told 8 Reply.Okay
    ∷ told 8 Reply.Okay
    ∷ told 8 Reply.Okay
    ∷ told 8 Reply.Okay
    ∷ told 8 (Reply.Refused Errno.Io)
    ∷ told 8 Reply.Okay
    ∷ told 8 (Reply.Refused Errno.Invalid)
    ∷ told 8 (Reply.Refused Errno.Io)
    ∷ told 8 (Reply.Refused Errno.Invalid)
    ∷ told 8 (Reply.Refused Errno.Io)
    ∷ told 8 (Reply.Refused Errno.Io)
    ∷ told 8 (Reply.Refused Errno.Io)
    ∷ told 8 (Reply.Seen 1 (Some Reason.MetaIoError))
    ∷ told 8 (Reply.Refused Errno.Io)
    ∷ told 8 (Reply.Committed 0)
    ∷ told 8 (Reply.Refused Errno.Io)
    ∷ told 8 (Reply.Refused Errno.Invalid)
    ∷ told 8 (Reply.Refused Errno.Io)
    ∷ told 8 Reply.Okay
    ∷ told 8 (Reply.Life 2)
    ∷ told 8 (Reply.Trans 1)
    ∷ told 8 (Reply.Trans 2)
    ∷ told 8 Reply.Okay
    ∷ told 8 Reply.Done
    ∷ told 8 (Reply.Refused Errno.Again)
    ∷ told 8 (Reply.Refused Errno.Invalid)
    ∷ told 8 (Reply.Committed 0)
    ∷ told 8 Reply.Okay
    ∷ told 8 Reply.Okay
    ∷ told 8 (Reply.Committed 1)
    ∷ told 8 (Reply.Refused Errno.Invalid)
    ∷ told 8 (Reply.Refused Errno.Invalid)
    ∷ told 8 (Reply.Refused Errno.Invalid)
    ∷ told 8 (Reply.Trans 3)
    ∷ told 8 (Reply.Trans 4)
    ∷ told 8 Reply.Okay
    ∷ told 8 (Reply.Refused Errno.Again)
    ∷ told 8 Reply.Free
    ∷ told 8 Reply.Okay
    ∷ told 8 (Reply.Trans 5)
    ∷ told 8 (Reply.Trans 6)
    ∷ told 8 (Reply.Refused Errno.Again)
    ∷ told 8 Reply.Free
    ∷ told 8 (Reply.Wait 1)
    ∷ told 8 Reply.Okay
    ∷ told 8 Reply.Okay
    ∷ told 8 (Reply.Begun 1 1)
    ∷ said 8 (Reply.Landed 1) (LogOffer.Piece ((88 ∷ 67 ∷ 80 ∷ 49 ∷ []) ++ replicate 7 0 ++ (1 ∷ 0 ∷ 0 ∷ 0 ∷ 1 ∷ []) ++ replicate 9 0 ++ (8 ∷ []) ++ replicate 6 0 ++ (4 ∷ 4 ∷ []) ++ replicate 126 85 ++ (88 ∷ 67 ∷ 69 ∷ 49 ∷ 0 ∷ 0 ∷ 0 ∷ 1 ∷ []) ++ replicate 7 0 ++ (1 ∷ [])) true ∷ LogOffer.Sync true ∷ []) []
    ∷ told 8 Reply.Okay
    ∷ told 8 Reply.Okay
    ∷ told 8 (Reply.Refused Errno.Invalid)
    ∷ told 8 Reply.Okay
    ∷ told 8 (Reply.Committed 2)
    ∷ told 8 Reply.Okay
    ∷ told 8 Reply.Okay
    ∷ told 8 (Reply.Committed 2)
    ∷ told 8 Reply.Okay
    ∷ told 8 Reply.Okay
    ∷ told 8 (Reply.Committed 2)
    ∷ []

list11 : alone_run list11_steps ≡ list11_said
unfolding chunks_where
list11 = refl

list11_order : in_order [] empty list11_steps ≡ true
unfolding chunks_where
list11_order = refl

-- ---- list12
abbrev list12_steps : List Step
list12_steps =
    Step.Mount 4 65536 1048576 None
    ∷ Step.Call 4 1 (Request.Alloc 180 1 false) Answer.None
    ∷ Step.Call 4 1 (Request.Read 1 144) (Answer.Content (replicate 130 255 ++ replicate 3966 0))
    ∷ Step.Call 4 1 (Request.Read 1 123) (Answer.Content ((220 ∷ []) ++ replicate 4095 238))
    ∷ Step.Call 4 1 (Request.Log 0 1 123 (replicate 4096 90)) Answer.None
    ∷ Step.Call 4 1 (Request.Commit 1) Answer.None
    ∷ Step.Call 4 1 Request.Force Answer.None
    ∷ Step.Call 4 1 Request.Push Answer.None
    ∷ Step.Call 4 1 (Request.Alloc 175 1 false) Answer.None
    ∷ Step.Call 4 1 (Request.Alloc 180 1 false) Answer.None
    ∷ Step.Call 4 1 (Request.Read 3 144) Answer.None
    ∷ Step.Call 4 1 (Request.Log 0 3 144 (replicate 4096 90)) Answer.None
    ∷ Step.Call 4 1 (Request.Commit 3) Answer.None
    ∷ Step.Call 4 1 Request.Force Answer.None
    ∷ Step.Call 4 1 (Request.Read 2 144) Answer.None
    ∷ Step.Post (name 4 1 JobKind.Flush 1)
    ∷ Step.Call 4 1 Request.Push Answer.None
    ∷ Step.Call 4 1 (Request.Alloc 703 2 true) Answer.None
    ∷ Step.Call 4 1 (Request.Alloc 593 1 false) Answer.None
    ∷ Step.Call 4 1 Request.Force Answer.None
    ∷ Step.Call 4 1 (Request.Get 4 144) Answer.None
    ∷ Step.Call 4 1 (Request.Log 256 4 144 ((102 ∷ []))) Answer.None
    ∷ Step.Call 4 1 (Request.Inval 4 144) Answer.None
    ∷ Step.Call 4 1 (Request.Commit 4) Answer.None
    ∷ Step.Call 4 1 (Request.Get 2 144) Answer.None
    ∷ Step.Call 4 1 (Request.Log 255 2 144 (replicate 5 170 ++ replicate 123 0)) Answer.None
    ∷ Step.Call 4 1 (Request.Commit 2) Answer.None
    ∷ Step.Call 4 1 (Request.Get 6 144) Answer.None
    ∷ Step.Call 4 1 (Request.Log 1444 6 144 ((34 ∷ 34 ∷ 34 ∷ []) ++ replicate 4 17 ++ replicate 4 170 ++ (255 ∷ []) ++ replicate 4 34 ++ (0 ∷ []) ++ replicate 111 34)) Answer.None
    ∷ Step.Call 4 1 (Request.Commit 6) Answer.None
    ∷ Step.Call 4 1 (Request.Read 5 208) (Answer.Content (replicate 4096 0))
    ∷ Step.Call 4 1 (Request.Alloc 976 1 false) Answer.None
    ∷ Step.Call 4 1 (Request.Alloc 432 1 false) Answer.None
    ∷ Step.Call 4 1 (Request.Inval 5 208) Answer.None
    ∷ Step.Call 4 1 (Request.Relse 5 208) Answer.None
    ∷ Step.Call 4 1 (Request.Hold 5 208) Answer.None
    ∷ Step.Call 4 1 (Request.Alloc 559 1 true) Answer.None
    ∷ Step.Call 4 1 (Request.Log 0 5 208 (replicate 4096 51)) Answer.None
    ∷ Step.Call 4 1 (Request.Alloc 2000 1 false) Answer.None
    ∷ Step.Call 4 1 (Request.Inval 5 208) Answer.None
    ∷ Step.Call 4 1 (Request.Read 7 208) Answer.None
    ∷ Step.Call 4 1 (Request.Get 9 123) Answer.None
    ∷ Step.Call 4 1 (Request.View 5 208) Answer.None
    ∷ Step.Take 5 (name 4 1 JobKind.Flush 1)
    ∷ Step.Call 4 1 (Request.Hold 9 123) Answer.None
    ∷ Step.Call 4 1 (Request.Alloc 60976 1 false) Answer.None
    ∷ Step.Call 4 1 (Request.Cancel 10) Answer.None
    ∷ Step.Call 4 1 (Request.Get 5 144) Answer.None
    ∷ Step.Call 4 1 (Request.Commit 5) Answer.None
    ∷ Step.Call 4 1 (Request.Read 9 123) Answer.None
    ∷ Step.Call 4 1 (Request.Hold 9 123) Answer.None
    ∷ Step.Call 4 1 (Request.Commit 9) Answer.None
    ∷ Step.Call 4 1 (Request.Get 8 123) Answer.None
    ∷ Step.Call 4 1 (Request.Release 123) Answer.None
    ∷ Step.Call 4 1 (Request.Release 123) Answer.None
    ∷ Step.Call 4 1 (Request.Get 6 144) Answer.None
    ∷ Step.Call 4 1 (Request.Hold 6 144) Answer.None
    ∷ Step.Call 4 1 Request.Unmount Answer.None
    ∷ Step.Call 4 1 (Request.Log 3840 7 123 ((170 ∷ 170 ∷ 170 ∷ []) ++ replicate 10 34 ++ replicate 4 255 ++ (34 ∷ 34 ∷ 34 ∷ []) ++ replicate 5 170 ++ (17 ∷ 17 ∷ 17 ∷ []) ++ replicate 6 34 ++ (17 ∷ 17 ∷ []) ++ replicate 5 34 ++ replicate 14 0 ++ (34 ∷ 34 ∷ 34 ∷ []) ++ replicate 4 0 ++ (34 ∷ 34 ∷ 34 ∷ 145 ∷ 171 ∷ 11 ∷ 210 ∷ 154 ∷ 196 ∷ 38 ∷ 50 ∷ 241 ∷ 207 ∷ 18 ∷ 229 ∷ 37 ∷ 232 ∷ 12 ∷ 233 ∷ 109 ∷ 91 ∷ 83 ∷ 49 ∷ 197 ∷ 24 ∷ 136 ∷ 135 ∷ 88 ∷ 101 ∷ 99 ∷ 193 ∷ 229 ∷ 194 ∷ 190 ∷ 4 ∷ 95 ∷ 47 ∷ 240 ∷ 138 ∷ 162 ∷ 46 ∷ 26 ∷ 50 ∷ 35 ∷ 183 ∷ 131 ∷ 25 ∷ 9 ∷ 200 ∷ 3 ∷ 34 ∷ 255 ∷ 84 ∷ 208 ∷ 248 ∷ 196 ∷ 255 ∷ 81 ∷ 147 ∷ 214 ∷ 41 ∷ 119 ∷ 42 ∷ 208 ∷ 86 ∷ 110 ∷ []))) Answer.None
    ∷ Step.Call 4 1 (Request.ForceTo 1) Answer.None
    ∷ Step.Call 4 1 (Request.Alloc 5000 1 true) Answer.None
    ∷ Step.Call 4 1 (Request.Release 144) Answer.None
    ∷ Step.Call 4 1 (Request.Log 1765 6 144 (replicate 6 170 ++ replicate 4 0 ++ replicate 5 170 ++ replicate 5 17 ++ replicate 107 34)) Answer.None
    ∷ Step.Call 4 1 (Request.Get 8 208) Answer.None
    ∷ Step.Call 4 1 (Request.Relse 6 144) Answer.None
    ∷ Step.Call 4 1 (Request.Roll 8) Answer.None
    ∷ Step.Flush 5 (name 4 1 JobKind.Flush 1) (record { count = 0; writes = (false ∷ false ∷ false ∷ false ∷ false ∷ false ∷ false ∷ false ∷ []); sync = false })
    ∷ Step.Call 4 1 (Request.Alloc 5000 1 false) Answer.None
    ∷ Step.Call 4 1 (Request.Log 3200 6 144 (replicate 4 255 ++ (0 ∷ []) ++ replicate 7 255 ++ replicate 12 0 ++ (170 ∷ 17 ∷ 0 ∷ []) ++ replicate 4 17 ++ replicate 4 0 ++ (170 ∷ 170 ∷ []) ++ replicate 91 255)) Answer.None
    ∷ Step.Call 4 1 (Request.Log 3067 12 123 (replicate 127 17)) Answer.None
    ∷ Step.Call 4 1 (Request.Read 6 123) Answer.None
    ∷ Step.Call 4 1 (Request.Roll 6) Answer.None
    ∷ Step.Call 4 1 (Request.Relse 6 144) Answer.None
    ∷ Step.Call 4 1 (Request.ForceTo 1) Answer.None
    ∷ Step.Call 4 1 (Request.Alloc 2000 2 true) Answer.None
    ∷ Step.Call 4 1 (Request.Read 7 208) Answer.None
    ∷ Step.Call 4 1 (Request.Hold 6 144) Answer.None
    ∷ Step.Call 4 1 (Request.Commit 6) Answer.None
    ∷ Step.Post (name 4 1 JobKind.Ckpt 2)
    ∷ Step.Call 4 1 (Request.Roll 7) Answer.None
    ∷ Step.Call 4 1 (Request.Get 11 123) Answer.None
    ∷ Step.Call 4 1 (Request.Log 3455 11 123 (replicate 641 0)) Answer.None
    ∷ Step.Call 4 1 (Request.Read 7 208) Answer.None
    ∷ Step.Call 4 1 (Request.Commit 11) Answer.None
    ∷ Step.Call 4 1 (Request.Alloc 1105 1 false) Answer.None
    ∷ Step.Call 4 1 (Request.Read 7 123) Answer.None
    ∷ Step.Call 4 1 (Request.Alloc 53209 1 false) Answer.None
    ∷ Step.Call 4 1 (Request.Read 12 208) Answer.None
    ∷ Step.Call 4 1 (Request.Hold 7 123) Answer.None
    ∷ Step.Call 4 1 (Request.Read 12 208) Answer.None
    ∷ Step.Call 4 1 (Request.Hold 12 208) Answer.None
    ∷ Step.Call 4 1 (Request.Commit 12) Answer.None
    ∷ Step.Call 4 1 (Request.Get 14 208) Answer.None
    ∷ Step.Call 4 1 (Request.Join 14 208) Answer.None
    ∷ Step.Call 4 1 (Request.View 14 208) Answer.None
    ∷ Step.Call 4 1 (Request.Log 511 14 208 ((0 ∷ 0 ∷ []))) Answer.None
    ∷ Step.Post (name 4 1 JobKind.Flush 3)
    ∷ Step.Call 4 1 (Request.Commit 14) Answer.None
    ∷ Step.Take 2 (name 4 1 JobKind.Ckpt 2)
    ∷ Step.Take 0 (name 4 1 JobKind.Flush 3)
    ∷ []

abbrev list12_said : List Said
list12_said =
    told 4 (Reply.Life 1)
    ∷ told 4 (Reply.Trans 1)
    ∷ told 4 Reply.Okay
    ∷ told 4 Reply.Okay
    ∷ told 4 (Reply.Refused Errno.NoSpace)
    ∷ told 4 (Reply.Committed 0)
    ∷ told 4 Reply.Done
    ∷ told 4 Reply.Okay
    ∷ told 4 (Reply.Trans 2)
    ∷ told 4 (Reply.Trans 3)
    ∷ told 4 Reply.Okay
    ∷ told 4 (Reply.Refused Errno.NoSpace)
    ∷ told 4 (Reply.Committed 0)
    ∷ told 4 Reply.Done
    ∷ told 4 Reply.Okay
    ∷ told 4 Reply.Okay
    ∷ told 4 Reply.Okay
    ∷ told 4 (Reply.Trans 4)
    ∷ told 4 (Reply.Trans 5)
    ∷ told 4 Reply.Done
    ∷ told 4 (Reply.Refused Errno.Again)
    ∷ told 4 (Reply.Refused Errno.Invalid)
    ∷ told 4 (Reply.Refused Errno.Invalid)
    ∷ told 4 (Reply.Committed 0)
    ∷ told 4 Reply.Okay
    ∷ told 4 (Reply.Refused Errno.NoSpace)
    ∷ told 4 (Reply.Committed 0)
    ∷ told 4 (Reply.Refused Errno.Invalid)
    ∷ told 4 (Reply.Refused Errno.Invalid)
    ∷ told 4 (Reply.Refused Errno.Invalid)
    ∷ told 4 Reply.Okay
    ∷ told 4 (Reply.Trans 6)
    ∷ told 4 (Reply.Trans 7)
    ∷ told 4 Reply.Okay
    ∷ told 4 Reply.Kept
    ∷ told 4 (Reply.Refused Errno.Invalid)
    ∷ told 4 (Reply.Trans 8)
    ∷ told 4 (Reply.Refused Errno.NoSpace)
    ∷ told 4 (Reply.Trans 9)
    ∷ told 4 Reply.Okay
    ∷ told 4 (Reply.Refused Errno.Again)
    ∷ told 4 Reply.Okay
    ∷ told 4 (Reply.Data (replicate 4096 0))
    ∷ told 4 Reply.Okay
    ∷ told 4 Reply.Okay
    ∷ told 4 (Reply.Trans 10)
    ∷ told 4 Reply.Okay
    ∷ told 4 Reply.Okay
    ∷ told 4 (Reply.Committed 1)
    ∷ told 4 Reply.Okay
    ∷ told 4 Reply.Okay
    ∷ told 4 (Reply.CommittedHeld 0 (123 ∷ []))
    ∷ told 4 (Reply.Refused Errno.Again)
    ∷ told 4 Reply.Okay
    ∷ told 4 (Reply.Refused Errno.Invalid)
    ∷ told 4 Reply.Okay
    ∷ told 4 Reply.Okay
    ∷ told 4 (Reply.Refused Errno.Busy)
    ∷ told 4 (Reply.Refused Errno.Invalid)
    ∷ told 4 (Reply.Wait 1)
    ∷ told 4 (Reply.Trans 11)
    ∷ told 4 (Reply.Refused Errno.Invalid)
    ∷ told 4 Reply.Okay
    ∷ told 4 (Reply.Refused Errno.Again)
    ∷ told 4 Reply.Kept
    ∷ told 4 (Reply.Committed 0)
    ∷ told 4 Reply.Nothing
    ∷ told 4 (Reply.Trans 12)
    ∷ told 4 Reply.Okay
    ∷ told 4 (Reply.Refused Errno.Invalid)
    ∷ told 4 Reply.Okay
    ∷ told 4 (Reply.Refused Errno.Invalid)
    ∷ told 4 Reply.Kept
    ∷ told 4 (Reply.Wait 1)
    ∷ told 4 (Reply.Trans 13)
    ∷ told 4 (Reply.Refused Errno.Again)
    ∷ told 4 Reply.Okay
    ∷ told 4 (Reply.CommittedHeld 1 (144 ∷ []))
    ∷ told 4 Reply.Okay
    ∷ told 4 (Reply.Refused Errno.Invalid)
    ∷ told 4 Reply.Okay
    ∷ told 4 Reply.Okay
    ∷ told 4 (Reply.Refused Errno.Again)
    ∷ told 4 (Reply.Committed 1)
    ∷ told 4 (Reply.Trans 14)
    ∷ told 4 Reply.Okay
    ∷ told 4 (Reply.Refused Errno.Again)
    ∷ told 4 (Reply.Refused Errno.Again)
    ∷ told 4 Reply.Okay
    ∷ told 4 (Reply.Refused Errno.Again)
    ∷ told 4 (Reply.Refused Errno.Invalid)
    ∷ told 4 (Reply.Committed 0)
    ∷ told 4 (Reply.Refused Errno.Again)
    ∷ told 4 (Reply.Refused Errno.Invalid)
    ∷ told 4 (Reply.Refused Errno.Invalid)
    ∷ told 4 (Reply.Refused Errno.Invalid)
    ∷ told 4 Reply.Okay
    ∷ told 4 (Reply.Committed 0)
    ∷ told 4 Reply.Okay
    ∷ told 4 Reply.Okay
    ∷ []

list12 : alone_run list12_steps ≡ list12_said
unfolding chunks_where
list12 = refl

list12_order : in_order [] empty list12_steps ≡ true
unfolding chunks_where
list12_order = refl
