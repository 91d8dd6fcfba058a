-- Scripts computed over the definitions: what each step of the mount alone says, and that the list is orderly.
-- Made by tools/row-theorems from the files of rows/.
use Rattle.std.proofs.Common.{◌≡◌, ℕ, List, [], ◌∷◌, ◌++◌, Some, None, true, false, refl}
use Rattle.std.specs.Prelude.{replicate}
use Rattle.xt_base.specs.Alone.{Said, alone_run}
use Rattle.xt_base.specs.Chunks.{chunks_where}
use Rattle.xt_base.specs.Order.{in_order}
use Rattle.xt_base.specs.State.{empty}
use Rattle.xt_base.specs.declared.names.JobKind.{JobKind}
use Rattle.xt_base.specs.declared.names.JobName.{JobName}
use Rattle.xt_base.specs.declared.steps.Answer.TheVariants as Answer
use Rattle.xt_base.specs.declared.steps.Errno.TheVariants as Errno
use Rattle.xt_base.specs.declared.steps.HomeOffer.{HomeOffer}
use Rattle.xt_base.specs.declared.steps.LogOffer.{LogOffer}
use Rattle.xt_base.specs.declared.steps.Reason.TheVariants as Reason
use Rattle.xt_base.specs.declared.steps.Reply.{Reply}
use Rattle.xt_base.specs.declared.steps.Request.TheVariants as Request
use Rattle.xt_base.specs.declared.steps.Step.{Step}

-- the name of a job
abbrev name : ℕ → ℕ → JobKind → ℕ → JobName
name slot life kind serial = record { slot = slot; life = life; kind = kind; serial = serial }

-- a reply with offers, and one without
abbrev said : ℕ → Reply → List LogOffer → List HomeOffer → Said
said slot reply log home = record { slot = slot; reply = reply; log = log; home = home }

abbrev told : ℕ → Reply → Said
told slot reply = said slot reply [] []

-- ---- list07
abbrev list07_steps : List Step
list07_steps =
    Step.Mount 15 65536 1099511627776 None
    ∷ Step.Call 15 1 (Request.Alloc 2000 1 false) Answer.None
    ∷ Step.Call 15 1 (Request.Get 1 8589934592) Answer.None
    ∷ Step.Call 15 1 (Request.Alloc 12368 2 true) Answer.None
    ∷ Step.Call 15 1 (Request.Log 128 1 8589934592 ((17 ∷ []) ++ replicate 4 255 ++ replicate 122 170)) Answer.None
    ∷ Step.Call 15 1 (Request.Get 1 188) Answer.None
    ∷ Step.Call 15 1 (Request.Hold 1 188) Answer.None
    ∷ Step.Call 15 1 (Request.Cancel 1) Answer.None
    ∷ Step.Call 15 1 (Request.Get 2 188) Answer.None
    ∷ Step.Call 15 1 (Request.Release 188) Answer.None
    ∷ Step.Call 15 1 (Request.Commit 2) Answer.None
    ∷ Step.Call 15 1 (Request.Release 188) Answer.None
    ∷ Step.Call 15 1 (Request.Alloc 9000 1 true) Answer.None
    ∷ Step.Call 15 1 (Request.Alloc 9000 1 false) Answer.None
    ∷ Step.Call 15 1 (Request.Release 177) Answer.None
    ∷ Step.Call 15 1 (Request.View 3 202) Answer.None
    ∷ Step.Call 15 1 (Request.Alloc 9000 1 false) Answer.None
    ∷ Step.Call 15 1 (Request.Roll 3) Answer.None
    ∷ Step.Call 15 1 (Request.Read 4 188) (Answer.Content ((142 ∷ 100 ∷ 233 ∷ 76 ∷ 13 ∷ []) ++ replicate 4091 1))
    ∷ Step.Call 15 1 (Request.Log 0 4 188 ((255 ∷ 255 ∷ []))) Answer.None
    ∷ Step.Call 15 1 Request.Shutdown Answer.None
    ∷ Step.Show 15
    ∷ Step.Call 15 1 (Request.Alloc 5000 1 false) Answer.None
    ∷ Step.Call 15 1 (Request.View 4 188) Answer.None
    ∷ Step.Call 15 1 (Request.Read 3 1099511627776) Answer.None
    ∷ Step.Call 15 1 (Request.Read 18446744073709551615 188) Answer.None
    ∷ Step.Call 15 1 (Request.View 4 188) Answer.None
    ∷ Step.Peek 15
    ∷ Step.Call 15 1 Request.Shutdown Answer.None
    ∷ Step.Call 15 1 (Request.Alloc 8256 8 true) Answer.None
    ∷ Step.Call 15 1 (Request.Commit 4) Answer.None
    ∷ Step.Show 15
    ∷ Step.Peek 15
    ∷ Step.Call 15 1 (Request.Cancel 5) Answer.None
    ∷ Step.Call 15 1 (Request.Alloc 8256 2 true) Answer.None
    ∷ Step.Call 15 1 (Request.Commit 3) Answer.None
    ∷ Step.Call 15 1 (Request.Alloc 5000 1 false) Answer.None
    ∷ Step.Call 15 1 (Request.Alloc 5000 1 false) Answer.None
    ∷ Step.Call 15 1 Request.Unmount Answer.None
    ∷ Step.Mount 15 98304 1024 None
    ∷ Step.Call 15 2 (Request.Alloc 2000 8 true) Answer.None
    ∷ Step.Call 15 2 (Request.Read 1 58) (Answer.Content (replicate 4096 51))
    ∷ Step.Call 15 2 (Request.Hold 1 58) Answer.None
    ∷ Step.Call 15 2 (Request.Alloc 2000 1 true) Answer.None
    ∷ Step.Call 15 2 (Request.Alloc 1104 1 true) Answer.None
    ∷ Step.Call 15 2 (Request.Hold 1 58) Answer.None
    ∷ Step.Call 15 2 (Request.Inval 1 58) Answer.None
    ∷ Step.Call 15 2 (Request.Alloc 1 1 false) Answer.None
    ∷ Step.Call 15 2 (Request.Read 4 64) (Answer.Content (replicate 4096 0))
    ∷ Step.Call 15 2 (Request.Read 4 65) (Answer.Content (replicate 4096 85))
    ∷ Step.Call 15 2 (Request.Read 4 13) (Answer.Content (replicate 4096 51))
    ∷ Step.Call 15 2 (Request.Read 4 20) (Answer.Content ((0 ∷ 0 ∷ []) ++ replicate 4094 1))
    ∷ Step.Call 15 2 (Request.Read 4 31) (Answer.Content ((34 ∷ []) ++ replicate 299 0 ++ replicate 3796 238))
    ∷ Step.Call 15 2 (Request.Cancel 4) Answer.None
    ∷ Step.Call 15 2 (Request.Alloc 1 1 false) Answer.None
    ∷ Step.Call 15 2 (Request.Read 5 26) (Answer.Content (replicate 4096 102))
    ∷ Step.Call 15 2 (Request.Read 5 69) Answer.Failed
    ∷ Step.Call 15 2 (Request.Read 5 59) (Answer.Content ((255 ∷ 255 ∷ 255 ∷ []) ++ replicate 4 34 ++ replicate 4089 0))
    ∷ Step.Call 15 2 (Request.Read 5 44) (Answer.Content (replicate 4096 0))
    ∷ Step.Call 15 2 (Request.Read 5 6) (Answer.Content ((170 ∷ []) ++ replicate 4095 1))
    ∷ Step.Call 15 2 (Request.Commit 5) Answer.None
    ∷ Step.Call 15 2 (Request.Alloc 1 1 false) Answer.None
    ∷ Step.Call 15 2 (Request.Read 6 43) (Answer.Content ((125 ∷ 182 ∷ 82 ∷ 51 ∷ 189 ∷ []) ++ replicate 4091 0))
    ∷ Step.Call 15 2 (Request.Read 6 49) (Answer.Content (replicate 4096 68))
    ∷ Step.Call 15 2 (Request.Read 6 12) (Answer.Content ((0 ∷ 0 ∷ 0 ∷ 170 ∷ 170 ∷ []) ++ replicate 4091 1))
    ∷ Step.Call 15 2 (Request.Read 6 9) (Answer.Content (replicate 300 0 ++ replicate 3796 1))
    ∷ Step.Call 15 2 (Request.Read 6 39) (Answer.Content (replicate 4096 85))
    ∷ Step.Call 15 2 (Request.Cancel 6) Answer.None
    ∷ Step.Call 15 2 (Request.Alloc 1 1 false) Answer.None
    ∷ Step.Call 15 2 (Request.Read 7 61) (Answer.Content ((34 ∷ 34 ∷ []) ++ replicate 4094 0))
    ∷ Step.Call 15 2 (Request.Read 7 18) (Answer.Content (replicate 5 0 ++ replicate 4091 1))
    ∷ Step.Call 15 2 (Request.Read 7 17) (Answer.Content ((251 ∷ 147 ∷ 47 ∷ 243 ∷ 23 ∷ []) ++ replicate 4091 0))
    ∷ Step.Call 15 2 (Request.Read 7 68) (Answer.Content (replicate 4096 85))
    ∷ Step.Call 15 2 (Request.Read 7 58) Answer.None
    ∷ Step.Call 15 2 (Request.Relse 1 58) Answer.None
    ∷ Step.Call 15 2 (Request.Read 7 37) (Answer.Content (replicate 130 34 ++ replicate 3966 0))
    ∷ Step.Call 15 2 (Request.Log 1024 1 58 ((173 ∷ []))) Answer.None
    ∷ Step.Call 15 2 (Request.Read 7 51) (Answer.Content (replicate 4096 85))
    ∷ Step.Call 15 2 (Request.Read 7 47) (Answer.Content (replicate 4096 102))
    ∷ Step.Call 15 2 (Request.Read 7 10) (Answer.Content ((255 ∷ []) ++ replicate 4095 238))
    ∷ Step.Call 15 2 (Request.Read 7 23) (Answer.Content (replicate 4096 0))
    ∷ Step.Call 15 2 (Request.Read 7 53) (Answer.Content (replicate 4096 85))
    ∷ Step.Call 15 2 (Request.Read 7 19) (Answer.Content (replicate 4096 119))
    ∷ Step.Call 15 2 (Request.Read 7 70) (Answer.Content (replicate 4096 0))
    ∷ Step.Call 15 2 (Request.Read 7 52) (Answer.Content ((170 ∷ 170 ∷ 170 ∷ []) ++ replicate 4 0 ++ replicate 293 255 ++ replicate 3796 1))
    ∷ Step.Call 15 2 (Request.Cancel 7) Answer.None
    ∷ Step.Call 15 2 (Request.Alloc 1 1 false) Answer.None
    ∷ Step.Call 15 2 (Request.Read 8 4) (Answer.Content (replicate 4096 0))
    ∷ Step.Call 15 2 (Request.Read 8 27) (Answer.Content ((244 ∷ []) ++ replicate 4095 1))
    ∷ Step.Call 15 2 (Request.Read 8 32) (Answer.Content (replicate 4096 0))
    ∷ Step.Call 15 2 (Request.Read 8 45) (Answer.Content ((159 ∷ 129 ∷ []) ++ replicate 4094 238))
    ∷ Step.Call 15 2 (Request.Read 8 22) (Answer.Content (replicate 4096 0))
    ∷ Step.Call 15 2 (Request.Read 8 50) (Answer.Content ((76 ∷ 135 ∷ 105 ∷ 198 ∷ 3 ∷ []) ++ replicate 4091 238))
    ∷ Step.Call 15 2 (Request.Read 8 66) (Answer.Content (replicate 4096 85))
    ∷ Step.Call 15 2 (Request.Read 8 63) (Answer.Content (replicate 7 170 ++ replicate 293 34 ++ replicate 3796 1))
    ∷ Step.Call 15 2 (Request.Read 8 15) (Answer.Content (replicate 4096 0))
    ∷ Step.Call 15 2 (Request.Commit 8) Answer.None
    ∷ Step.Call 15 2 (Request.Alloc 1 1 false) Answer.None
    ∷ Step.Call 15 2 (Request.Read 9 62) (Answer.Content (replicate 4096 119))
    ∷ Step.Call 15 2 (Request.Read 9 5) (Answer.Content (replicate 4096 0))
    ∷ []

abbrev list07_said : List Said
list07_said =
    told 15 (Reply.Life 1)
    ∷ told 15 (Reply.Trans 1)
    ∷ told 15 Reply.Okay
    ∷ told 15 (Reply.Trans 2)
    ∷ told 15 (Reply.Refused Errno.Invalid)
    ∷ told 15 Reply.Okay
    ∷ told 15 Reply.Okay
    ∷ told 15 (Reply.OkayHeld (188 ∷ []))
    ∷ told 15 (Reply.Refused Errno.Again)
    ∷ told 15 Reply.Okay
    ∷ told 15 (Reply.Committed 0)
    ∷ told 15 (Reply.Refused Errno.Invalid)
    ∷ told 15 (Reply.Trans 3)
    ∷ told 15 (Reply.Trans 4)
    ∷ told 15 (Reply.Refused Errno.Invalid)
    ∷ told 15 (Reply.Refused Errno.Invalid)
    ∷ told 15 (Reply.Trans 5)
    ∷ told 15 (Reply.Committed 0)
    ∷ told 15 Reply.Okay
    ∷ told 15 Reply.Okay
    ∷ told 15 Reply.Okay
    ∷ told 15 Reply.Okay
    ∷ told 15 (Reply.Refused Errno.Io)
    ∷ told 15 (Reply.Data ((255 ∷ 255 ∷ 233 ∷ 76 ∷ 13 ∷ []) ++ replicate 4091 1))
    ∷ told 15 (Reply.Refused Errno.Invalid)
    ∷ told 15 (Reply.Refused Errno.Invalid)
    ∷ told 15 (Reply.Data ((255 ∷ 255 ∷ 233 ∷ 76 ∷ 13 ∷ []) ++ replicate 4091 1))
    ∷ told 15 (Reply.Seen 1 (Some Reason.ForceUmount))
    ∷ told 15 Reply.Okay
    ∷ told 15 (Reply.Refused Errno.Invalid)
    ∷ told 15 (Reply.Refused Errno.Io)
    ∷ told 15 Reply.Okay
    ∷ told 15 (Reply.Seen 1 (Some Reason.ForceUmount))
    ∷ told 15 Reply.Okay
    ∷ told 15 (Reply.Refused Errno.Io)
    ∷ told 15 (Reply.Committed 0)
    ∷ told 15 (Reply.Refused Errno.Io)
    ∷ told 15 (Reply.Refused Errno.Io)
    ∷ told 15 Reply.Okay
    ∷ told 15 (Reply.Life 2)
    ∷ told 15 (Reply.Trans 1)
    ∷ told 15 Reply.Okay
    ∷ told 15 Reply.Okay
    ∷ told 15 (Reply.Trans 2)
    ∷ told 15 (Reply.Trans 3)
    ∷ told 15 Reply.Okay
    ∷ told 15 Reply.Okay
    ∷ told 15 (Reply.Trans 4)
    ∷ told 15 Reply.Okay
    ∷ told 15 Reply.Okay
    ∷ told 15 Reply.Okay
    ∷ told 15 Reply.Okay
    ∷ told 15 Reply.Okay
    ∷ told 15 Reply.Okay
    ∷ told 15 (Reply.Trans 5)
    ∷ told 15 Reply.Okay
    ∷ told 15 (Reply.Refused Errno.Io)
    ∷ told 15 Reply.Okay
    ∷ told 15 Reply.Okay
    ∷ told 15 Reply.Okay
    ∷ told 15 (Reply.Committed 0)
    ∷ told 15 (Reply.Trans 6)
    ∷ told 15 Reply.Okay
    ∷ told 15 Reply.Okay
    ∷ told 15 Reply.Okay
    ∷ told 15 Reply.Okay
    ∷ told 15 Reply.Okay
    ∷ told 15 Reply.Okay
    ∷ told 15 (Reply.Trans 7)
    ∷ told 15 Reply.Okay
    ∷ told 15 Reply.Okay
    ∷ told 15 Reply.Okay
    ∷ told 15 Reply.Okay
    ∷ told 15 (Reply.Refused Errno.Again)
    ∷ told 15 Reply.Kept
    ∷ told 15 Reply.Okay
    ∷ told 15 (Reply.Refused Errno.Invalid)
    ∷ told 15 Reply.Okay
    ∷ told 15 Reply.Okay
    ∷ told 15 Reply.Okay
    ∷ told 15 Reply.Okay
    ∷ told 15 Reply.Okay
    ∷ told 15 Reply.Okay
    ∷ told 15 Reply.Okay
    ∷ told 15 Reply.Okay
    ∷ told 15 Reply.Okay
    ∷ told 15 (Reply.Trans 8)
    ∷ told 15 Reply.Okay
    ∷ told 15 Reply.Okay
    ∷ told 15 Reply.Okay
    ∷ told 15 Reply.Okay
    ∷ told 15 Reply.Okay
    ∷ told 15 Reply.Okay
    ∷ told 15 Reply.Okay
    ∷ told 15 Reply.Okay
    ∷ told 15 Reply.Okay
    ∷ told 15 (Reply.Committed 0)
    ∷ told 15 (Reply.Trans 9)
    ∷ told 15 Reply.Okay
    ∷ told 15 Reply.Okay
    ∷ []

list07 : alone_run list07_steps ≡ list07_said
unfolding chunks_where
list07 = refl

list07_order : in_order [] empty list07_steps ≡ true
unfolding chunks_where
list07_order = refl

-- ---- list08
abbrev list08_steps : List Step
list08_steps =
    Step.Mount 0 65536 1099511627776 None
    ∷ Step.Call 0 1 (Request.Alloc 2000 1 true) Answer.None
    ∷ Step.Call 0 1 (Request.Read 1 8589934592) (Answer.Content (replicate 4096 0))
    ∷ Step.Call 0 1 (Request.Alloc 576 3 true) Answer.None
    ∷ Step.Call 0 1 (Request.Read 1 51) (Answer.Content (replicate 4096 102))
    ∷ Step.Call 0 1 (Request.Read 1 51) Answer.None
    ∷ Step.Call 0 1 (Request.Roll 2) Answer.None
    ∷ Step.Call 0 1 (Request.Alloc 5000 1 false) Answer.None
    ∷ Step.Call 0 1 (Request.Inval 1 51) Answer.None
    ∷ Step.Call 0 1 (Request.Relse 1 51) Answer.None
    ∷ Step.Call 0 1 (Request.Log 0 1 51 (replicate 4096 1)) Answer.None
    ∷ Step.Call 0 1 (Request.Read 1 1099511627775) (Answer.Content ((140 ∷ 3 ∷ []) ++ replicate 4094 238))
    ∷ Step.Call 0 1 (Request.Commit 1) Answer.None
    ∷ Step.Call 0 1 Request.Force Answer.None
    ∷ Step.Post (name 0 1 JobKind.Ckpt 1)
    ∷ Step.Call 0 1 (Request.Roll 2) Answer.None
    ∷ Step.Call 0 1 (Request.Commit 3) Answer.None
    ∷ Step.Call 0 1 (Request.Read 2 8589934592) Answer.None
    ∷ Step.Call 0 1 (Request.Log 1726 2 8589934592 (replicate 127 255)) Answer.None
    ∷ Step.Call 0 1 (Request.Inval 2 8589934592) Answer.None
    ∷ Step.Call 0 1 (Request.View 2 8589934592) Answer.None
    ∷ Step.Call 0 1 (Request.Unhold 2 8589934592) Answer.None
    ∷ Step.Call 0 1 (Request.Inval 2 8589934592) Answer.None
    ∷ Step.Call 0 1 (Request.Roll 2) Answer.None
    ∷ Step.Take 6 (name 0 1 JobKind.Ckpt 1)
    ∷ Step.Call 0 1 (Request.Get 2 8589934592) Answer.None
    ∷ Step.Begin 6 (name 0 1 JobKind.Ckpt 1)
    ∷ Step.End 6 (name 0 1 JobKind.Ckpt 1) (record { taken = 0; sync = None })
    ∷ Step.Show 0
    ∷ Step.Call 0 1 (Request.Alloc 5000 8 true) Answer.None
    ∷ Step.Call 0 0 (Request.Get 1 1) Answer.None
    ∷ Step.Call 0 1 (Request.Alloc 2192 1 false) Answer.None
    ∷ Step.Peek 0
    ∷ Step.Call 0 1 (Request.Read 3 153) Answer.None
    ∷ Step.Call 0 1 (Request.Log 16 3 153 ((182 ∷ 47 ∷ 129 ∷ []))) Answer.None
    ∷ Step.Call 0 1 (Request.Read 3 336) Answer.None
    ∷ Step.Call 0 1 (Request.Cancel 2) Answer.None
    ∷ Step.Call 0 1 (Request.Log 77 3 336 ((170 ∷ 170 ∷ 170 ∷ []))) Answer.None
    ∷ Step.Call 0 1 (Request.Alloc 21845 1 false) Answer.None
    ∷ Step.Call 0 1 Request.Unmount Answer.None
    ∷ Step.Mount 0 66000 1099511627776 None
    ∷ Step.Call 0 2 (Request.Alloc 1000 3 true) Answer.None
    ∷ Step.Call 0 2 (Request.Commit 1) Answer.None
    ∷ Step.Call 0 2 (Request.Alloc 304 1 true) Answer.None
    ∷ Step.Call 0 2 (Request.Read 2 1099511627775) (Answer.Content (replicate 4096 51))
    ∷ Step.Call 0 2 (Request.Alloc 65552 1 false) Answer.None
    ∷ Step.Call 0 2 (Request.Log 0 2 1099511627775 ((119 ∷ []))) Answer.None
    ∷ Step.Call 0 2 (Request.Roll 2) Answer.None
    ∷ Step.Call 0 2 (Request.View 2 1099511627775) Answer.None
    ∷ Step.Post (name 0 2 JobKind.Flush 1)
    ∷ Step.Take 0 (name 0 2 JobKind.Flush 1)
    ∷ Step.Flush 0 (name 0 2 JobKind.Flush 1) (record { count = 0; writes = (false ∷ false ∷ false ∷ false ∷ false ∷ false ∷ false ∷ false ∷ []); sync = false })
    ∷ Step.Call 0 2 (Request.Alloc 1 1 false) Answer.None
    ∷ Step.Call 0 2 (Request.Commit 2) Answer.None
    ∷ Step.Call 0 2 (Request.Read 3 8589934592) (Answer.Content (replicate 4 34 ++ replicate 4 170 ++ replicate 4 0 ++ (170 ∷ 170 ∷ 170 ∷ []) ++ replicate 285 255 ++ replicate 3796 238))
    ∷ Step.Call 0 2 (Request.Inval 3 8589934592) Answer.None
    ∷ Step.Call 0 2 (Request.Log 1407 3 8589934592 (replicate 127 0)) Answer.None
    ∷ Step.Call 0 2 (Request.Hold 3 8589934592) Answer.None
    ∷ Step.Call 0 2 (Request.Alloc 1000 1 false) Answer.None
    ∷ Step.Call 0 2 (Request.Alloc 432 3 true) Answer.None
    ∷ Step.Call 0 2 (Request.Alloc 9000 1 false) Answer.None
    ∷ Step.Call 0 2 (Request.Alloc 208 1 true) Answer.None
    ∷ Step.Post (name 0 2 JobKind.Flush 2)
    ∷ Step.Call 0 2 (Request.Log 0 3 8589934592 (replicate 4096 170)) Answer.None
    ∷ Step.Call 0 2 (Request.Log 639 3 8589934592 (replicate 128 17)) Answer.None
    ∷ Step.Call 0 2 (Request.Read 4 8589934592) Answer.None
    ∷ Step.Call 0 2 (Request.Log 1663 3 8589934592 ((0 ∷ []))) Answer.None
    ∷ Step.Call 0 2 (Request.Log 0 3 8589934592 (replicate 4096 170)) Answer.None
    ∷ Step.Call 0 2 (Request.Relse 3 8589934592) Answer.None
    ∷ Step.Call 0 2 (Request.Roll 3) Answer.None
    ∷ Step.Call 0 2 (Request.Commit 3) Answer.None
    ∷ Step.Call 0 2 (Request.Get 5 128) Answer.None
    ∷ Step.Call 0 2 (Request.Cancel 4) Answer.None
    ∷ Step.Call 0 2 (Request.Commit 5) Answer.None
    ∷ Step.Call 0 2 (Request.Alloc 1088 1 false) Answer.None
    ∷ Step.Call 0 2 (Request.Read 6 8589934592) Answer.None
    ∷ Step.Take 6 (name 0 2 JobKind.Flush 2)
    ∷ Step.Post (name 0 2 JobKind.Ckpt 3)
    ∷ Step.Call 0 2 (Request.Alloc 832 1 false) Answer.None
    ∷ Step.Call 0 2 (Request.Relse 6 8589934592) Answer.None
    ∷ Step.Take 0 (name 0 2 JobKind.Ckpt 3)
    ∷ Step.Call 0 2 (Request.Read 6 23) (Answer.Content ((17 ∷ []) ++ replicate 4095 238))
    ∷ Step.Call 0 2 (Request.Alloc 2192 1 false) Answer.None
    ∷ Step.Call 0 2 (Request.Read 8 11) (Answer.Content (replicate 4 17 ++ (0 ∷ []) ++ replicate 4091 238))
    ∷ Step.Call 0 2 Request.Push Answer.None
    ∷ Step.Call 0 2 (Request.Log 47 8 11 ((170 ∷ 170 ∷ 170 ∷ []))) Answer.None
    ∷ Step.Call 0 2 (Request.Read 8 90) (Answer.Content (replicate 4096 119))
    ∷ Step.Call 0 2 (Request.Log 83 8 90 ((62 ∷ 77 ∷ 174 ∷ []))) Answer.None
    ∷ Step.Call 0 2 (Request.Log 953 8 11 ((136 ∷ []))) Answer.None
    ∷ Step.Call 0 2 (Request.Read 8 122) (Answer.Content ((0 ∷ []) ++ replicate 4095 238))
    ∷ Step.Call 0 2 (Request.Log 52 8 122 ((36 ∷ 76 ∷ 200 ∷ []))) Answer.None
    ∷ Step.Call 0 2 (Request.Read 8 284) (Answer.Content (replicate 4096 85))
    ∷ Step.Call 0 2 (Request.Log 93 8 284 ((34 ∷ 0 ∷ 0 ∷ []))) Answer.None
    ∷ Step.Call 0 2 (Request.Read 8 126) (Answer.Content ((135 ∷ []) ++ replicate 4095 238))
    ∷ Step.Call 0 2 (Request.Inval 6 8589934592) Answer.None
    ∷ Step.Call 0 2 (Request.Log 46 8 126 ((208 ∷ 231 ∷ 5 ∷ []))) Answer.None
    ∷ Step.Call 0 2 (Request.Read 8 179) (Answer.Content (replicate 4 34 ++ (17 ∷ []) ++ replicate 4091 0))
    ∷ Step.Call 0 2 (Request.Log 35 8 179 ((246 ∷ 219 ∷ 230 ∷ []))) Answer.None
    ∷ Step.Call 0 2 (Request.Read 8 393) (Answer.Content ((255 ∷ []) ++ replicate 129 0 ++ replicate 3966 1))
    ∷ Step.Call 0 2 (Request.Log 40 8 393 ((231 ∷ 79 ∷ 193 ∷ []))) Answer.None
    ∷ []

abbrev list08_said : List Said
list08_said =
    told 0 (Reply.Life 1)
    ∷ told 0 (Reply.Trans 1)
    ∷ told 0 Reply.Okay
    ∷ told 0 (Reply.Trans 2)
    ∷ told 0 Reply.Okay
    ∷ told 0 Reply.Okay
    ∷ told 0 (Reply.Committed 0)
    ∷ told 0 (Reply.Trans 3)
    ∷ told 0 Reply.Okay
    ∷ told 0 Reply.Kept
    ∷ told 0 (Reply.Refused Errno.NoSpace)
    ∷ told 0 Reply.Okay
    ∷ told 0 (Reply.Committed 1)
    ∷ told 0 (Reply.Wait 1)
    ∷ told 0 Reply.Okay
    ∷ told 0 (Reply.Committed 0)
    ∷ told 0 (Reply.Committed 0)
    ∷ told 0 Reply.Okay
    ∷ told 0 Reply.Okay
    ∷ told 0 Reply.Okay
    ∷ told 0 (Reply.Data (replicate 4096 0))
    ∷ told 0 (Reply.Refused Errno.Invalid)
    ∷ told 0 Reply.Okay
    ∷ told 0 (Reply.Committed 1)
    ∷ told 0 Reply.Okay
    ∷ told 0 (Reply.Refused Errno.Again)
    ∷ told 0 (Reply.Begun 1 1)
    ∷ said 0 (Reply.Failed 1) (LogOffer.Piece ((88 ∷ 67 ∷ 80 ∷ 49 ∷ []) ++ replicate 7 0 ++ (1 ∷ 0 ∷ 0 ∷ 0 ∷ 2 ∷ []) ++ replicate 7 0 ++ (51 ∷ []) ++ replicate 7 0 ++ (1 ∷ 0 ∷ 0 ∷ 0 ∷ 2 ∷ []) ++ replicate 11 0 ++ (1 ∷ 88 ∷ 67 ∷ 69 ∷ 49 ∷ 0 ∷ 0 ∷ 0 ∷ 2 ∷ []) ++ replicate 7 0 ++ (1 ∷ [])) false ∷ []) []
    ∷ told 0 Reply.Okay
    ∷ told 0 (Reply.Refused Errno.Io)
    ∷ told 0 (Reply.Refused Errno.Stale)
    ∷ told 0 (Reply.Refused Errno.Io)
    ∷ told 0 (Reply.Seen 1 (Some Reason.LogIoError))
    ∷ told 0 (Reply.Refused Errno.Invalid)
    ∷ told 0 (Reply.Refused Errno.Invalid)
    ∷ told 0 (Reply.Refused Errno.Invalid)
    ∷ told 0 Reply.Okay
    ∷ told 0 (Reply.Refused Errno.Invalid)
    ∷ told 0 (Reply.Refused Errno.Io)
    ∷ told 0 Reply.Okay
    ∷ told 0 (Reply.Life 2)
    ∷ told 0 (Reply.Trans 1)
    ∷ told 0 (Reply.Committed 0)
    ∷ told 0 (Reply.Trans 2)
    ∷ told 0 Reply.Okay
    ∷ told 0 (Reply.Trans 3)
    ∷ told 0 Reply.Okay
    ∷ told 0 (Reply.Refused Errno.Again)
    ∷ told 0 (Reply.Data ((119 ∷ []) ++ replicate 4095 51))
    ∷ told 0 Reply.Okay
    ∷ told 0 Reply.Okay
    ∷ told 0 Reply.Nothing
    ∷ told 0 (Reply.Trans 4)
    ∷ told 0 (Reply.Committed 1)
    ∷ told 0 Reply.Okay
    ∷ told 0 Reply.Okay
    ∷ told 0 (Reply.Refused Errno.Invalid)
    ∷ told 0 (Reply.Refused Errno.Invalid)
    ∷ told 0 (Reply.Refused Errno.Again)
    ∷ told 0 (Reply.Refused Errno.Again)
    ∷ told 0 (Reply.Refused Errno.Again)
    ∷ told 0 (Reply.Trans 5)
    ∷ told 0 Reply.Okay
    ∷ told 0 Reply.Okay
    ∷ told 0 Reply.Okay
    ∷ told 0 (Reply.Refused Errno.Again)
    ∷ told 0 Reply.Okay
    ∷ told 0 Reply.Okay
    ∷ told 0 Reply.Kept
    ∷ told 0 (Reply.Refused Errno.Invalid)
    ∷ told 0 (Reply.Committed 1)
    ∷ told 0 Reply.Okay
    ∷ told 0 Reply.Okay
    ∷ told 0 (Reply.Committed 0)
    ∷ told 0 (Reply.Trans 6)
    ∷ told 0 Reply.Okay
    ∷ told 0 Reply.Okay
    ∷ told 0 Reply.Okay
    ∷ told 0 (Reply.Trans 7)
    ∷ told 0 Reply.Free
    ∷ told 0 Reply.Okay
    ∷ told 0 Reply.Okay
    ∷ told 0 (Reply.Trans 8)
    ∷ told 0 Reply.Okay
    ∷ told 0 Reply.Okay
    ∷ told 0 Reply.Okay
    ∷ told 0 Reply.Okay
    ∷ told 0 Reply.Okay
    ∷ told 0 Reply.Okay
    ∷ told 0 Reply.Okay
    ∷ told 0 Reply.Okay
    ∷ told 0 Reply.Okay
    ∷ told 0 Reply.Okay
    ∷ told 0 Reply.Okay
    ∷ told 0 (Reply.Refused Errno.Invalid)
    ∷ told 0 Reply.Okay
    ∷ told 0 Reply.Okay
    ∷ told 0 Reply.Okay
    ∷ told 0 Reply.Okay
    ∷ told 0 Reply.Okay
    ∷ []

list08 : alone_run list08_steps ≡ list08_said
unfolding chunks_where
list08 = refl

list08_order : in_order [] empty list08_steps ≡ true
unfolding chunks_where
list08_order = refl

-- ---- list09
abbrev list09_steps : List Step
list09_steps =
    Step.Mount 3 1048576 1024 None
    ∷ Step.Call 3 1 (Request.Alloc 432 1 true) Answer.None
    ∷ Step.Call 3 1 (Request.Read 1 159) (Answer.Content (replicate 4096 85))
    ∷ Step.Call 3 1 (Request.Log 416 1 159 ((17 ∷ 17 ∷ 0 ∷ 0 ∷ 0 ∷ []) ++ replicate 5 255 ++ replicate 4 170 ++ replicate 114 34)) Answer.None
    ∷ Step.Call 3 1 (Request.Alloc 1088 1 false) Answer.None
    ∷ Step.Call 3 1 (Request.Log 1536 1 159 ((126 ∷ []))) Answer.None
    ∷ Step.Call 3 1 (Request.Relse 1 159) Answer.None
    ∷ Step.Call 3 1 (Request.Get 1 0) Answer.None
    ∷ Step.Call 3 1 (Request.Get 1 1) Answer.None
    ∷ Step.Call 3 1 (Request.Get 1 157) Answer.None
    ∷ Step.Call 3 1 (Request.Get 1 2) Answer.None
    ∷ Step.Call 3 1 (Request.Get 1 3) Answer.None
    ∷ Step.Call 3 1 (Request.Get 1 4) Answer.None
    ∷ Step.Call 3 1 (Request.Get 1 5) Answer.None
    ∷ Step.Call 3 1 (Request.Get 1 6) Answer.None
    ∷ Step.Call 3 1 (Request.Read 1 7) (Answer.Content (replicate 4096 51))
    ∷ Step.Call 3 1 (Request.Get 1 8) Answer.None
    ∷ Step.Call 3 1 (Request.Get 1 9) Answer.None
    ∷ Step.Call 3 1 (Request.Get 1 10) Answer.None
    ∷ Step.Call 3 1 (Request.Get 1 11) Answer.None
    ∷ Step.Call 3 1 (Request.Read 1 12) (Answer.Content (replicate 4096 51))
    ∷ Step.Call 3 1 (Request.Get 1 13) Answer.None
    ∷ Step.Call 3 1 (Request.Get 1 14) Answer.None
    ∷ Step.Call 3 1 (Request.Read 1 15) (Answer.Content (replicate 4096 0))
    ∷ Step.Call 3 1 (Request.Get 1 16) Answer.None
    ∷ Step.Call 3 1 (Request.Get 1 17) Answer.None
    ∷ Step.Call 3 1 (Request.Get 1 18) Answer.None
    ∷ Step.Call 3 1 (Request.Get 1 19) Answer.None
    ∷ Step.Call 3 1 (Request.Get 1 20) Answer.None
    ∷ Step.Call 3 1 (Request.Read 1 21) (Answer.Content (replicate 4096 51))
    ∷ Step.Call 3 1 (Request.Get 1 22) Answer.None
    ∷ Step.Call 3 1 (Request.Read 1 23) (Answer.Content ((75 ∷ []) ++ replicate 4095 0))
    ∷ Step.Call 3 1 (Request.Get 1 24) Answer.None
    ∷ Step.Call 3 1 (Request.Get 1 25) Answer.None
    ∷ Step.Call 3 1 (Request.Get 1 26) Answer.None
    ∷ Step.Call 3 1 (Request.Get 1 27) Answer.None
    ∷ Step.Call 3 1 (Request.Read 1 28) (Answer.Content (replicate 4096 85))
    ∷ Step.Call 3 1 (Request.Get 1 29) Answer.None
    ∷ Step.Call 3 1 (Request.Get 1 30) Answer.None
    ∷ Step.Call 3 1 (Request.Get 1 31) Answer.None
    ∷ Step.Call 3 1 (Request.Get 1 32) Answer.None
    ∷ Step.Call 3 1 (Request.Get 1 33) Answer.None
    ∷ Step.Call 3 1 (Request.Read 1 34) Answer.Failed
    ∷ Step.Show 3
    ∷ Step.Call 3 1 (Request.Read 1 35) Answer.None
    ∷ Step.Call 3 1 (Request.Get 1 36) Answer.None
    ∷ Step.Show 3
    ∷ Step.Call 3 1 (Request.Get 1 37) Answer.None
    ∷ Step.Peek 3
    ∷ Step.Call 3 1 (Request.Read 1 38) Answer.None
    ∷ Step.Call 3 1 (Request.Read 3 157) Answer.None
    ∷ Step.Call 3 1 (Request.Get 1 39) Answer.None
    ∷ Step.Call 3 1 (Request.Read 1 40) Answer.None
    ∷ Step.Call 3 1 (Request.Read 1 41) Answer.None
    ∷ Step.Call 3 1 (Request.Get 1 42) Answer.None
    ∷ Step.Call 3 1 (Request.Get 1 43) Answer.None
    ∷ Step.Call 3 1 (Request.Read 1 44) Answer.None
    ∷ Step.Call 3 1 (Request.Get 1 45) Answer.None
    ∷ Step.Call 3 1 (Request.Commit 1) Answer.None
    ∷ Step.Call 3 1 (Request.Commit 2) Answer.None
    ∷ Step.Call 3 1 (Request.Alloc 576 1 false) Answer.None
    ∷ Step.Peek 3
    ∷ Step.Call 3 1 Request.Unmount Answer.None
    ∷ Step.Show 3
    ∷ Step.Mount 3 65536 0 None
    ∷ Step.Mount 3 65536 1099511627776 None
    ∷ Step.Call 3 2 (Request.Alloc 865 1 false) Answer.None
    ∷ Step.Call 3 2 (Request.Commit 1) Answer.None
    ∷ Step.Call 3 2 (Request.Alloc 176 1 false) Answer.None
    ∷ Step.Call 3 2 (Request.Alloc 1088 1 false) Answer.None
    ∷ Step.Call 3 2 (Request.Read 3 250) (Answer.Content (replicate 4096 68))
    ∷ Step.Call 3 2 Request.Force Answer.None
    ∷ Step.Call 3 2 Request.Force Answer.None
    ∷ Step.Call 3 2 (Request.Read 2 148) (Answer.Content (replicate 4096 119))
    ∷ Step.Call 3 2 (Request.Log 1425 2 148 ((34 ∷ 34 ∷ []))) Answer.None
    ∷ Step.Call 3 2 (Request.Get 3 120) Answer.None
    ∷ Step.Call 3 2 (Request.Alloc 2000 2 true) Answer.None
    ∷ Step.Call 3 2 (Request.Commit 3) Answer.None
    ∷ Step.Call 3 2 (Request.Alloc 2000 1 false) Answer.None
    ∷ Step.Call 3 2 (Request.Alloc 2192 1 false) Answer.None
    ∷ Step.Call 3 2 (Request.Read 6 274) (Answer.Content ((17 ∷ []) ++ replicate 4095 0))
    ∷ Step.Call 3 2 (Request.Log 90 6 274 ((113 ∷ 74 ∷ 173 ∷ []))) Answer.None
    ∷ Step.Call 3 2 (Request.Read 6 93) (Answer.Content (replicate 300 255 ++ replicate 3796 1))
    ∷ Step.Call 3 2 (Request.Log 87 6 93 ((0 ∷ 0 ∷ 0 ∷ []))) Answer.None
    ∷ Step.Call 3 2 (Request.Read 6 129) (Answer.Content (replicate 4096 102))
    ∷ Step.Call 3 2 (Request.Log 77 6 129 ((219 ∷ 87 ∷ 157 ∷ []))) Answer.None
    ∷ Step.Call 3 2 (Request.Read 6 2) (Answer.Content (replicate 4096 0))
    ∷ Step.Call 3 2 (Request.Log 39 6 2 ((7 ∷ 9 ∷ 31 ∷ []))) Answer.None
    ∷ Step.Call 3 2 (Request.Read 6 120) (Answer.Content (replicate 4096 119))
    ∷ Step.Call 3 2 (Request.Log 2048 2 148 ((0 ∷ []) ++ replicate 4 17 ++ replicate 124 0)) Answer.None
    ∷ Step.Call 3 2 (Request.Log 79 6 120 ((170 ∷ 170 ∷ 170 ∷ []))) Answer.None
    ∷ Step.Call 3 2 (Request.Read 6 259) (Answer.Content (replicate 4096 51))
    ∷ Step.Call 3 2 (Request.Log 64 6 259 ((0 ∷ 0 ∷ 0 ∷ []))) Answer.None
    ∷ Step.Call 3 2 (Request.Read 6 10) (Answer.Content (replicate 4096 85))
    ∷ Step.Call 3 2 (Request.Join 2 250) Answer.None
    ∷ Step.Call 3 2 (Request.Log 89 6 10 ((113 ∷ 182 ∷ 131 ∷ []))) Answer.None
    ∷ Step.Call 3 2 (Request.Read 6 121) (Answer.Content ((41 ∷ 150 ∷ []) ++ replicate 4094 1))
    ∷ Step.Call 3 2 (Request.Log 56 6 121 ((17 ∷ 17 ∷ 17 ∷ []))) Answer.None
    ∷ Step.Call 3 2 (Request.Hold 2 148) Answer.None
    ∷ Step.Call 3 2 (Request.Read 5 250) Answer.None
    ∷ []

abbrev list09_said : List Said
list09_said =
    told 3 (Reply.Life 1)
    ∷ told 3 (Reply.Trans 1)
    ∷ told 3 Reply.Okay
    ∷ told 3 Reply.Okay
    ∷ told 3 (Reply.Trans 2)
    ∷ told 3 Reply.Okay
    ∷ told 3 Reply.Kept
    ∷ told 3 Reply.Okay
    ∷ told 3 Reply.Okay
    ∷ told 3 Reply.Okay
    ∷ told 3 Reply.Okay
    ∷ told 3 Reply.Okay
    ∷ told 3 Reply.Okay
    ∷ told 3 Reply.Okay
    ∷ told 3 Reply.Okay
    ∷ told 3 Reply.Okay
    ∷ told 3 Reply.Okay
    ∷ told 3 Reply.Okay
    ∷ told 3 Reply.Okay
    ∷ told 3 Reply.Okay
    ∷ told 3 Reply.Okay
    ∷ told 3 Reply.Okay
    ∷ told 3 Reply.Okay
    ∷ told 3 Reply.Okay
    ∷ told 3 Reply.Okay
    ∷ told 3 Reply.Okay
    ∷ told 3 Reply.Okay
    ∷ told 3 Reply.Okay
    ∷ told 3 Reply.Okay
    ∷ told 3 Reply.Okay
    ∷ told 3 Reply.Okay
    ∷ told 3 Reply.Okay
    ∷ told 3 Reply.Okay
    ∷ told 3 Reply.Okay
    ∷ told 3 Reply.Okay
    ∷ told 3 Reply.Okay
    ∷ told 3 Reply.Okay
    ∷ told 3 Reply.Okay
    ∷ told 3 Reply.Okay
    ∷ told 3 Reply.Okay
    ∷ told 3 Reply.Okay
    ∷ told 3 Reply.Okay
    ∷ told 3 (Reply.Refused Errno.Io)
    ∷ told 3 Reply.Okay
    ∷ told 3 (Reply.Refused Errno.Io)
    ∷ told 3 (Reply.Refused Errno.Io)
    ∷ told 3 Reply.Okay
    ∷ told 3 (Reply.Refused Errno.Io)
    ∷ told 3 (Reply.Seen 1 (Some Reason.MetaIoError))
    ∷ told 3 (Reply.Refused Errno.Io)
    ∷ told 3 (Reply.Refused Errno.Invalid)
    ∷ told 3 (Reply.Refused Errno.Io)
    ∷ told 3 (Reply.Refused Errno.Io)
    ∷ told 3 (Reply.Refused Errno.Io)
    ∷ told 3 (Reply.Refused Errno.Io)
    ∷ told 3 (Reply.Refused Errno.Io)
    ∷ told 3 (Reply.Refused Errno.Io)
    ∷ told 3 (Reply.Refused Errno.Io)
    ∷ told 3 (Reply.Refused Errno.Io)
    ∷ told 3 (Reply.Committed 0)
    ∷ told 3 (Reply.Refused Errno.Io)
    ∷ told 3 (Reply.Seen 1 (Some Reason.MetaIoError))
    ∷ told 3 Reply.Okay
    ∷ told 3 Reply.Okay
    ∷ told 3 (Reply.Refused Errno.Invalid)
    ∷ told 3 (Reply.Life 2)
    ∷ told 3 (Reply.Trans 1)
    ∷ told 3 (Reply.Committed 0)
    ∷ told 3 (Reply.Trans 2)
    ∷ told 3 (Reply.Trans 3)
    ∷ told 3 Reply.Okay
    ∷ told 3 Reply.Done
    ∷ told 3 Reply.Done
    ∷ told 3 Reply.Okay
    ∷ told 3 Reply.Okay
    ∷ told 3 Reply.Okay
    ∷ told 3 (Reply.Trans 4)
    ∷ told 3 (Reply.Committed 0)
    ∷ told 3 (Reply.Trans 5)
    ∷ told 3 (Reply.Trans 6)
    ∷ told 3 Reply.Okay
    ∷ told 3 Reply.Okay
    ∷ told 3 Reply.Okay
    ∷ told 3 Reply.Okay
    ∷ told 3 Reply.Okay
    ∷ told 3 Reply.Okay
    ∷ told 3 Reply.Okay
    ∷ told 3 Reply.Okay
    ∷ told 3 Reply.Okay
    ∷ told 3 (Reply.Refused Errno.NoSpace)
    ∷ told 3 Reply.Okay
    ∷ told 3 Reply.Okay
    ∷ told 3 Reply.Okay
    ∷ told 3 Reply.Okay
    ∷ told 3 (Reply.Refused Errno.Invalid)
    ∷ told 3 Reply.Okay
    ∷ told 3 Reply.Okay
    ∷ told 3 Reply.Okay
    ∷ told 3 Reply.Okay
    ∷ told 3 Reply.Okay
    ∷ []

list09 : alone_run list09_steps ≡ list09_said
unfolding chunks_where
list09 = refl

list09_order : in_order [] empty list09_steps ≡ true
unfolding chunks_where
list09_order = refl
