-- Scripts computed over the definitions: what each step of the mount alone says, and that the list is orderly.
-- Made by tools/row-theorems from the files of rows/.
use Rattle.std.proofs.Common.{◌≡◌, ℕ, List, [], ◌∷◌, ◌++◌, Some, None, Bool, true, false, map, refl}
use Rattle.std.specs.Prelude.{replicate}
use Rattle.xt_base.specs.Alone.{Said, alone_run}
use Rattle.xt_base.specs.Chunks.{chunks_where}
use Rattle.xt_base.specs.Order.{first_disorder, in_order, orderly}
use Rattle.xt_base.specs.State.{empty}
use Rattle.xt_base.specs.declared.names.JobKind.{JobKind}
use Rattle.xt_base.specs.declared.names.JobKind.TheVariants as JobKind
use Rattle.xt_base.specs.declared.names.JobName.{JobName}
use Rattle.xt_base.specs.declared.steps.Answer.TheVariants as Answer
use Rattle.xt_base.specs.declared.steps.Errno.TheVariants as Errno
use Rattle.xt_base.specs.declared.steps.HomeOffer.{HomeOffer}
use Rattle.xt_base.specs.declared.steps.HomeOffer.TheVariants as HomeOffer
use Rattle.xt_base.specs.declared.steps.LogOffer.{LogOffer}
use Rattle.xt_base.specs.declared.steps.LogOffer.TheVariants as LogOffer
use Rattle.xt_base.specs.declared.steps.Reason.TheVariants as Reason
use Rattle.xt_base.specs.declared.steps.Reply.{Reply}
use Rattle.xt_base.specs.declared.steps.Reply.TheVariants as Reply
use Rattle.xt_base.specs.declared.steps.Request.TheVariants as Request
use Rattle.xt_base.specs.declared.steps.Step.{Step}
use Rattle.xt_base.specs.declared.steps.Step.TheVariants as Step

-- the name of a job
abbrev name : ℕ → ℕ → JobKind → ℕ → JobName
name slot life kind serial = record { slot = slot; life = life; kind = kind; serial = serial }

-- a reply with offers, and one without
abbrev said : ℕ → Reply → List LogOffer → List HomeOffer → Said
said slot reply log home = record { slot = slot; reply = reply; log = log; home = home }

abbrev told : ℕ → Reply → Said
told slot reply = said slot reply [] []

-- ---- list13
abbrev list13_steps : List Step
list13_steps =
    Step.Mount 15 69536 1048576 (Some 512)
    ∷ Step.Call 15 1 (Request.Alloc 34768 1 false) Answer.None
    ∷ Step.Call 15 1 (Request.Join 1 68) Answer.None
    ∷ Step.Call 15 1 (Request.Read 1 145) Answer.Failed
    ∷ Step.Call 15 1 (Request.Read 1 114) (Answer.Content (replicate 512 51))
    ∷ Step.Call 15 1 (Request.Alloc 308 1 true) Answer.None
    ∷ Step.Call 15 1 (Request.Read 2 265) (Answer.Content (replicate 512 68))
    ∷ Step.Call 15 1 (Request.Alloc 34316 1 false) Answer.None
    ∷ Step.Call 15 1 (Request.Log 0 2 265 ((119 ∷ []))) Answer.None
    ∷ Step.Call 15 1 (Request.Roll 2) Answer.None
    ∷ Step.Post (name 15 1 JobKind.Flush 1)
    ∷ Step.Call 15 1 (Request.View 2 265) Answer.None
    ∷ Step.Call 15 1 (Request.Alloc 1 1 false) Answer.None
    ∷ Step.Take 0 (name 15 1 JobKind.Flush 1)
    ∷ Step.Flush 0 (name 15 1 JobKind.Flush 1) (record { count = 0; writes = (false ∷ false ∷ false ∷ false ∷ false ∷ false ∷ false ∷ false ∷ []); sync = false })
    ∷ Step.Call 15 1 (Request.View 2 265) Answer.None
    ∷ Step.Call 15 1 (Request.Commit 2) Answer.None
    ∷ Step.Call 15 1 (Request.Log 466 1 114 ((231 ∷ []))) Answer.None
    ∷ Step.Call 15 1 Request.Force Answer.None
    ∷ Step.Call 15 1 (Request.Inval 1 114) Answer.None
    ∷ Step.Call 15 1 (Request.Roll 1) Answer.None
    ∷ Step.Post (name 15 1 JobKind.Ckpt 2)
    ∷ Step.Call 15 1 (Request.Log 0 1 114 (replicate 512 170)) Answer.None
    ∷ Step.Take 3 (name 15 1 JobKind.Ckpt 2)
    ∷ Step.Call 15 1 (Request.Log 138 1 114 (replicate 4 0 ++ replicate 9 17 ++ replicate 361 0)) Answer.None
    ∷ Step.Begin 3 (name 15 1 JobKind.Ckpt 2)
    ∷ Step.Call 15 1 (Request.Cancel 3) Answer.None
    ∷ Step.Call 15 1 (Request.Read 4 265) Answer.None
    ∷ Step.Call 15 1 (Request.Alloc 2000 1 false) Answer.None
    ∷ Step.Call 15 1 (Request.Log 435 1 114 ((37 ∷ 189 ∷ 88 ∷ 57 ∷ []))) Answer.None
    ∷ Step.Call 15 1 (Request.Read 1 265) Answer.None
    ∷ Step.Call 15 1 (Request.ForceTo 18446744073709551615) Answer.None
    ∷ Step.Call 15 1 (Request.Read 5 265) Answer.None
    ∷ Step.Call 15 1 (Request.Log 511 4 265 ((23 ∷ []))) Answer.None
    ∷ Step.Call 15 1 (Request.Roll 1) Answer.None
    ∷ Step.Call 15 1 (Request.View 4 265) Answer.None
    ∷ Step.Call 15 1 Request.Shutdown Answer.None
    ∷ Step.End 3 (name 15 1 JobKind.Ckpt 2) (record { taken = 1; sync = Some true })
    ∷ Step.Show 15
    ∷ Step.Peek 15
    ∷ Step.Call 15 1 (Request.Alloc 1092 1 true) Answer.None
    ∷ Step.Call 15 1 (Request.Cancel 4) Answer.None
    ∷ Step.Call 15 1 (Request.Get 1 145) Answer.None
    ∷ Step.Show 15
    ∷ Step.Call 15 1 (Request.Get 5 79) Answer.None
    ∷ Step.Call 15 1 (Request.Log 256 1 265 ((170 ∷ []))) Answer.None
    ∷ Step.Show 15
    ∷ Step.Peek 15
    ∷ Step.Call 15 1 (Request.Log 0 5 79 (replicate 512 255)) Answer.None
    ∷ Step.Call 15 1 (Request.Get 5 3) Answer.None
    ∷ Step.Call 15 1 (Request.Commit 1) Answer.None
    ∷ Step.Call 15 1 (Request.Cancel 5) Answer.None
    ∷ Step.Call 15 1 Request.Unmount Answer.None
    ∷ Step.Call 15 1 Request.Unmount Answer.None
    ∷ Step.Mount 15 65537 1048576 None
    ∷ Step.Call 15 2 (Request.Alloc 9000 2 true) Answer.None
    ∷ Step.Call 15 2 (Request.Alloc 23768 1 true) Answer.None
    ∷ Step.Call 15 2 (Request.Roll 2) Answer.None
    ∷ Step.Call 15 2 (Request.Read 2 244) (Answer.Content (replicate 5 0 ++ replicate 4091 1))
    ∷ Step.Call 15 2 (Request.Hold 2 244) Answer.None
    ∷ Step.Call 15 2 (Request.Log 2179 2 240 ((170 ∷ 170 ∷ []))) Answer.None
    ∷ Step.Call 15 2 (Request.Relse 2 244) Answer.None
    ∷ Step.Call 15 2 (Request.Read 1 83) (Answer.Content (replicate 130 34 ++ replicate 3966 238))
    ∷ Step.Call 15 2 (Request.Join 1 70) Answer.None
    ∷ Step.Call 15 2 (Request.Read 2 244) Answer.None
    ∷ Step.Call 15 2 (Request.Inval 2 244) Answer.None
    ∷ Step.Call 15 2 (Request.Get 2 244) Answer.None
    ∷ Step.Call 15 2 (Request.Hold 2 244) Answer.None
    ∷ Step.Call 15 2 (Request.Relse 2 244) Answer.None
    ∷ Step.Call 15 2 (Request.Log 0 2 244 (replicate 4096 205)) Answer.None
    ∷ Step.Call 15 2 (Request.Commit 2) Answer.None
    ∷ Step.Call 15 2 (Request.Read 1 83) Answer.None
    ∷ Step.Call 15 2 (Request.View 2 244) Answer.None
    ∷ Step.Call 15 2 (Request.Commit 2) Answer.None
    ∷ Step.Call 15 2 (Request.Get 1 244) Answer.None
    ∷ Step.Call 15 2 (Request.Alloc 14464 1 true) Answer.None
    ∷ Step.Call 15 2 (Request.Alloc 9000 1 false) Answer.None
    ∷ Step.Call 15 2 (Request.Get 1 197) Answer.None
    ∷ Step.Call 15 2 (Request.Hold 1 197) Answer.None
    ∷ Step.Call 15 2 (Request.Cancel 1) Answer.None
    ∷ Step.Call 15 2 (Request.Get 4 197) Answer.None
    ∷ Step.Call 15 2 (Request.Join 4 197) Answer.None
    ∷ Step.Call 15 2 (Request.View 4 197) Answer.None
    ∷ Step.Call 15 2 (Request.Log 0 4 197 (replicate 4096 187)) Answer.None
    ∷ Step.Call 15 2 (Request.Commit 4) Answer.None
    ∷ Step.Post (name 15 2 JobKind.Ckpt 1)
    ∷ Step.Call 15 2 (Request.Release 197) Answer.None
    ∷ Step.Take 4 (name 15 2 JobKind.Ckpt 1)
    ∷ Step.Call 15 2 (Request.Get 3 83) Answer.None
    ∷ Step.Begin 4 (name 15 2 JobKind.Ckpt 1)
    ∷ Step.End 4 (name 15 2 JobKind.Ckpt 1) (record { taken = 3; sync = Some true })
    ∷ Step.Call 15 3 (Request.Alloc 0 0 false) Answer.None
    ∷ Step.Call 15 2 (Request.Release 197) Answer.None
    ∷ Step.Call 15 2 (Request.Alloc 5000 1 false) Answer.None
    ∷ Step.Call 15 2 (Request.Alloc 608 3 true) Answer.None
    ∷ Step.Call 15 2 (Request.Alloc 5000 2 true) Answer.None
    ∷ Step.Call 15 2 (Request.Commit 3) Answer.None
    ∷ Step.Call 15 2 Request.Push Answer.None
    ∷ Step.Call 15 2 (Request.Read 7 70) (Answer.Content ((53 ∷ 203 ∷ 156 ∷ 226 ∷ 126 ∷ []) ++ replicate 4091 1))
    ∷ Step.Call 15 2 (Request.ForceTo 0) Answer.None
    ∷ []

abbrev list13_said : List Said
list13_said =
    told 15 (Reply.Life 1)
    ∷ told 15 (Reply.Trans 1)
    ∷ told 15 (Reply.Refused Errno.Invalid)
    ∷ told 15 (Reply.Refused Errno.Io)
    ∷ told 15 Reply.Okay
    ∷ told 15 (Reply.Trans 2)
    ∷ told 15 Reply.Okay
    ∷ told 15 (Reply.Trans 3)
    ∷ told 15 Reply.Okay
    ∷ told 15 (Reply.Refused Errno.Again)
    ∷ told 15 Reply.Okay
    ∷ told 15 (Reply.Data ((119 ∷ []) ++ replicate 511 68))
    ∷ told 15 (Reply.Trans 4)
    ∷ told 15 Reply.Okay
    ∷ told 15 Reply.Nothing
    ∷ told 15 (Reply.Data ((119 ∷ []) ++ replicate 511 68))
    ∷ told 15 (Reply.Committed 1)
    ∷ told 15 Reply.Okay
    ∷ told 15 (Reply.Wait 1)
    ∷ told 15 Reply.Okay
    ∷ told 15 (Reply.Refused Errno.Invalid)
    ∷ told 15 Reply.Okay
    ∷ told 15 Reply.Okay
    ∷ told 15 Reply.Okay
    ∷ told 15 Reply.Okay
    ∷ told 15 (Reply.Begun 1 1)
    ∷ told 15 Reply.Okay
    ∷ told 15 Reply.Okay
    ∷ told 15 (Reply.Trans 5)
    ∷ told 15 Reply.Okay
    ∷ told 15 (Reply.Refused Errno.Again)
    ∷ told 15 (Reply.Refused Errno.Invalid)
    ∷ told 15 (Reply.Refused Errno.Again)
    ∷ told 15 (Reply.Refused Errno.NoSpace)
    ∷ told 15 (Reply.Refused Errno.Invalid)
    ∷ told 15 (Reply.Data ((119 ∷ []) ++ replicate 511 68))
    ∷ told 15 Reply.Okay
    ∷ said 15 (Reply.Landed 1) (LogOffer.Piece ((88 ∷ 67 ∷ 80 ∷ 50 ∷ []) ++ replicate 7 0 ++ (1 ∷ 0 ∷ 0 ∷ 0 ∷ 1 ∷ 0 ∷ 0 ∷ 2 ∷ []) ++ replicate 7 0 ++ (1 ∷ 9 ∷ 0 ∷ 0 ∷ 0 ∷ 1 ∷ []) ++ replicate 4 0 ++ (119 ∷ []) ++ replicate 127 68 ++ (88 ∷ 67 ∷ 69 ∷ 50 ∷ 0 ∷ 0 ∷ 0 ∷ 1 ∷ []) ++ replicate 7 0 ++ (1 ∷ [])) true ∷ LogOffer.Sync true ∷ []) []
    ∷ told 15 Reply.Okay
    ∷ told 15 (Reply.Seen 1 (Some Reason.ForceUmount))
    ∷ told 15 (Reply.Refused Errno.Io)
    ∷ told 15 Reply.Okay
    ∷ told 15 (Reply.Refused Errno.Io)
    ∷ told 15 Reply.Okay
    ∷ told 15 (Reply.Refused Errno.Io)
    ∷ told 15 (Reply.Refused Errno.Invalid)
    ∷ told 15 Reply.Okay
    ∷ told 15 (Reply.Seen 1 (Some Reason.ForceUmount))
    ∷ told 15 (Reply.Refused Errno.Invalid)
    ∷ told 15 (Reply.Refused Errno.Io)
    ∷ told 15 (Reply.Refused Errno.Io)
    ∷ told 15 Reply.Okay
    ∷ told 15 Reply.Okay
    ∷ told 15 (Reply.Refused Errno.NoDevice)
    ∷ told 15 (Reply.Life 2)
    ∷ told 15 (Reply.Trans 1)
    ∷ told 15 (Reply.Trans 2)
    ∷ told 15 (Reply.Committed 0)
    ∷ told 15 Reply.Okay
    ∷ told 15 Reply.Okay
    ∷ told 15 (Reply.Refused Errno.Invalid)
    ∷ told 15 Reply.Free
    ∷ told 15 Reply.Okay
    ∷ told 15 (Reply.Refused Errno.Invalid)
    ∷ told 15 Reply.Okay
    ∷ told 15 Reply.Okay
    ∷ told 15 Reply.Okay
    ∷ told 15 (Reply.Refused Errno.Invalid)
    ∷ told 15 Reply.Kept
    ∷ told 15 Reply.Okay
    ∷ told 15 (Reply.Committed 1)
    ∷ told 15 Reply.Okay
    ∷ told 15 (Reply.Refused Errno.Invalid)
    ∷ told 15 (Reply.Refused Errno.Invalid)
    ∷ told 15 Reply.Okay
    ∷ told 15 (Reply.Trans 3)
    ∷ told 15 (Reply.Trans 4)
    ∷ told 15 Reply.Okay
    ∷ told 15 Reply.Okay
    ∷ told 15 (Reply.OkayHeld (197 ∷ []))
    ∷ told 15 (Reply.Refused Errno.Again)
    ∷ told 15 Reply.Okay
    ∷ told 15 (Reply.Data (replicate 4096 0))
    ∷ told 15 Reply.Okay
    ∷ told 15 (Reply.Committed 1)
    ∷ told 15 Reply.Okay
    ∷ told 15 (Reply.Refused Errno.Invalid)
    ∷ told 15 Reply.Okay
    ∷ told 15 Reply.Okay
    ∷ told 15 (Reply.Begun 1 3)
    ∷ said 15 (Reply.Landed 1) (LogOffer.Piece ((88 ∷ 67 ∷ 80 ∷ 49 ∷ []) ++ replicate 7 0 ++ (1 ∷ 0 ∷ 0 ∷ 0 ∷ 2 ∷ []) ++ replicate 7 0 ++ (197 ∷ []) ++ replicate 4 255 ++ replicate 4 0 ++ replicate 4064 187) true ∷ LogOffer.Piece (replicate 32 187 ++ replicate 7 0 ++ (244 ∷ []) ++ replicate 4 255 ++ replicate 4 0 ++ replicate 4048 205) true ∷ LogOffer.Piece (replicate 48 205 ++ (88 ∷ 67 ∷ 69 ∷ 49 ∷ 0 ∷ 0 ∷ 0 ∷ 2 ∷ []) ++ replicate 7 0 ++ (1 ∷ [])) true ∷ LogOffer.Sync true ∷ []) []
    ∷ told 15 (Reply.Refused Errno.Stale)
    ∷ told 15 (Reply.Refused Errno.Invalid)
    ∷ told 15 (Reply.Trans 5)
    ∷ told 15 (Reply.Trans 6)
    ∷ told 15 (Reply.Trans 7)
    ∷ told 15 (Reply.Committed 0)
    ∷ told 15 Reply.Okay
    ∷ told 15 Reply.Okay
    ∷ told 15 (Reply.Refused Errno.Invalid)
    ∷ []

list13 : alone_run list13_steps ≡ list13_said
unfolding chunks_where
list13 = refl

list13_order : in_order [] empty list13_steps ≡ true
unfolding chunks_where
list13_order = refl

-- ---- list14
abbrev list14_steps : List Step
list14_steps =
    Step.Mount 1 65536 5 (Some 2048)
    ∷ Step.Call 1 1 (Request.Alloc 2000 1 true) Answer.None
    ∷ Step.Call 1 1 (Request.Read 1 2) (Answer.Content (replicate 2048 51))
    ∷ Step.Call 1 1 (Request.Alloc 9000 1 false) Answer.None
    ∷ Step.Call 1 1 (Request.Read 2 4) (Answer.Content (replicate 2048 119))
    ∷ Step.Call 1 1 (Request.Commit 1) Answer.None
    ∷ Step.Call 1 1 (Request.View 2 4) Answer.None
    ∷ Step.Call 1 1 (Request.Alloc 1000 1 false) Answer.None
    ∷ Step.Call 1 1 (Request.Cancel 2) Answer.None
    ∷ Step.Call 1 1 (Request.Alloc 597 1 false) Answer.None
    ∷ Step.Call 1 1 (Request.Read 4 4) Answer.None
    ∷ Step.Call 1 1 (Request.Relse 4 4) Answer.None
    ∷ Step.Call 1 1 (Request.Join 4 3) Answer.None
    ∷ Step.Call 1 1 (Request.Read 4 4) Answer.None
    ∷ Step.Call 1 1 (Request.View 4 4) Answer.None
    ∷ Step.Call 1 1 (Request.Get 3 2) Answer.None
    ∷ Step.Call 1 1 (Request.Log 1178 4 4 (replicate 870 17)) Answer.None
    ∷ Step.Call 1 1 (Request.Alloc 2196 1 false) Answer.None
    ∷ Step.Call 1 1 (Request.Read 5 3) (Answer.Content (replicate 2048 51))
    ∷ Step.Call 1 1 (Request.Log 82 5 3 ((0 ∷ 0 ∷ 0 ∷ []))) Answer.None
    ∷ Step.Call 1 1 (Request.Read 5 1) (Answer.Content (replicate 2048 0))
    ∷ Step.Call 1 1 (Request.Log 94 5 1 ((0 ∷ 0 ∷ 0 ∷ []))) Answer.None
    ∷ Step.Call 1 1 (Request.Read 5 4) Answer.None
    ∷ Step.Call 1 1 (Request.Log 43 5 4 ((170 ∷ 170 ∷ 170 ∷ []))) Answer.None
    ∷ Step.Call 1 1 (Request.Read 5 2) Answer.None
    ∷ Step.Call 1 1 (Request.Log 77 5 2 ((17 ∷ 164 ∷ 151 ∷ []))) Answer.None
    ∷ Step.Call 1 1 (Request.Read 5 0) (Answer.Content (replicate 11 170 ++ replicate 5 255 ++ replicate 2032 0))
    ∷ Step.Call 1 1 (Request.Log 84 5 0 ((170 ∷ 170 ∷ 170 ∷ []))) Answer.None
    ∷ Step.Call 1 1 (Request.Commit 5) Answer.None
    ∷ Step.Call 1 1 Request.Force Answer.None
    ∷ Step.Call 1 1 Request.Push Answer.None
    ∷ Step.Call 1 1 (Request.Roll 4) Answer.None
    ∷ Step.Call 1 1 (Request.Commit 3) Answer.None
    ∷ Step.Post (name 1 1 JobKind.Flush 1)
    ∷ Step.Call 1 1 (Request.Read 4 2) Answer.None
    ∷ Step.Take 2 (name 1 1 JobKind.Flush 1)
    ∷ Step.Flush 2 (name 1 1 JobKind.Flush 1) (record { count = 0; writes = (false ∷ false ∷ false ∷ false ∷ false ∷ false ∷ false ∷ false ∷ []); sync = false })
    ∷ Step.Call 1 1 (Request.Log 1152 4 4 ((17 ∷ 17 ∷ []))) Answer.None
    ∷ Step.Post (name 1 1 JobKind.Ckpt 2)
    ∷ Step.Take 7 (name 1 1 JobKind.Ckpt 2)
    ∷ Step.Begin 7 (name 1 1 JobKind.Ckpt 2)
    ∷ Step.Call 1 1 Request.Shutdown Answer.None
    ∷ Step.End 7 (name 1 1 JobKind.Ckpt 2) (record { taken = 1; sync = Some true })
    ∷ Step.Show 1
    ∷ Step.Call 1 1 (Request.Read 4 0) Answer.None
    ∷ Step.Call 1 1 (Request.Roll 4) Answer.None
    ∷ Step.Call 1 1 (Request.Alloc 2000 1 false) Answer.None
    ∷ Step.Call 1 1 Request.Push Answer.None
    ∷ Step.Call 1 1 (Request.Alloc 9000 3 true) Answer.None
    ∷ Step.Call 1 1 (Request.Inval 4 4) Answer.None
    ∷ Step.Call 1 1 (Request.Commit 4) Answer.None
    ∷ Step.Call 1 1 (Request.Alloc 868 8 true) Answer.None
    ∷ Step.Show 1
    ∷ Step.Call 1 1 (Request.Alloc 5000 2 true) Answer.None
    ∷ Step.Call 1 1 (Request.Alloc 1000 2 true) Answer.None
    ∷ Step.Show 1
    ∷ Step.Call 1 1 Request.Unmount Answer.None
    ∷ Step.Mount 1 65536 1024 None
    ∷ Step.Call 1 2 (Request.Alloc 32768 1 false) Answer.None
    ∷ Step.Call 1 2 (Request.Read 1 134) (Answer.Content ((0 ∷ 0 ∷ []) ++ replicate 4094 1))
    ∷ Step.Call 1 2 (Request.Log 4294967295 1 134 ((1 ∷ []))) Answer.None
    ∷ Step.Call 1 2 (Request.Alloc 16384 1 false) Answer.None
    ∷ Step.Call 1 2 (Request.Log 3555 1 134 ((196 ∷ 13 ∷ []))) Answer.None
    ∷ Step.Call 1 2 (Request.Release 13) Answer.None
    ∷ Step.Call 1 2 (Request.Get 1 189) Answer.None
    ∷ Step.Call 1 2 (Request.Read 1 110) (Answer.Content (replicate 8 0 ++ (170 ∷ 170 ∷ 170 ∷ 34 ∷ 170 ∷ []) ++ replicate 4083 0))
    ∷ Step.Call 1 2 (Request.Read 2 189) Answer.None
    ∷ Step.Call 1 2 (Request.Roll 1) Answer.None
    ∷ Step.Call 1 2 (Request.Log 1467 1 134 (replicate 5 0 ++ replicate 2624 17)) Answer.None
    ∷ Step.Call 1 2 (Request.Read 1 2) (Answer.Content ((170 ∷ []) ++ replicate 4095 0))
    ∷ Step.Call 1 2 (Request.Read 2 134) Answer.None
    ∷ Step.Call 1 2 (Request.Read 2 134) Answer.None
    ∷ Step.Call 1 2 (Request.Unhold 1 134) Answer.None
    ∷ Step.Call 1 2 (Request.Join 1 48) Answer.None
    ∷ Step.Call 1 2 (Request.Roll 1) Answer.None
    ∷ Step.Call 1 2 (Request.Commit 1) Answer.None
    ∷ Step.Call 1 2 (Request.Join 2 134) Answer.None
    ∷ Step.Call 1 2 (Request.Alloc 9000 3 true) Answer.None
    ∷ Step.Call 1 2 (Request.Join 3 110) Answer.None
    ∷ Step.Call 1 2 (Request.Alloc 304 1 true) Answer.None
    ∷ Step.Call 1 2 (Request.Read 4 110) Answer.None
    ∷ Step.Call 1 2 (Request.Alloc 19012 1 false) Answer.None
    ∷ Step.Call 1 2 (Request.Log 0 4 110 ((119 ∷ []))) Answer.None
    ∷ Step.Call 1 2 (Request.Roll 4) Answer.None
    ∷ Step.Post (name 1 2 JobKind.Flush 1)
    ∷ Step.Post (name 1 2 JobKind.Ckpt 2)
    ∷ Step.Take 0 (name 1 2 JobKind.Flush 1)
    ∷ Step.Take 1 (name 1 2 JobKind.Ckpt 2)
    ∷ Step.Begin 1 (name 1 2 JobKind.Ckpt 2)
    ∷ Step.Call 1 2 (Request.Log 3839 4 110 ((87 ∷ []))) Answer.None
    ∷ Step.End 1 (name 1 2 JobKind.Ckpt 2) (record { taken = 1; sync = Some true })
    ∷ Step.Flush 0 (name 1 2 JobKind.Flush 1) (record { count = 1; writes = (true ∷ false ∷ false ∷ false ∷ false ∷ false ∷ false ∷ false ∷ []); sync = true })
    ∷ Step.Call 1 2 (Request.View 4 110) Answer.None
    ∷ Step.Call 1 2 (Request.Alloc 1 1 false) Answer.None
    ∷ Step.Call 1 2 (Request.Log 2182 4 110 ((113 ∷ 6 ∷ []))) Answer.None
    ∷ Step.Call 1 2 (Request.Cancel 5) Answer.None
    ∷ Step.Call 1 2 (Request.Roll 4) Answer.None
    ∷ Step.Call 1 2 (Request.Read 3 134) Answer.None
    ∷ Step.Call 1 2 (Request.Read 3 134) Answer.None
    ∷ Step.Call 1 2 (Request.Get 3 110) Answer.None
    ∷ []

abbrev list14_said : List Said
list14_said =
    told 1 (Reply.Life 1)
    ∷ told 1 (Reply.Trans 1)
    ∷ told 1 Reply.Okay
    ∷ told 1 (Reply.Trans 2)
    ∷ told 1 Reply.Okay
    ∷ told 1 (Reply.Committed 0)
    ∷ told 1 (Reply.Data (replicate 2048 119))
    ∷ told 1 (Reply.Trans 3)
    ∷ told 1 Reply.Okay
    ∷ told 1 (Reply.Trans 4)
    ∷ told 1 Reply.Okay
    ∷ told 1 Reply.Free
    ∷ told 1 (Reply.Refused Errno.Invalid)
    ∷ told 1 Reply.Okay
    ∷ told 1 (Reply.Data (replicate 2048 119))
    ∷ told 1 Reply.Okay
    ∷ told 1 (Reply.Refused Errno.NoSpace)
    ∷ told 1 (Reply.Trans 5)
    ∷ told 1 Reply.Okay
    ∷ told 1 Reply.Okay
    ∷ told 1 Reply.Okay
    ∷ told 1 Reply.Okay
    ∷ told 1 (Reply.Refused Errno.Again)
    ∷ told 1 (Reply.Refused Errno.Invalid)
    ∷ told 1 (Reply.Refused Errno.Again)
    ∷ told 1 (Reply.Refused Errno.Invalid)
    ∷ told 1 Reply.Okay
    ∷ told 1 Reply.Okay
    ∷ told 1 (Reply.Committed 1)
    ∷ told 1 (Reply.Wait 1)
    ∷ told 1 Reply.Okay
    ∷ told 1 (Reply.Refused Errno.Invalid)
    ∷ told 1 (Reply.Committed 0)
    ∷ told 1 Reply.Okay
    ∷ told 1 Reply.Okay
    ∷ told 1 Reply.Okay
    ∷ told 1 Reply.Nothing
    ∷ told 1 Reply.Okay
    ∷ told 1 Reply.Okay
    ∷ told 1 Reply.Okay
    ∷ told 1 (Reply.Begun 1 1)
    ∷ told 1 Reply.Okay
    ∷ said 1 (Reply.Landed 1) (LogOffer.Piece ((88 ∷ 67 ∷ 80 ∷ 50 ∷ []) ++ replicate 7 0 ++ (1 ∷ 0 ∷ 0 ∷ 0 ∷ 3 ∷ 0 ∷ 0 ∷ 8 ∷ []) ++ replicate 12 0 ++ (1 ∷ []) ++ replicate 4 0 ++ replicate 11 170 ++ replicate 5 255 ++ replicate 68 0 ++ (170 ∷ 170 ∷ 170 ∷ []) ++ replicate 48 0 ++ (1 ∷ 0 ∷ 0 ∷ 0 ∷ 1 ∷ []) ++ replicate 139 0 ++ (3 ∷ 0 ∷ 0 ∷ 0 ∷ 1 ∷ []) ++ replicate 4 0 ++ replicate 82 51 ++ (0 ∷ 0 ∷ 0 ∷ []) ++ replicate 43 51 ++ (88 ∷ 67 ∷ 69 ∷ 50 ∷ 0 ∷ 0 ∷ 0 ∷ 3 ∷ []) ++ replicate 7 0 ++ (1 ∷ [])) true ∷ LogOffer.Sync true ∷ []) []
    ∷ told 1 Reply.Okay
    ∷ told 1 (Reply.Refused Errno.Io)
    ∷ told 1 (Reply.Refused Errno.Invalid)
    ∷ told 1 (Reply.Refused Errno.Io)
    ∷ told 1 (Reply.Refused Errno.Io)
    ∷ told 1 (Reply.Refused Errno.Io)
    ∷ told 1 Reply.Okay
    ∷ told 1 (Reply.Refused Errno.Io)
    ∷ told 1 (Reply.Refused Errno.Io)
    ∷ told 1 Reply.Okay
    ∷ told 1 (Reply.Refused Errno.Io)
    ∷ told 1 (Reply.Refused Errno.Io)
    ∷ told 1 Reply.Okay
    ∷ told 1 Reply.Okay
    ∷ told 1 (Reply.Life 2)
    ∷ told 1 (Reply.Trans 1)
    ∷ told 1 Reply.Okay
    ∷ told 1 (Reply.Refused Errno.Invalid)
    ∷ told 1 (Reply.Trans 2)
    ∷ told 1 Reply.Okay
    ∷ told 1 (Reply.Refused Errno.Invalid)
    ∷ told 1 Reply.Okay
    ∷ told 1 Reply.Okay
    ∷ told 1 (Reply.Refused Errno.Again)
    ∷ told 1 (Reply.Refused Errno.Invalid)
    ∷ told 1 Reply.Okay
    ∷ told 1 Reply.Okay
    ∷ told 1 (Reply.Refused Errno.Again)
    ∷ told 1 (Reply.Refused Errno.Again)
    ∷ told 1 (Reply.Refused Errno.Invalid)
    ∷ told 1 (Reply.Refused Errno.Invalid)
    ∷ told 1 (Reply.Refused Errno.Invalid)
    ∷ told 1 (Reply.Committed 1)
    ∷ told 1 (Reply.Refused Errno.Invalid)
    ∷ told 1 (Reply.Trans 3)
    ∷ told 1 (Reply.Refused Errno.Invalid)
    ∷ told 1 (Reply.Trans 4)
    ∷ told 1 Reply.Okay
    ∷ told 1 (Reply.Trans 5)
    ∷ told 1 Reply.Okay
    ∷ told 1 (Reply.Refused Errno.Again)
    ∷ told 1 Reply.Okay
    ∷ told 1 Reply.Okay
    ∷ told 1 Reply.Okay
    ∷ told 1 Reply.Okay
    ∷ told 1 (Reply.Begun 1 1)
    ∷ told 1 Reply.Okay
    ∷ said 1 (Reply.Landed 1) (LogOffer.Piece ((88 ∷ 67 ∷ 80 ∷ 49 ∷ []) ++ replicate 7 0 ++ (1 ∷ 0 ∷ 0 ∷ 0 ∷ 1 ∷ []) ++ replicate 7 0 ++ (134 ∷ 255 ∷ 255 ∷ 248 ∷ []) ++ replicate 5 0 ++ replicate 59 1 ++ replicate 5 0 ++ replicate 2624 17 ++ (88 ∷ 67 ∷ 69 ∷ 49 ∷ 0 ∷ 0 ∷ 0 ∷ 1 ∷ []) ++ replicate 7 0 ++ (1 ∷ [])) true ∷ LogOffer.Sync true ∷ []) []
    ∷ said 1 (Reply.Flushed 1) [] (HomeOffer.Write 134 ((0 ∷ 0 ∷ []) ++ replicate 1465 1 ++ replicate 5 0 ++ replicate 2624 17) true ∷ HomeOffer.Sync true ∷ [])
    ∷ told 1 (Reply.Data ((119 ∷ []) ++ replicate 7 0 ++ (170 ∷ 170 ∷ 170 ∷ 34 ∷ 170 ∷ []) ++ replicate 3826 0 ++ (87 ∷ []) ++ replicate 256 0))
    ∷ told 1 (Reply.Trans 6)
    ∷ told 1 (Reply.Refused Errno.NoSpace)
    ∷ told 1 Reply.Okay
    ∷ told 1 (Reply.Committed 2)
    ∷ told 1 Reply.Okay
    ∷ told 1 Reply.Okay
    ∷ told 1 Reply.Okay
    ∷ []

list14 : alone_run list14_steps ≡ list14_said
unfolding chunks_where
list14 = refl

list14_order : in_order [] empty list14_steps ≡ true
unfolding chunks_where
list14_order = refl

-- ---- list15
abbrev list15_steps : List Step
list15_steps =
    Step.Mount 12 67880 1024 (Some 512)
    ∷ Step.Call 12 1 (Request.Alloc 564 1 true) Answer.None
    ∷ Step.Call 12 1 (Request.Alloc 1620 1 false) Answer.None
    ∷ Step.Call 12 1 (Request.Alloc 5000 3 true) Answer.None
    ∷ Step.Call 12 1 (Request.Get 2 269) Answer.None
    ∷ Step.Call 12 1 (Request.Read 3 18446744073709551615) Answer.None
    ∷ Step.Call 12 1 (Request.Log 350 2 269 (replicate 4 17 ++ replicate 125 0)) Answer.None
    ∷ Step.Call 12 1 Request.Force Answer.None
    ∷ Step.Call 12 1 (Request.Get 2 222) Answer.None
    ∷ Step.Call 12 1 (Request.Log 0 2 222 (replicate 512 68)) Answer.None
    ∷ Step.Call 12 1 (Request.Commit 2) Answer.None
    ∷ Step.Call 12 1 (Request.Get 1 222) Answer.None
    ∷ Step.Call 12 1 (Request.Log 139 1 222 ((34 ∷ []))) Answer.None
    ∷ Step.Call 12 1 (Request.Commit 1) Answer.None
    ∷ Step.Call 12 1 (Request.Get 3 222) Answer.None
    ∷ Step.Call 12 1 (Request.Read 3 58) (Answer.Content (replicate 512 102))
    ∷ Step.Call 12 1 (Request.Log 0 3 222 ((255 ∷ 255 ∷ []))) Answer.None
    ∷ Step.Call 12 1 (Request.Inval 3 222) Answer.None
    ∷ Step.Call 12 1 (Request.Commit 3) Answer.None
    ∷ Step.Call 12 1 (Request.Alloc 5000 1 false) Answer.None
    ∷ Step.Call 12 1 (Request.Get 4 244) Answer.None
    ∷ Step.Call 12 1 (Request.Alloc 5000 2 true) Answer.None
    ∷ Step.Call 12 1 Request.Freeze Answer.None
    ∷ Step.Call 12 1 Request.Freeze Answer.None
    ∷ Step.Call 12 1 (Request.Inval 4 244) Answer.None
    ∷ Step.Call 12 1 Request.Thaw Answer.None
    ∷ Step.Call 12 1 (Request.Log 0 4 244 (replicate 512 170)) Answer.None
    ∷ Step.Call 12 1 (Request.View 4 244) Answer.None
    ∷ Step.Call 12 1 Request.Force Answer.None
    ∷ Step.Post (name 12 1 JobKind.Ckpt 1)
    ∷ Step.Call 12 1 (Request.ForceTo 2) Answer.None
    ∷ Step.Take 2 (name 12 1 JobKind.Ckpt 1)
    ∷ Step.Call 12 1 (Request.ForceTo 1) Answer.None
    ∷ Step.Call 12 1 Request.Push Answer.None
    ∷ Step.Begin 2 (name 12 1 JobKind.Ckpt 1)
    ∷ Step.Call 12 1 (Request.Read 5 222) Answer.None
    ∷ Step.Call 12 1 (Request.Roll 4) Answer.None
    ∷ Step.Post (name 12 1 JobKind.Flush 2)
    ∷ Step.Call 12 1 (Request.Alloc 1092 1 false) Answer.None
    ∷ Step.Take 5 (name 12 1 JobKind.Flush 2)
    ∷ Step.Call 12 1 (Request.Get 6 222) Answer.None
    ∷ Step.Flush 5 (name 12 1 JobKind.Flush 2) (record { count = 0; writes = (false ∷ false ∷ false ∷ false ∷ false ∷ false ∷ false ∷ false ∷ []); sync = false })
    ∷ Step.Call 12 1 Request.Force Answer.None
    ∷ Step.Call 12 1 (Request.Alloc 564 1 false) Answer.None
    ∷ Step.Call 12 1 Request.Freeze Answer.None
    ∷ Step.Call 12 1 (Request.Roll 7) Answer.None
    ∷ Step.Call 12 1 Request.Thaw Answer.None
    ∷ Step.Call 12 1 (Request.Read 4 157) (Answer.Content (replicate 300 0 ++ replicate 212 1))
    ∷ Step.Call 12 1 (Request.Cancel 7) Answer.None
    ∷ Step.Call 12 1 Request.Shutdown Answer.None
    ∷ Step.Show 12
    ∷ Step.Show 12
    ∷ Step.Call 12 1 Request.Force Answer.None
    ∷ Step.Call 12 1 (Request.Roll 4) Answer.None
    ∷ Step.Call 12 1 (Request.Relse 4 244) Answer.None
    ∷ Step.Call 12 1 (Request.Read 6 42) Answer.None
    ∷ Step.Call 12 1 (Request.Roll 4) Answer.None
    ∷ Step.Call 12 1 (Request.Log 15 4 244 ((17 ∷ []))) Answer.None
    ∷ Step.Call 12 1 (Request.Log 108 4 244 ((17 ∷ 34 ∷ 34 ∷ 255 ∷ 255 ∷ 255 ∷ []) ++ replicate 398 17)) Answer.None
    ∷ Step.Call 12 1 (Request.Inval 4 244) Answer.None
    ∷ Step.Call 12 1 Request.Force Answer.None
    ∷ Step.Call 12 1 (Request.Get 6 222) Answer.None
    ∷ Step.Call 12 1 (Request.Cancel 5) Answer.None
    ∷ Step.Show 12
    ∷ Step.Call 12 1 (Request.Log 483 6 222 ((37 ∷ 106 ∷ 164 ∷ 165 ∷ 83 ∷ 27 ∷ 208 ∷ 5 ∷ 11 ∷ 225 ∷ 96 ∷ 125 ∷ 209 ∷ 15 ∷ 243 ∷ 60 ∷ 107 ∷ 93 ∷ 226 ∷ 173 ∷ 195 ∷ 145 ∷ 137 ∷ 192 ∷ 241 ∷ 240 ∷ 255 ∷ 36 ∷ 5 ∷ []))) Answer.None
    ∷ Step.Call 12 1 (Request.Commit 6) Answer.None
    ∷ Step.Show 12
    ∷ Step.Peek 12
    ∷ Step.Call 12 1 (Request.Roll 4) Answer.None
    ∷ Step.Call 12 1 (Request.Get 4 222) Answer.None
    ∷ Step.Call 12 1 (Request.Cancel 4) Answer.None
    ∷ Step.Call 12 1 Request.Unmount Answer.None
    ∷ Step.End 2 (name 12 1 JobKind.Ckpt 1) (record { taken = 1; sync = Some true })
    ∷ Step.Call 12 1 (Request.Log 0 4 222 ((255 ∷ 255 ∷ []))) Answer.None
    ∷ Step.Call 12 1 (Request.Commit 4) Answer.None
    ∷ Step.Call 12 1 Request.Unmount Answer.None
    ∷ Step.Mount 12 1048576 1 None
    ∷ Step.Call 12 2 (Request.Alloc 2000 1 false) Answer.None
    ∷ Step.Call 12 2 (Request.Cancel 1) Answer.None
    ∷ Step.Call 12 2 (Request.Alloc 591 1 false) Answer.None
    ∷ Step.Call 12 2 (Request.Read 2 0) (Answer.Content ((255 ∷ []) ++ replicate 4095 0))
    ∷ Step.Call 12 2 (Request.Read 2 0) Answer.None
    ∷ Step.Call 12 2 (Request.Alloc 448 1 true) Answer.None
    ∷ Step.Call 12 2 (Request.Read 3 0) Answer.None
    ∷ Step.Call 12 2 (Request.Cancel 2) Answer.None
    ∷ Step.Call 12 2 Request.Force Answer.None
    ∷ Step.Call 12 2 (Request.Alloc 2000 8 true) Answer.None
    ∷ Step.Call 12 2 Request.Unmount Answer.None
    ∷ Step.Call 12 2 (Request.Alloc 180 1 false) Answer.None
    ∷ Step.Call 12 2 (Request.Read 5 0) Answer.None
    ∷ Step.Call 12 2 (Request.Log 0 5 0 ((90 ∷ []))) Answer.None
    ∷ Step.Call 12 2 (Request.Commit 5) Answer.None
    ∷ Step.Call 12 2 Request.Force Answer.None
    ∷ Step.Post (name 12 2 JobKind.Ckpt 1)
    ∷ Step.Take 4 (name 12 2 JobKind.Ckpt 1)
    ∷ Step.Begin 4 (name 12 2 JobKind.Ckpt 1)
    ∷ Step.Call 12 2 Request.Push Answer.None
    ∷ Step.End 4 (name 12 2 JobKind.Ckpt 1) (record { taken = 1; sync = Some true })
    ∷ Step.Call 12 2 (Request.Alloc 224 2 true) Answer.None
    ∷ Step.Call 12 2 (Request.Read 4 0) Answer.None
    ∷ []

abbrev list15_said : List Said
list15_said =
    told 12 (Reply.Life 1)
    ∷ told 12 (Reply.Trans 1)
    ∷ told 12 (Reply.Trans 2)
    ∷ told 12 (Reply.Trans 3)
    ∷ told 12 Reply.Okay
    ∷ told 12 (Reply.Refused Errno.Invalid)
    ∷ told 12 (Reply.Refused Errno.Invalid)
    ∷ told 12 Reply.Done
    ∷ told 12 Reply.Okay
    ∷ told 12 Reply.Okay
    ∷ told 12 (Reply.Committed 1)
    ∷ told 12 Reply.Okay
    ∷ told 12 Reply.Okay
    ∷ told 12 (Reply.Committed 1)
    ∷ told 12 Reply.Okay
    ∷ told 12 Reply.Okay
    ∷ told 12 Reply.Okay
    ∷ told 12 Reply.Okay
    ∷ told 12 (Reply.Committed 1)
    ∷ told 12 (Reply.Trans 4)
    ∷ told 12 Reply.Okay
    ∷ told 12 (Reply.Trans 5)
    ∷ told 12 Reply.Okay
    ∷ told 12 (Reply.Refused Errno.Busy)
    ∷ told 12 Reply.Okay
    ∷ told 12 Reply.Okay
    ∷ told 12 Reply.Okay
    ∷ told 12 (Reply.Data (replicate 512 170))
    ∷ told 12 (Reply.Wait 1)
    ∷ told 12 Reply.Okay
    ∷ told 12 (Reply.Refused Errno.Invalid)
    ∷ told 12 Reply.Okay
    ∷ told 12 (Reply.Wait 1)
    ∷ told 12 Reply.Okay
    ∷ told 12 (Reply.Begun 1 1)
    ∷ told 12 (Reply.Refused Errno.Again)
    ∷ told 12 (Reply.Refused Errno.Invalid)
    ∷ told 12 Reply.Okay
    ∷ told 12 (Reply.Trans 6)
    ∷ told 12 Reply.Okay
    ∷ told 12 (Reply.Refused Errno.Again)
    ∷ told 12 Reply.Nothing
    ∷ told 12 (Reply.Wait 1)
    ∷ told 12 (Reply.Trans 7)
    ∷ told 12 Reply.Okay
    ∷ told 12 (Reply.Refused Errno.Invalid)
    ∷ told 12 Reply.Okay
    ∷ told 12 Reply.Okay
    ∷ told 12 Reply.Okay
    ∷ told 12 Reply.Okay
    ∷ told 12 Reply.Okay
    ∷ told 12 Reply.Okay
    ∷ told 12 (Reply.Refused Errno.Io)
    ∷ told 12 (Reply.Refused Errno.Invalid)
    ∷ told 12 Reply.Kept
    ∷ told 12 (Reply.Refused Errno.Io)
    ∷ told 12 (Reply.Refused Errno.Invalid)
    ∷ told 12 Reply.Okay
    ∷ told 12 Reply.Okay
    ∷ told 12 Reply.Okay
    ∷ told 12 (Reply.Refused Errno.Io)
    ∷ told 12 (Reply.Refused Errno.Io)
    ∷ told 12 Reply.Okay
    ∷ told 12 Reply.Okay
    ∷ told 12 (Reply.Refused Errno.Invalid)
    ∷ told 12 (Reply.Committed 0)
    ∷ told 12 Reply.Okay
    ∷ told 12 (Reply.Seen 1 (Some Reason.ForceUmount))
    ∷ told 12 (Reply.Refused Errno.Invalid)
    ∷ told 12 (Reply.Refused Errno.Io)
    ∷ told 12 Reply.Okay
    ∷ told 12 (Reply.Refused Errno.Busy)
    ∷ said 12 (Reply.Landed 1) (LogOffer.Piece ((88 ∷ 67 ∷ 80 ∷ 50 ∷ []) ++ replicate 7 0 ++ (1 ∷ 0 ∷ 0 ∷ 0 ∷ 1 ∷ 0 ∷ 0 ∷ 2 ∷ []) ++ replicate 8 0 ++ (222 ∷ []) ++ replicate 7 0 ++ (1 ∷ 88 ∷ 67 ∷ 69 ∷ 50 ∷ 0 ∷ 0 ∷ 0 ∷ 1 ∷ []) ++ replicate 7 0 ++ (1 ∷ [])) true ∷ LogOffer.Sync true ∷ []) []
    ∷ told 12 (Reply.Refused Errno.Invalid)
    ∷ told 12 (Reply.Refused Errno.Invalid)
    ∷ told 12 Reply.Okay
    ∷ told 12 (Reply.Life 2)
    ∷ told 12 (Reply.Trans 1)
    ∷ told 12 Reply.Okay
    ∷ told 12 (Reply.Trans 2)
    ∷ told 12 Reply.Okay
    ∷ told 12 Reply.Okay
    ∷ told 12 (Reply.Trans 3)
    ∷ told 12 (Reply.Refused Errno.Again)
    ∷ told 12 Reply.Okay
    ∷ told 12 Reply.Done
    ∷ told 12 (Reply.Trans 4)
    ∷ told 12 (Reply.Refused Errno.Busy)
    ∷ told 12 (Reply.Trans 5)
    ∷ told 12 Reply.Okay
    ∷ told 12 Reply.Okay
    ∷ told 12 (Reply.Committed 1)
    ∷ told 12 (Reply.Wait 1)
    ∷ told 12 Reply.Okay
    ∷ told 12 Reply.Okay
    ∷ told 12 (Reply.Begun 1 1)
    ∷ told 12 Reply.Okay
    ∷ said 12 (Reply.Landed 1) (LogOffer.Piece ((88 ∷ 67 ∷ 80 ∷ 49 ∷ []) ++ replicate 7 0 ++ (1 ∷ 0 ∷ 0 ∷ 0 ∷ 1 ∷ []) ++ replicate 11 0 ++ (1 ∷ []) ++ replicate 4 0 ++ (90 ∷ []) ++ replicate 127 0 ++ (88 ∷ 67 ∷ 69 ∷ 49 ∷ 0 ∷ 0 ∷ 0 ∷ 1 ∷ []) ++ replicate 7 0 ++ (1 ∷ [])) true ∷ LogOffer.Sync true ∷ []) []
    ∷ told 12 (Reply.Trans 6)
    ∷ told 12 Reply.Okay
    ∷ []

list15 : alone_run list15_steps ≡ list15_said
unfolding chunks_where
list15 = refl

list15_order : in_order [] empty list15_steps ≡ true
unfolding chunks_where
list15_order = refl
