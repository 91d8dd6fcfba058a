-- Scripts computed over the definitions: what each step of the mount alone says, and that the list is orderly.
-- Made by tools/row-theorems from the files of rows/.
use Rattle.std.proofs.Common.{◌≡◌, ℕ, List, [], ◌∷◌, ◌++◌, Some, None, true, false, refl}
use Rattle.std.specs.Prelude.{replicate}
use Rattle.xt_base.specs.Alone.{Said, alone_run}
use Rattle.xt_base.specs.Chunks.{chunks_where}
use Rattle.xt_base.specs.Order.{in_order}
use Rattle.xt_base.specs.State.{empty}
use Rattle.xt_base.specs.declared.names.JobKind.{JobKind}
use Rattle.xt_base.specs.declared.names.JobName.{JobName}
use Rattle.xt_base.specs.declared.steps.Answer.TheVariants as Answer
use Rattle.xt_base.specs.declared.steps.Errno.TheVariants as Errno
use Rattle.xt_base.specs.declared.steps.HomeOffer.{HomeOffer}
use Rattle.xt_base.specs.declared.steps.LogOffer.{LogOffer}
use Rattle.xt_base.specs.declared.steps.Reason.TheVariants as Reason
use Rattle.xt_base.specs.declared.steps.Reply.{Reply}
use Rattle.xt_base.specs.declared.steps.Request.TheVariants as Request
use Rattle.xt_base.specs.declared.steps.Step.{Step}

-- the name of a job
abbrev name : ℕ → ℕ → JobKind → ℕ → JobName
name slot life kind serial = record { slot = slot; life = life; kind = kind; serial = serial }

-- a reply with offers, and one without
abbrev said : ℕ → Reply → List LogOffer → List HomeOffer → Said
said slot reply log home = record { slot = slot; reply = reply; log = log; home = home }

abbrev told : ℕ → Reply → Said
told slot reply = said slot reply [] []

-- ---- list04
abbrev list04_steps : List Step
list04_steps =
    Step.Mount 8 65536 1048576 None
    ∷ Step.Call 8 1 (Request.Alloc 9000 3 true) Answer.None
    ∷ Step.Call 8 1 (Request.Get 1 219) Answer.None
    ∷ Step.Call 8 1 (Request.Get 1 204) Answer.None
    ∷ Step.Call 8 1 (Request.Alloc 208 2 true) Answer.None
    ∷ Step.Call 8 1 (Request.Read 1 211) (Answer.Content (replicate 4096 102))
    ∷ Step.Call 8 1 (Request.Alloc 176 1 false) Answer.None
    ∷ Step.Call 8 1 (Request.Alloc 2000 2 true) Answer.None
    ∷ Step.Call 8 1 (Request.Commit 3) Answer.None
    ∷ Step.Call 8 1 (Request.Alloc 9000 8 true) Answer.None
    ∷ Step.Call 8 1 (Request.Inval 1 204) Answer.None
    ∷ Step.Call 8 1 (Request.Alloc 817 1 false) Answer.None
    ∷ Step.Call 8 1 (Request.Relse 1 211) Answer.None
    ∷ Step.Call 8 1 (Request.ForceTo 1) Answer.None
    ∷ Step.Call 8 1 (Request.Read 5 250) (Answer.Content (replicate 4096 119))
    ∷ Step.Call 8 1 (Request.Alloc 559 1 true) Answer.None
    ∷ Step.Call 8 1 Request.Force Answer.None
    ∷ Step.Call 8 1 (Request.Read 6 170) (Answer.Content (replicate 4 0 ++ replicate 4 170 ++ replicate 9 17 ++ (34 ∷ 34 ∷ []) ++ replicate 11 170 ++ replicate 270 255 ++ replicate 3796 238))
    ∷ Step.Call 8 1 (Request.Get 1 170) Answer.None
    ∷ Step.Call 8 1 Request.Force Answer.None
    ∷ Step.Call 8 1 (Request.Join 6 211) Answer.None
    ∷ Step.Call 8 1 (Request.Get 5 211) Answer.None
    ∷ Step.Call 8 1 (Request.Inval 5 211) Answer.None
    ∷ Step.Call 8 1 (Request.Relse 5 211) Answer.None
    ∷ Step.Call 8 1 (Request.Unhold 5 211) Answer.None
    ∷ Step.Call 8 1 (Request.Get 5 211) Answer.None
    ∷ Step.Call 8 1 (Request.Log 0 5 211 ((1 ∷ 2 ∷ []))) Answer.None
    ∷ Step.Call 8 1 (Request.Log 0 5 211 (replicate 4096 205)) Answer.None
    ∷ Step.Call 8 1 (Request.View 5 211) Answer.None
    ∷ Step.Call 8 1 (Request.Commit 5) Answer.None
    ∷ Step.Call 8 1 (Request.Get 1 211) Answer.None
    ∷ Step.Call 8 1 (Request.Alloc 9000 1 false) Answer.None
    ∷ Step.Call 8 1 (Request.Log 0 6 170 (replicate 4096 187)) Answer.None
    ∷ Step.Call 8 1 (Request.Read 2 184) (Answer.Content (replicate 4096 0))
    ∷ Step.Call 8 1 (Request.Log 4095 6 170 ((161 ∷ []))) Answer.None
    ∷ Step.Call 8 1 (Request.Join 6 134) Answer.None
    ∷ Step.Call 8 1 (Request.Relse 6 170) Answer.None
    ∷ Step.Call 8 1 (Request.Log 0 1 204 (replicate 4096 1)) Answer.None
    ∷ Step.Call 8 1 Request.Shutdown Answer.None
    ∷ Step.Show 8
    ∷ Step.Call 8 1 (Request.Read 2 128) Answer.None
    ∷ Step.Call 8 1 (Request.Release 250) Answer.None
    ∷ Step.Call 8 1 (Request.Alloc 24513 1 false) Answer.None
    ∷ Step.Call 8 1 (Request.Cancel 8) Answer.None
    ∷ Step.Call 8 1 (Request.Alloc 719 1 false) Answer.None
    ∷ Step.Call 8 1 (Request.Commit 1) Answer.None
    ∷ Step.Mount 8 65536 1024 None
    ∷ Step.Peek 8
    ∷ Step.Show 8
    ∷ Step.Call 8 1 (Request.Read 6 250) Answer.None
    ∷ Step.Peek 8
    ∷ Step.Show 8
    ∷ Step.Call 8 1 (Request.Hold 6 250) Answer.None
    ∷ Step.Call 8 1 (Request.Log 1630 6 250 ((17 ∷ 17 ∷ []))) Answer.None
    ∷ Step.Call 8 1 (Request.Commit 6) Answer.None
    ∷ Step.Show 8
    ∷ Step.Show 8
    ∷ Step.Call 8 1 (Request.Get 2 250) Answer.None
    ∷ Step.Call 8 1 (Request.Roll 4) Answer.None
    ∷ Step.Call 8 1 (Request.Cancel 4) Answer.None
    ∷ Step.Call 8 1 (Request.Join 2 250) Answer.None
    ∷ Step.Call 8 1 (Request.Commit 7) Answer.None
    ∷ Step.Call 8 1 (Request.View 2 250) Answer.None
    ∷ Step.Call 8 1 (Request.Commit 2) Answer.None
    ∷ Step.Call 8 1 (Request.Log 383 2 250 ((0 ∷ 0 ∷ []))) Answer.None
    ∷ Step.Call 8 1 (Request.Commit 2) Answer.None
    ∷ Step.Call 8 1 Request.Unmount Answer.None
    ∷ Step.Mount 8 98304 1024 None
    ∷ Step.Call 8 2 (Request.Alloc 1 9 true) Answer.None
    ∷ Step.Call 8 2 (Request.Alloc 0 1 false) Answer.None
    ∷ Step.Call 8 2 (Request.Alloc 1 2 false) Answer.None
    ∷ Step.Call 8 2 (Request.Alloc 592 1 true) Answer.None
    ∷ Step.Call 8 2 (Request.Commit 1) Answer.None
    ∷ Step.Call 8 2 (Request.Alloc 5000 1 false) Answer.None
    ∷ Step.Call 8 2 (Request.Alloc 208 1 true) Answer.None
    ∷ Step.Call 8 2 (Request.Commit 2) Answer.None
    ∷ Step.Call 8 2 (Request.Alloc 600 1 false) Answer.None
    ∷ Step.Call 8 2 (Request.Read 4 208) (Answer.Content (replicate 4096 119))
    ∷ Step.Call 8 2 (Request.Log 0 4 208 ((90 ∷ []))) Answer.None
    ∷ Step.Call 8 2 (Request.Read 4 62) (Answer.Content (replicate 4096 51))
    ∷ Step.Call 8 2 (Request.Commit 4) Answer.None
    ∷ Step.Call 8 2 Request.Force Answer.None
    ∷ Step.Call 8 2 Request.Push Answer.None
    ∷ Step.Call 8 2 (Request.Roll 3) Answer.None
    ∷ Step.Call 8 2 (Request.Alloc 600 1 false) Answer.None
    ∷ Step.Call 8 2 (Request.Read 5 280) (Answer.Content (replicate 4096 51))
    ∷ Step.Call 8 2 (Request.Log 0 5 280 ((90 ∷ []))) Answer.None
    ∷ Step.Call 8 2 (Request.Commit 5) Answer.None
    ∷ Step.Call 8 2 Request.Force Answer.None
    ∷ Step.Call 8 2 Request.Push Answer.None
    ∷ Step.Call 8 2 (Request.Read 3 15) (Answer.Content ((3 ∷ 185 ∷ []) ++ replicate 4094 1))
    ∷ Step.Post (name 8 2 JobKind.Flush 1)
    ∷ Step.Call 8 2 (Request.Commit 3) Answer.None
    ∷ Step.Call 8 2 (Request.Alloc 5000 1 false) Answer.None
    ∷ Step.Post (name 8 2 JobKind.Ckpt 2)
    ∷ Step.Call 8 2 (Request.Alloc 1000 1 false) Answer.None
    ∷ Step.Call 8 2 (Request.Get 7 210) Answer.None
    ∷ Step.Take 4 (name 8 2 JobKind.Flush 1)
    ∷ Step.Flush 4 (name 8 2 JobKind.Flush 1) (record { count = 0; writes = (false ∷ false ∷ false ∷ false ∷ false ∷ false ∷ false ∷ false ∷ []); sync = false })
    ∷ Step.Take 1 (name 8 2 JobKind.Ckpt 2)
    ∷ []

abbrev list04_said : List Said
list04_said =
    told 8 (Reply.Life 1)
    ∷ told 8 (Reply.Trans 1)
    ∷ told 8 Reply.Okay
    ∷ told 8 Reply.Okay
    ∷ told 8 (Reply.Trans 2)
    ∷ told 8 Reply.Okay
    ∷ told 8 (Reply.Trans 3)
    ∷ told 8 (Reply.Trans 4)
    ∷ told 8 (Reply.Committed 0)
    ∷ told 8 (Reply.Refused Errno.Invalid)
    ∷ told 8 Reply.Okay
    ∷ told 8 (Reply.Trans 5)
    ∷ told 8 Reply.Free
    ∷ told 8 Reply.Done
    ∷ told 8 Reply.Okay
    ∷ told 8 (Reply.Trans 6)
    ∷ told 8 Reply.Done
    ∷ told 8 Reply.Okay
    ∷ told 8 (Reply.Refused Errno.Again)
    ∷ told 8 Reply.Done
    ∷ told 8 (Reply.Refused Errno.Invalid)
    ∷ told 8 Reply.Okay
    ∷ told 8 Reply.Okay
    ∷ told 8 Reply.Kept
    ∷ told 8 (Reply.Refused Errno.Invalid)
    ∷ told 8 Reply.Okay
    ∷ told 8 (Reply.Refused Errno.Invalid)
    ∷ told 8 (Reply.Refused Errno.NoSpace)
    ∷ told 8 (Reply.Data (replicate 4096 0))
    ∷ told 8 (Reply.Committed 1)
    ∷ told 8 (Reply.Refused Errno.Again)
    ∷ told 8 (Reply.Trans 7)
    ∷ told 8 (Reply.Refused Errno.NoSpace)
    ∷ told 8 Reply.Okay
    ∷ told 8 Reply.Okay
    ∷ told 8 (Reply.Refused Errno.Invalid)
    ∷ told 8 Reply.Kept
    ∷ told 8 Reply.Okay
    ∷ told 8 Reply.Okay
    ∷ told 8 Reply.Okay
    ∷ told 8 (Reply.Refused Errno.Io)
    ∷ told 8 (Reply.Refused Errno.Invalid)
    ∷ told 8 (Reply.Refused Errno.Io)
    ∷ told 8 (Reply.Refused Errno.Invalid)
    ∷ told 8 (Reply.Refused Errno.Io)
    ∷ told 8 (Reply.Refused Errno.Io)
    ∷ told 8 (Reply.Refused Errno.Busy)
    ∷ told 8 (Reply.Seen 1 (Some Reason.ForceUmount))
    ∷ told 8 Reply.Okay
    ∷ told 8 (Reply.Refused Errno.Io)
    ∷ told 8 (Reply.Seen 1 (Some Reason.ForceUmount))
    ∷ told 8 Reply.Okay
    ∷ told 8 (Reply.Refused Errno.Invalid)
    ∷ told 8 (Reply.Refused Errno.Invalid)
    ∷ told 8 (Reply.Refused Errno.Io)
    ∷ told 8 Reply.Okay
    ∷ told 8 Reply.Okay
    ∷ told 8 (Reply.Refused Errno.Io)
    ∷ told 8 (Reply.Refused Errno.Io)
    ∷ told 8 Reply.Okay
    ∷ told 8 (Reply.Refused Errno.Invalid)
    ∷ told 8 (Reply.Committed 0)
    ∷ told 8 (Reply.Refused Errno.Invalid)
    ∷ told 8 (Reply.Committed 0)
    ∷ told 8 (Reply.Refused Errno.Invalid)
    ∷ told 8 (Reply.Refused Errno.Invalid)
    ∷ told 8 Reply.Okay
    ∷ told 8 (Reply.Life 2)
    ∷ told 8 (Reply.Refused Errno.Invalid)
    ∷ told 8 (Reply.Refused Errno.Invalid)
    ∷ told 8 (Reply.Refused Errno.Invalid)
    ∷ told 8 (Reply.Trans 1)
    ∷ told 8 (Reply.Committed 0)
    ∷ told 8 (Reply.Trans 2)
    ∷ told 8 (Reply.Trans 3)
    ∷ told 8 (Reply.Committed 0)
    ∷ told 8 (Reply.Trans 4)
    ∷ told 8 Reply.Okay
    ∷ told 8 Reply.Okay
    ∷ told 8 Reply.Okay
    ∷ told 8 (Reply.Committed 1)
    ∷ told 8 (Reply.Wait 1)
    ∷ told 8 Reply.Okay
    ∷ told 8 (Reply.Committed 0)
    ∷ told 8 (Reply.Trans 5)
    ∷ told 8 Reply.Okay
    ∷ told 8 Reply.Okay
    ∷ told 8 (Reply.Committed 1)
    ∷ told 8 (Reply.Wait 1)
    ∷ told 8 Reply.Okay
    ∷ told 8 Reply.Okay
    ∷ told 8 Reply.Okay
    ∷ told 8 (Reply.Committed 0)
    ∷ told 8 (Reply.Trans 6)
    ∷ told 8 Reply.Okay
    ∷ told 8 (Reply.Trans 7)
    ∷ told 8 Reply.Okay
    ∷ told 8 Reply.Okay
    ∷ told 8 Reply.Nothing
    ∷ told 8 Reply.Okay
    ∷ []

list04 : alone_run list04_steps ≡ list04_said
unfolding chunks_where
list04 = refl

list04_order : in_order [] empty list04_steps ≡ true
unfolding chunks_where
list04_order = refl

-- ---- list05
abbrev list05_steps : List Step
list05_steps =
    Step.Mount 14 4294967295 18446744073709551615 None
    ∷ Step.Mount 14 70000 1099511627776 None
    ∷ Step.Call 14 1 (Request.Alloc 9000 1 false) Answer.None
    ∷ Step.Call 14 1 (Request.Read 1 265) (Answer.Content ((0 ∷ 0 ∷ []) ++ replicate 4094 238))
    ∷ Step.Call 14 1 (Request.Alloc 12367 2 true) Answer.None
    ∷ Step.Call 14 1 (Request.Relse 1 265) Answer.None
    ∷ Step.Call 14 1 (Request.Read 1 125) (Answer.Content (replicate 4 255 ++ (17 ∷ 17 ∷ []) ++ replicate 4 34 ++ replicate 4086 0))
    ∷ Step.Call 14 1 (Request.Commit 2) Answer.None
    ∷ Step.Call 14 1 (Request.Alloc 5000 1 true) Answer.None
    ∷ Step.Call 14 1 (Request.Relse 1 125) Answer.None
    ∷ Step.Call 14 1 (Request.Read 1 274) Answer.Failed
    ∷ Step.Call 14 1 (Request.Get 3 235) Answer.None
    ∷ Step.Call 14 1 Request.Force Answer.None
    ∷ Step.Call 14 1 (Request.Get 3 265) Answer.None
    ∷ Step.Call 14 1 (Request.Log 27 3 265 ((34 ∷ 255 ∷ []))) Answer.None
    ∷ Step.Call 14 1 (Request.Commit 3) Answer.None
    ∷ Step.Call 14 1 (Request.Get 1 265) Answer.None
    ∷ Step.Call 14 1 (Request.Log 512 1 265 (replicate 5 255 ++ (0 ∷ 0 ∷ []) ++ replicate 293 34)) Answer.None
    ∷ Step.Call 14 1 (Request.Inval 1 265) Answer.None
    ∷ Step.Call 14 1 (Request.Commit 1) Answer.None
    ∷ Step.Call 14 1 (Request.Get 1 265) Answer.None
    ∷ Step.Call 14 1 (Request.Log 972 1 265 ((17 ∷ 17 ∷ 17 ∷ []) ++ replicate 125 34)) Answer.None
    ∷ Step.Call 14 1 (Request.Commit 1) Answer.None
    ∷ Step.Call 14 1 (Request.Alloc 2000 2 true) Answer.None
    ∷ Step.Call 14 1 (Request.Alloc 4272 1 false) Answer.None
    ∷ Step.Show 14
    ∷ Step.Call 14 1 (Request.Read 5 125) Answer.None
    ∷ Step.Call 14 1 (Request.Log 1536 5 125 (replicate 4 17)) Answer.None
    ∷ Step.Call 14 1 (Request.Commit 4) Answer.None
    ∷ Step.Call 14 1 (Request.Read 5 74) (Answer.Content ((154 ∷ 81 ∷ 245 ∷ 238 ∷ 205 ∷ []) ++ replicate 4091 0))
    ∷ Step.Call 14 1 (Request.Commit 5) Answer.None
    ∷ Step.Call 14 1 (Request.Alloc 8384 1 true) Answer.None
    ∷ Step.Call 14 1 (Request.Alloc 8256 1 false) Answer.None
    ∷ Step.Call 14 1 (Request.Get 7 292) Answer.None
    ∷ Step.Call 14 1 (Request.Log 0 7 292 (replicate 4096 68)) Answer.None
    ∷ Step.Call 14 1 (Request.Get 7 13) Answer.None
    ∷ Step.Call 14 1 (Request.Log 0 7 13 (replicate 4096 55)) Answer.None
    ∷ Step.Call 14 1 (Request.Commit 7) Answer.None
    ∷ Step.Call 14 1 (Request.Join 6 74) Answer.None
    ∷ Step.Call 14 1 (Request.Commit 6) Answer.None
    ∷ Step.Call 14 1 (Request.Alloc 8256 1 false) Answer.None
    ∷ Step.Call 14 1 (Request.Get 8 74) Answer.None
    ∷ Step.Call 14 1 (Request.Alloc 4144 2 true) Answer.None
    ∷ Step.Call 14 1 (Request.ForceTo 18446744073709551615) Answer.None
    ∷ Step.Call 14 1 (Request.Relse 8 74) Answer.None
    ∷ Step.Call 14 1 (Request.Read 8 74) Answer.None
    ∷ Step.Call 14 1 (Request.Hold 8 74) Answer.None
    ∷ Step.Call 14 1 (Request.ForceTo 0) Answer.None
    ∷ Step.Call 14 1 (Request.Log 2816 8 74 (replicate 4 17 ++ (170 ∷ 170 ∷ 170 ∷ 255 ∷ 255 ∷ 255 ∷ []) ++ replicate 6 0 ++ replicate 5 17 ++ (34 ∷ 34 ∷ 34 ∷ 255 ∷ 255 ∷ 255 ∷ []) ++ replicate 4 34 ++ replicate 5 17 ++ replicate 5 34 ++ (170 ∷ 170 ∷ 170 ∷ []) ++ replicate 4 34 ++ (255 ∷ 255 ∷ 255 ∷ 34 ∷ []) ++ replicate 248 0)) Answer.None
    ∷ Step.Call 14 1 (Request.Log 1279 8 74 (replicate 7 0 ++ replicate 4 34 ++ replicate 4 255 ++ (170 ∷ 170 ∷ []) ++ replicate 15 34 ++ replicate 2785 0)) Answer.None
    ∷ Step.Call 14 1 (Request.Get 9 125) Answer.None
    ∷ Step.Call 14 1 (Request.Log 2792 9 125 ((33 ∷ 0 ∷ []))) Answer.None
    ∷ Step.Call 14 1 (Request.Inval 9 125) Answer.None
    ∷ Step.Call 14 1 (Request.Unhold 9 125) Answer.None
    ∷ Step.Call 14 1 (Request.Inval 9 125) Answer.None
    ∷ Step.Call 14 1 (Request.Hold 9 125) Answer.None
    ∷ Step.Call 14 1 (Request.Commit 9) Answer.None
    ∷ Step.Call 14 1 (Request.Get 8 125) Answer.None
    ∷ Step.Call 14 1 (Request.Read 8 125) Answer.None
    ∷ Step.Call 14 1 (Request.Alloc 12368 2 true) Answer.None
    ∷ Step.Call 14 1 (Request.Commit 8) Answer.None
    ∷ Step.Post (name 14 1 JobKind.Ckpt 1)
    ∷ Step.Take 2 (name 14 1 JobKind.Ckpt 1)
    ∷ Step.Begin 2 (name 14 1 JobKind.Ckpt 1)
    ∷ Step.Call 14 1 (Request.Alloc 20592 1 false) Answer.None
    ∷ Step.End 2 (name 14 1 JobKind.Ckpt 1) (record { taken = 3; sync = Some true })
    ∷ Step.Call 14 1 (Request.Get 11 126) Answer.None
    ∷ Step.Call 14 1 (Request.Log 0 11 126 (replicate 4096 95)) Answer.None
    ∷ Step.Call 14 1 (Request.Get 11 1099511627775) Answer.None
    ∷ Step.Call 14 1 (Request.Log 0 11 1099511627775 (replicate 4096 144)) Answer.None
    ∷ Step.Call 14 1 (Request.Get 11 172) Answer.None
    ∷ Step.Call 14 1 Request.Push Answer.None
    ∷ Step.Post (name 14 1 JobKind.Flush 2)
    ∷ Step.Take 3 (name 14 1 JobKind.Flush 2)
    ∷ Step.Flush 3 (name 14 1 JobKind.Flush 2) (record { count = 2; writes = (true ∷ true ∷ false ∷ false ∷ false ∷ false ∷ false ∷ false ∷ []); sync = true })
    ∷ Step.Call 14 1 (Request.Log 0 11 172 (replicate 4096 102)) Answer.None
    ∷ Step.Call 14 1 (Request.Get 11 292) Answer.None
    ∷ Step.Call 14 1 (Request.Log 0 11 292 (replicate 4096 44)) Answer.None
    ∷ Step.Call 14 1 (Request.Log 877 11 126 ((89 ∷ []))) Answer.None
    ∷ Step.Call 14 1 (Request.Get 11 13) Answer.None
    ∷ Step.Call 14 1 (Request.Log 0 11 13 (replicate 4096 233)) Answer.None
    ∷ Step.Call 14 1 (Request.Commit 11) Answer.None
    ∷ Step.Call 14 1 (Request.Alloc 4294967295 4294967295 true) Answer.None
    ∷ Step.Call 14 1 (Request.Alloc 12496 2 true) Answer.None
    ∷ Step.Post (name 14 1 JobKind.Ckpt 3)
    ∷ Step.Call 14 1 (Request.Alloc 12368 1 false) Answer.None
    ∷ Step.Call 14 1 (Request.Get 12 8589934592) Answer.None
    ∷ Step.Take 7 (name 14 1 JobKind.Ckpt 3)
    ∷ Step.Call 14 2 (Request.Get 1 1) Answer.None
    ∷ Step.Begin 7 (name 14 1 JobKind.Ckpt 3)
    ∷ Step.End 7 (name 14 1 JobKind.Ckpt 3) (record { taken = 6; sync = Some false })
    ∷ Step.Show 14
    ∷ Step.Call 14 1 (Request.Log 0 12 8589934592 (replicate 4096 187)) Answer.None
    ∷ Step.Call 14 1 (Request.Relse 12 8589934592) Answer.None
    ∷ Step.Call 14 1 (Request.Relse 12 8589934592) Answer.None
    ∷ Step.Peek 14
    ∷ Step.Call 14 1 (Request.Cancel 10) Answer.None
    ∷ Step.Call 14 1 (Request.Alloc 8256 1 false) Answer.None
    ∷ Step.Call 14 1 (Request.Alloc 9000 8 true) Answer.None
    ∷ Step.Call 14 1 (Request.Relse 12 8589934592) Answer.None
    ∷ []

abbrev list05_said : List Said
list05_said =
    told 14 (Reply.Refused Errno.Invalid)
    ∷ told 14 (Reply.Life 1)
    ∷ told 14 (Reply.Trans 1)
    ∷ told 14 Reply.Okay
    ∷ told 14 (Reply.Trans 2)
    ∷ told 14 Reply.Free
    ∷ told 14 Reply.Okay
    ∷ told 14 (Reply.Committed 0)
    ∷ told 14 (Reply.Trans 3)
    ∷ told 14 Reply.Free
    ∷ told 14 (Reply.Refused Errno.Io)
    ∷ told 14 Reply.Okay
    ∷ told 14 Reply.Done
    ∷ told 14 Reply.Okay
    ∷ told 14 Reply.Okay
    ∷ told 14 (Reply.Committed 1)
    ∷ told 14 Reply.Okay
    ∷ told 14 Reply.Okay
    ∷ told 14 Reply.Okay
    ∷ told 14 (Reply.Committed 1)
    ∷ told 14 (Reply.Refused Errno.Invalid)
    ∷ told 14 (Reply.Refused Errno.Invalid)
    ∷ told 14 (Reply.Refused Errno.Invalid)
    ∷ told 14 (Reply.Trans 4)
    ∷ told 14 (Reply.Trans 5)
    ∷ told 14 Reply.Okay
    ∷ told 14 Reply.Okay
    ∷ told 14 Reply.Okay
    ∷ told 14 (Reply.Committed 0)
    ∷ told 14 Reply.Okay
    ∷ told 14 (Reply.Committed 1)
    ∷ told 14 (Reply.Trans 6)
    ∷ told 14 (Reply.Trans 7)
    ∷ told 14 Reply.Okay
    ∷ told 14 Reply.Okay
    ∷ told 14 Reply.Okay
    ∷ told 14 Reply.Okay
    ∷ told 14 (Reply.Committed 1)
    ∷ told 14 (Reply.Refused Errno.Invalid)
    ∷ told 14 (Reply.Committed 0)
    ∷ told 14 (Reply.Trans 8)
    ∷ told 14 Reply.Okay
    ∷ told 14 (Reply.Trans 9)
    ∷ told 14 (Reply.Refused Errno.Invalid)
    ∷ told 14 Reply.Free
    ∷ told 14 Reply.Okay
    ∷ told 14 Reply.Okay
    ∷ told 14 (Reply.Refused Errno.Invalid)
    ∷ told 14 Reply.Okay
    ∷ told 14 Reply.Okay
    ∷ told 14 Reply.Okay
    ∷ told 14 Reply.Okay
    ∷ told 14 Reply.Okay
    ∷ told 14 (Reply.Refused Errno.Invalid)
    ∷ told 14 Reply.Okay
    ∷ told 14 (Reply.Refused Errno.Invalid)
    ∷ told 14 (Reply.Committed 1)
    ∷ told 14 (Reply.Refused Errno.Again)
    ∷ told 14 (Reply.Refused Errno.Again)
    ∷ told 14 (Reply.Trans 10)
    ∷ told 14 (Reply.CommittedHeld 1 (74 ∷ []))
    ∷ told 14 Reply.Okay
    ∷ told 14 Reply.Okay
    ∷ told 14 (Reply.Begun 1 3)
    ∷ told 14 (Reply.Trans 11)
    ∷ said 14 (Reply.Landed 1) (LogOffer.Piece ((88 ∷ 67 ∷ 80 ∷ 49 ∷ []) ++ replicate 7 0 ++ (1 ∷ 0 ∷ 0 ∷ 0 ∷ 5 ∷ []) ++ replicate 7 0 ++ (13 ∷ []) ++ replicate 4 255 ++ replicate 4 0 ++ replicate 4064 55) true ∷ LogOffer.Piece (replicate 32 55 ++ replicate 7 0 ++ (74 ∷ 255 ∷ 255 ∷ 254 ∷ []) ++ replicate 139 0 ++ replicate 4 34 ++ replicate 4 255 ++ (170 ∷ 170 ∷ []) ++ replicate 15 34 ++ replicate 2792 0 ++ (125 ∷ []) ++ replicate 7 0 ++ (1 ∷ []) ++ replicate 6 0 ++ (1 ∷ 9 ∷ []) ++ replicate 7 0 ++ (1 ∷ []) ++ replicate 6 0 ++ (1 ∷ 36 ∷ []) ++ replicate 4 255 ++ replicate 4 0 ++ replicate 1056 68) true ∷ LogOffer.Piece (replicate 3040 68 ++ (88 ∷ 67 ∷ 69 ∷ 49 ∷ 0 ∷ 0 ∷ 0 ∷ 5 ∷ []) ++ replicate 7 0 ++ (1 ∷ [])) true ∷ LogOffer.Sync true ∷ []) []
    ∷ told 14 Reply.Okay
    ∷ told 14 Reply.Okay
    ∷ told 14 Reply.Okay
    ∷ told 14 Reply.Okay
    ∷ told 14 Reply.Okay
    ∷ told 14 Reply.Okay
    ∷ told 14 Reply.Okay
    ∷ told 14 Reply.Okay
    ∷ said 14 (Reply.Flushed 2) [] (HomeOffer.Write 13 (replicate 4096 55) true ∷ HomeOffer.Write 292 (replicate 4096 68) true ∷ HomeOffer.Sync true ∷ [])
    ∷ told 14 Reply.Okay
    ∷ told 14 Reply.Okay
    ∷ told 14 Reply.Okay
    ∷ told 14 Reply.Okay
    ∷ told 14 Reply.Okay
    ∷ told 14 Reply.Okay
    ∷ told 14 (Reply.Committed 2)
    ∷ told 14 (Reply.Refused Errno.Invalid)
    ∷ told 14 (Reply.Refused Errno.Again)
    ∷ told 14 Reply.Okay
    ∷ told 14 (Reply.Trans 12)
    ∷ told 14 Reply.Okay
    ∷ told 14 Reply.Okay
    ∷ told 14 (Reply.Refused Errno.Stale)
    ∷ told 14 (Reply.Begun 2 6)
    ∷ said 14 (Reply.Failed 2) (LogOffer.Piece ((88 ∷ 67 ∷ 80 ∷ 49 ∷ []) ++ replicate 7 0 ++ (2 ∷ 0 ∷ 0 ∷ 0 ∷ 5 ∷ []) ++ replicate 7 0 ++ (13 ∷ []) ++ replicate 4 255 ++ replicate 4 0 ++ replicate 4064 233) true ∷ LogOffer.Piece (replicate 32 233 ++ replicate 7 0 ++ (126 ∷ []) ++ replicate 4 255 ++ replicate 4 0 ++ replicate 877 95 ++ (89 ∷ []) ++ replicate 3170 95) true ∷ LogOffer.Piece (replicate 48 95 ++ replicate 7 0 ++ (172 ∷ []) ++ replicate 4 255 ++ replicate 4 0 ++ replicate 4032 102) true ∷ LogOffer.Piece (replicate 64 102 ++ replicate 6 0 ++ (1 ∷ 36 ∷ []) ++ replicate 4 255 ++ replicate 4 0 ++ replicate 4016 44) true ∷ LogOffer.Piece (replicate 80 44 ++ (0 ∷ 0 ∷ 0 ∷ []) ++ replicate 9 255 ++ replicate 4 0 ++ replicate 4000 144) true ∷ LogOffer.Piece (replicate 96 144 ++ (88 ∷ 67 ∷ 69 ∷ 49 ∷ 0 ∷ 0 ∷ 0 ∷ 5 ∷ []) ++ replicate 7 0 ++ (2 ∷ [])) true ∷ LogOffer.Sync false ∷ []) []
    ∷ told 14 Reply.Okay
    ∷ told 14 Reply.Okay
    ∷ told 14 Reply.Kept
    ∷ told 14 Reply.Kept
    ∷ told 14 (Reply.Seen 1 (Some Reason.LogIoError))
    ∷ told 14 Reply.Okay
    ∷ told 14 (Reply.Refused Errno.Io)
    ∷ told 14 (Reply.Refused Errno.Invalid)
    ∷ told 14 Reply.Kept
    ∷ []

list05 : alone_run list05_steps ≡ list05_said
unfolding chunks_where
list05 = refl

list05_order : in_order [] empty list05_steps ≡ true
unfolding chunks_where
list05_order = refl

-- ---- list06
abbrev list06_steps : List Step
list06_steps =
    Step.Mount 15 66000 1024 None
    ∷ Step.Call 15 1 (Request.Alloc 191 2 true) Answer.None
    ∷ Step.Call 15 1 (Request.Read 1 18) (Answer.Content (replicate 4096 85))
    ∷ Step.Call 15 1 (Request.Alloc 5000 1 true) Answer.None
    ∷ Step.Call 15 1 (Request.Log 255 1 89 ((135 ∷ 105 ∷ []))) Answer.None
    ∷ Step.Call 15 1 (Request.Log 1407 1 18 ((255 ∷ []) ++ replicate 2688 170)) Answer.None
    ∷ Step.Call 15 1 (Request.Read 1 92) (Answer.Content (replicate 4096 68))
    ∷ Step.Call 15 1 Request.Force Answer.None
    ∷ Step.Call 15 1 (Request.Get 2 79) Answer.None
    ∷ Step.Call 15 1 (Request.Log 0 2 79 (replicate 4096 170)) Answer.None
    ∷ Step.Call 15 1 (Request.Commit 2) Answer.None
    ∷ Step.Call 15 1 (Request.Get 1 79) Answer.None
    ∷ Step.Call 15 1 (Request.Log 0 1 79 (replicate 4096 1)) Answer.None
    ∷ Step.Call 15 1 (Request.Commit 1) Answer.None
    ∷ Step.Call 15 1 (Request.Get 2 79) Answer.None
    ∷ Step.Call 15 1 (Request.Log 1100 2 79 (replicate 4 255)) Answer.None
    ∷ Step.Call 15 1 (Request.Alloc 176 1 true) Answer.None
    ∷ Step.Call 15 1 (Request.Inval 2 79) Answer.None
    ∷ Step.Call 15 1 (Request.Commit 2) Answer.None
    ∷ Step.Call 15 1 (Request.Get 3 92) Answer.None
    ∷ Step.Call 15 1 (Request.Log 746 3 92 ((0 ∷ 0 ∷ 0 ∷ 255 ∷ 17 ∷ 17 ∷ 17 ∷ 255 ∷ 255 ∷ 255 ∷ []) ++ replicate 6 0 ++ replicate 9 170 ++ (0 ∷ 0 ∷ 0 ∷ 170 ∷ 17 ∷ 17 ∷ []) ++ replicate 4 255 ++ replicate 265 0)) Answer.None
    ∷ Step.Call 15 1 (Request.Hold 3 92) Answer.None
    ∷ Step.Call 15 1 (Request.Log 3072 3 92 ((0 ∷ []))) Answer.None
    ∷ Step.Call 15 1 (Request.Alloc 1 1 false) Answer.None
    ∷ Step.Call 15 1 (Request.Read 4 53) (Answer.Content (replicate 4096 51))
    ∷ Step.Call 15 1 (Request.Read 4 60) (Answer.Content (replicate 4096 102))
    ∷ Step.Call 15 1 (Request.Read 4 40) (Answer.Content (replicate 5 17 ++ replicate 4091 238))
    ∷ Step.Call 15 1 (Request.Read 4 52) (Answer.Content ((170 ∷ []) ++ replicate 4095 238))
    ∷ Step.Call 15 1 (Request.Read 4 55) (Answer.Content ((170 ∷ []) ++ replicate 4095 0))
    ∷ Step.Call 15 1 (Request.Cancel 4) Answer.None
    ∷ Step.Call 15 1 (Request.Alloc 1 1 false) Answer.None
    ∷ Step.Call 15 1 (Request.Read 5 58) (Answer.Content (replicate 4096 85))
    ∷ Step.Call 15 1 (Request.Read 5 61) (Answer.Content ((163 ∷ 91 ∷ 128 ∷ 144 ∷ 251 ∷ []) ++ replicate 4091 238))
    ∷ Step.Call 15 1 (Request.Read 5 30) (Answer.Content (replicate 5 170 ++ replicate 4091 238))
    ∷ Step.Call 15 1 (Request.Read 5 44) (Answer.Content (replicate 4096 85))
    ∷ Step.Call 15 1 (Request.Read 5 11) (Answer.Content (replicate 4096 0))
    ∷ Step.Call 15 1 (Request.Read 5 4) (Answer.Content (replicate 4096 0))
    ∷ Step.Call 15 1 (Request.Read 5 63) (Answer.Content (replicate 4096 68))
    ∷ Step.Call 15 1 (Request.Read 5 15) (Answer.Content ((170 ∷ 170 ∷ 170 ∷ 0 ∷ []) ++ replicate 5 34 ++ replicate 4 17 ++ replicate 4 170 ++ replicate 5 17 ++ (0 ∷ 0 ∷ 0 ∷ 170 ∷ 0 ∷ 0 ∷ 34 ∷ 170 ∷ 170 ∷ 170 ∷ []) ++ replicate 9 0 ++ (170 ∷ 170 ∷ 34 ∷ []) ++ replicate 5 17 ++ replicate 4 34 ++ replicate 5 0 ++ replicate 4 170 ++ (17 ∷ 170 ∷ 17 ∷ []) ++ replicate 4 255 ++ (167 ∷ 102 ∷ 167 ∷ 112 ∷ 163 ∷ 148 ∷ 184 ∷ 40 ∷ 135 ∷ 28 ∷ 200 ∷ 40 ∷ 26 ∷ 183 ∷ 241 ∷ 178 ∷ 81 ∷ 197 ∷ 69 ∷ 123 ∷ 32 ∷ 243 ∷ 120 ∷ 115 ∷ 187 ∷ 229 ∷ 98 ∷ 74 ∷ 62 ∷ 155 ∷ 201 ∷ 36 ∷ 95 ∷ 26 ∷ 240 ∷ 242 ∷ 98 ∷ 199 ∷ 126 ∷ 39 ∷ 29 ∷ 27 ∷ 106 ∷ 113 ∷ 233 ∷ 201 ∷ 46 ∷ 255 ∷ 211 ∷ 3 ∷ 239 ∷ 64 ∷ 137 ∷ 176 ∷ 221 ∷ 185 ∷ 19 ∷ 7 ∷ 223 ∷ 139 ∷ 63 ∷ []) ++ replicate 3966 238))
    ∷ Step.Call 15 1 (Request.Read 5 20) (Answer.Content ((55 ∷ []) ++ replicate 4095 238))
    ∷ Step.Call 15 1 (Request.Cancel 5) Answer.None
    ∷ Step.Call 15 1 (Request.Alloc 1 1 false) Answer.None
    ∷ Step.Call 15 1 (Request.Read 6 22) (Answer.Content (replicate 4096 0))
    ∷ Step.Call 15 1 (Request.Read 6 38) (Answer.Content (replicate 4096 51))
    ∷ Step.Call 15 1 (Request.Read 6 18) Answer.None
    ∷ Step.Call 15 1 (Request.Read 6 33) (Answer.Content ((170 ∷ 170 ∷ 170 ∷ 0 ∷ 0 ∷ []) ++ replicate 4 34 ++ (0 ∷ 0 ∷ 170 ∷ []) ++ replicate 4084 0))
    ∷ Step.Call 15 1 (Request.Read 6 65) (Answer.Content ((196 ∷ []) ++ replicate 4095 238))
    ∷ Step.Call 15 1 (Request.Read 6 69) (Answer.Content (replicate 4096 51))
    ∷ Step.Call 15 1 (Request.Read 6 41) (Answer.Content (replicate 4096 68))
    ∷ Step.Call 15 1 (Request.Read 6 43) (Answer.Content (replicate 4096 119))
    ∷ Step.Call 15 1 (Request.Read 6 47) (Answer.Content (replicate 5 34 ++ replicate 4091 1))
    ∷ Step.Call 15 1 (Request.Commit 6) Answer.None
    ∷ Step.Call 15 1 (Request.Alloc 1 1 false) Answer.None
    ∷ Step.Call 15 1 (Request.Read 7 54) (Answer.Content (replicate 4096 0))
    ∷ Step.Call 15 1 (Request.Relse 7 54) Answer.None
    ∷ Step.Call 15 1 (Request.Read 7 26) (Answer.Content (replicate 4096 51))
    ∷ Step.Call 15 1 (Request.Read 7 39) (Answer.Content (replicate 4096 51))
    ∷ Step.Call 15 1 (Request.Read 7 50) (Answer.Content (replicate 4 17 ++ replicate 126 34 ++ replicate 3966 1))
    ∷ Step.Call 15 1 (Request.Read 7 45) (Answer.Content (replicate 4096 119))
    ∷ Step.Call 15 1 (Request.Commit 7) Answer.None
    ∷ Step.Call 15 1 (Request.Alloc 1 1 false) Answer.None
    ∷ Step.Call 15 1 (Request.Read 8 56) (Answer.Content (replicate 4096 85))
    ∷ Step.Call 15 1 (Request.Read 8 16) (Answer.Content (replicate 4096 102))
    ∷ Step.Call 15 1 (Request.Read 8 19) Answer.Failed
    ∷ Step.Call 15 1 (Request.Read 8 67) Answer.Failed
    ∷ Step.Call 15 1 (Request.Read 8 70) (Answer.Content (replicate 4096 85))
    ∷ Step.Call 15 1 (Request.Commit 8) Answer.None
    ∷ Step.Call 15 1 (Request.Alloc 1 1 false) Answer.None
    ∷ Step.Call 15 1 (Request.Read 9 31) (Answer.Content ((193 ∷ 66 ∷ []) ++ replicate 4094 0))
    ∷ Step.Call 15 1 (Request.Read 9 66) (Answer.Content (replicate 4096 51))
    ∷ Step.Call 15 1 (Request.Read 9 28) (Answer.Content (replicate 4096 102))
    ∷ Step.Call 15 1 (Request.Read 9 7) (Answer.Content (replicate 4096 85))
    ∷ Step.Call 15 1 (Request.Read 9 37) (Answer.Content (replicate 300 255 ++ replicate 3796 0))
    ∷ Step.Call 15 1 (Request.Read 9 57) (Answer.Content ((34 ∷ 34 ∷ []) ++ replicate 4094 1))
    ∷ Step.Call 15 1 (Request.Read 9 34) Answer.Failed
    ∷ Step.Call 15 1 (Request.Read 9 64) (Answer.Content ((17 ∷ []) ++ replicate 4095 0))
    ∷ Step.Call 15 1 (Request.Read 9 13) (Answer.Content (replicate 4 255 ++ (170 ∷ 170 ∷ 170 ∷ []) ++ replicate 123 34 ++ replicate 3966 1))
    ∷ Step.Call 15 1 (Request.Read 9 62) (Answer.Content (replicate 4096 68))
    ∷ Step.Call 15 1 (Request.Read 9 32) (Answer.Content (replicate 4096 119))
    ∷ Step.Call 15 1 (Request.Read 9 24) (Answer.Content (replicate 4096 68))
    ∷ Step.Call 15 1 (Request.Read 9 27) (Answer.Content (replicate 4096 68))
    ∷ Step.Call 15 1 (Request.Read 9 17) (Answer.Content (replicate 4096 85))
    ∷ Step.Call 15 1 (Request.Cancel 9) Answer.None
    ∷ Step.Call 15 1 (Request.Alloc 1 1 false) Answer.None
    ∷ Step.Call 15 1 (Request.Read 10 1) (Answer.Content (replicate 4096 51))
    ∷ Step.Call 15 1 (Request.Read 10 25) (Answer.Content (replicate 4096 0))
    ∷ Step.Call 15 1 (Request.Read 10 48) (Answer.Content ((255 ∷ []) ++ replicate 4095 238))
    ∷ Step.Call 15 1 (Request.Read 10 21) (Answer.Content (replicate 4096 85))
    ∷ Step.Call 15 1 (Request.Read 10 68) Answer.Failed
    ∷ Step.Call 15 1 (Request.Read 10 49) (Answer.Content (replicate 4096 51))
    ∷ Step.Call 15 1 (Request.Read 10 46) (Answer.Content (replicate 4096 102))
    ∷ Step.Call 15 1 (Request.Read 10 35) (Answer.Content (replicate 4096 85))
    ∷ Step.Call 15 1 (Request.Read 10 9) (Answer.Content (replicate 4096 68))
    ∷ Step.Call 15 1 (Request.Commit 10) Answer.None
    ∷ Step.Call 15 1 (Request.Alloc 1 1 false) Answer.None
    ∷ Step.Call 15 1 (Request.Read 11 14) (Answer.Content (replicate 4096 102))
    ∷ Step.Call 15 1 (Request.Read 11 0) (Answer.Content ((170 ∷ 170 ∷ []) ++ replicate 4094 0))
    ∷ Step.Call 15 1 (Request.Read 11 42) (Answer.Content (replicate 4096 68))
    ∷ Step.Call 15 1 (Request.Read 11 5) (Answer.Content ((101 ∷ 213 ∷ []) ++ replicate 4094 0))
    ∷ Step.Call 15 1 (Request.Hold 3 92) Answer.None
    ∷ []

abbrev list06_said : List Said
list06_said =
    told 15 (Reply.Life 1)
    ∷ told 15 (Reply.Trans 1)
    ∷ told 15 Reply.Okay
    ∷ told 15 (Reply.Trans 2)
    ∷ told 15 (Reply.Refused Errno.Invalid)
    ∷ told 15 (Reply.Refused Errno.NoSpace)
    ∷ told 15 Reply.Okay
    ∷ told 15 Reply.Done
    ∷ told 15 Reply.Okay
    ∷ told 15 Reply.Okay
    ∷ told 15 (Reply.Committed 1)
    ∷ told 15 Reply.Okay
    ∷ told 15 (Reply.Refused Errno.NoSpace)
    ∷ told 15 (Reply.Committed 0)
    ∷ told 15 (Reply.Refused Errno.Invalid)
    ∷ told 15 (Reply.Refused Errno.Invalid)
    ∷ told 15 (Reply.Trans 3)
    ∷ told 15 (Reply.Refused Errno.Invalid)
    ∷ told 15 (Reply.Refused Errno.Invalid)
    ∷ told 15 Reply.Okay
    ∷ told 15 (Reply.Refused Errno.NoSpace)
    ∷ told 15 Reply.Okay
    ∷ told 15 Reply.Okay
    ∷ told 15 (Reply.Trans 4)
    ∷ told 15 Reply.Okay
    ∷ told 15 Reply.Okay
    ∷ told 15 Reply.Okay
    ∷ told 15 Reply.Okay
    ∷ told 15 Reply.Okay
    ∷ told 15 Reply.Okay
    ∷ told 15 (Reply.Trans 5)
    ∷ told 15 Reply.Okay
    ∷ told 15 Reply.Okay
    ∷ told 15 Reply.Okay
    ∷ told 15 Reply.Okay
    ∷ told 15 Reply.Okay
    ∷ told 15 Reply.Okay
    ∷ told 15 Reply.Okay
    ∷ told 15 Reply.Okay
    ∷ told 15 Reply.Okay
    ∷ told 15 Reply.Okay
    ∷ told 15 (Reply.Trans 6)
    ∷ told 15 Reply.Okay
    ∷ told 15 Reply.Okay
    ∷ told 15 Reply.Okay
    ∷ told 15 Reply.Okay
    ∷ told 15 Reply.Okay
    ∷ told 15 Reply.Okay
    ∷ told 15 Reply.Okay
    ∷ told 15 Reply.Okay
    ∷ told 15 Reply.Okay
    ∷ told 15 (Reply.Committed 0)
    ∷ told 15 (Reply.Trans 7)
    ∷ told 15 Reply.Okay
    ∷ told 15 Reply.Free
    ∷ told 15 Reply.Okay
    ∷ told 15 Reply.Okay
    ∷ told 15 Reply.Okay
    ∷ told 15 Reply.Okay
    ∷ told 15 (Reply.Committed 0)
    ∷ told 15 (Reply.Trans 8)
    ∷ told 15 Reply.Okay
    ∷ told 15 Reply.Okay
    ∷ told 15 (Reply.Refused Errno.Io)
    ∷ told 15 (Reply.Refused Errno.Io)
    ∷ told 15 Reply.Okay
    ∷ told 15 (Reply.Committed 0)
    ∷ told 15 (Reply.Trans 9)
    ∷ told 15 Reply.Okay
    ∷ told 15 Reply.Okay
    ∷ told 15 Reply.Okay
    ∷ told 15 Reply.Okay
    ∷ told 15 Reply.Okay
    ∷ told 15 Reply.Okay
    ∷ told 15 (Reply.Refused Errno.Io)
    ∷ told 15 Reply.Okay
    ∷ told 15 Reply.Okay
    ∷ told 15 Reply.Okay
    ∷ told 15 Reply.Okay
    ∷ told 15 Reply.Okay
    ∷ told 15 Reply.Okay
    ∷ told 15 Reply.Okay
    ∷ told 15 Reply.Okay
    ∷ told 15 (Reply.Trans 10)
    ∷ told 15 Reply.Okay
    ∷ told 15 Reply.Okay
    ∷ told 15 Reply.Okay
    ∷ told 15 Reply.Okay
    ∷ told 15 (Reply.Refused Errno.Io)
    ∷ told 15 Reply.Okay
    ∷ told 15 Reply.Okay
    ∷ told 15 Reply.Okay
    ∷ told 15 Reply.Okay
    ∷ told 15 (Reply.Committed 0)
    ∷ told 15 (Reply.Trans 11)
    ∷ told 15 Reply.Okay
    ∷ told 15 Reply.Okay
    ∷ told 15 Reply.Okay
    ∷ told 15 Reply.Okay
    ∷ told 15 Reply.Okay
    ∷ []

list06 : alone_run list06_steps ≡ list06_said
unfolding chunks_where
list06 = refl

list06_order : in_order [] empty list06_steps ≡ true
unfolding chunks_where
list06_order = refl
