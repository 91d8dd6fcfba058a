-- Scripts computed over the definitions: what each step of the mount alone says, and that the list is orderly.
-- Made by tools/row-theorems from the files of rows/.
use Rattle.std.proofs.Common.{◌≡◌, ℕ, List, [], ◌∷◌, ◌++◌, Some, None, true, false, refl}
use Rattle.std.specs.Prelude.{replicate}
use Rattle.xt_base.specs.Alone.{Said, alone_run}
use Rattle.xt_base.specs.Chunks.{chunks_where}
use Rattle.xt_base.specs.Order.{in_order}
use Rattle.xt_base.specs.State.{empty}
use Rattle.xt_base.specs.declared.names.JobKind.{JobKind}
use Rattle.xt_base.specs.declared.names.JobName.{JobName}
use Rattle.xt_base.specs.declared.steps.Answer.TheVariants as Answer
use Rattle.xt_base.specs.declared.steps.Errno.TheVariants as Errno
use Rattle.xt_base.specs.declared.steps.HomeOffer.{HomeOffer}
use Rattle.xt_base.specs.declared.steps.LogOffer.{LogOffer}
use Rattle.xt_base.specs.declared.steps.Reply.{Reply}
use Rattle.xt_base.specs.declared.steps.Request.TheVariants as Request
use Rattle.xt_base.specs.declared.steps.Step.{Step}

-- the name of a job
abbrev name : ℕ → ℕ → JobKind → ℕ → JobName
name slot life kind serial = record { slot = slot; life = life; kind = kind; serial = serial }

-- a reply with offers, and one without
abbrev said : ℕ → Reply → List LogOffer → List HomeOffer → Said
said slot reply log home = record { slot = slot; reply = reply; log = log; home = home }

abbrev told : ℕ → Reply → Said
told slot reply = said slot reply [] []

-- ---- list01
abbrev list01_steps : List Step
list01_steps =
    Step.Mount 4 65536 1099511627776 None
    ∷ Step.Call 4 1 (Request.Alloc 65537 1 true) Answer.None
    ∷ Step.Call 4 1 (Request.Alloc 976 2 true) Answer.None
    ∷ Step.Call 4 1 (Request.Commit 1) Answer.None
    ∷ Step.Call 4 1 (Request.Alloc 832 3 true) Answer.None
    ∷ Step.Call 4 1 (Request.Alloc 688 1 false) Answer.None
    ∷ Step.Call 4 1 (Request.Log 2058 3 8589934592 ((0 ∷ []))) Answer.None
    ∷ Step.Call 4 1 (Request.Log 2047 2 69 ((170 ∷ 170 ∷ []))) Answer.None
    ∷ Step.Call 4 1 (Request.Read 3 1099511627775) (Answer.Content ((121 ∷ []) ++ replicate 4095 1))
    ∷ Step.Call 4 1 (Request.Commit 3) Answer.None
    ∷ Step.Call 4 1 Request.Force Answer.None
    ∷ Step.Call 4 1 (Request.Alloc 944 2 true) Answer.None
    ∷ Step.Call 4 1 (Request.Commit 4) Answer.None
    ∷ Step.Call 4 1 (Request.Roll 2) Answer.None
    ∷ Step.Call 4 1 (Request.Alloc 8256 1 false) Answer.None
    ∷ Step.Call 4 1 (Request.Commit 5) Answer.None
    ∷ Step.Call 4 1 (Request.Get 5 230) Answer.None
    ∷ Step.Call 4 1 (Request.Log 0 5 230 (replicate 4096 6)) Answer.None
    ∷ Step.Call 4 1 (Request.Get 5 8589934592) Answer.None
    ∷ Step.Call 4 1 (Request.Log 0 5 8589934592 (replicate 4096 12)) Answer.None
    ∷ Step.Call 4 1 (Request.Commit 5) Answer.None
    ∷ Step.Call 4 1 (Request.Read 2 28) (Answer.Content ((14 ∷ []) ++ replicate 4095 0))
    ∷ Step.Call 4 1 (Request.Log 3327 2 28 ((170 ∷ 170 ∷ 170 ∷ 0 ∷ []) ++ replicate 4 17 ++ (255 ∷ []) ++ replicate 5 0 ++ (255 ∷ 255 ∷ 17 ∷ 17 ∷ 17 ∷ []) ++ replicate 4 170 ++ replicate 4 34 ++ replicate 742 255)) Answer.None
    ∷ Step.Call 4 1 (Request.Alloc 192 1 true) Answer.None
    ∷ Step.Call 4 1 (Request.Log 1536 2 28 ((123 ∷ 222 ∷ []))) Answer.None
    ∷ Step.Call 4 1 (Request.Log 357 2 28 (replicate 300 170)) Answer.None
    ∷ Step.Call 4 1 (Request.Inval 2 28) Answer.None
    ∷ Step.Call 4 1 (Request.Read 2 1099511627775) Answer.None
    ∷ Step.Call 4 1 (Request.Log 1408 2 106 ((34 ∷ 34 ∷ 0 ∷ 170 ∷ 170 ∷ 0 ∷ 0 ∷ []) ++ replicate 121 34)) Answer.None
    ∷ Step.Call 4 1 (Request.Alloc 63681 1 false) Answer.None
    ∷ Step.Post (name 4 1 JobKind.Flush 1)
    ∷ Step.Call 4 1 (Request.Commit 2) Answer.None
    ∷ Step.Call 4 1 (Request.Read 6 1099511627775) Answer.None
    ∷ Step.Call 4 1 (Request.Join 6 69) Answer.None
    ∷ Step.Call 4 1 (Request.Commit 6) Answer.None
    ∷ Step.Call 4 1 (Request.Alloc 1000 3 true) Answer.None
    ∷ Step.Take 5 (name 4 1 JobKind.Flush 1)
    ∷ Step.Call 4 1 (Request.Alloc 5000 1 false) Answer.None
    ∷ Step.Flush 5 (name 4 1 JobKind.Flush 1) (record { count = 0; writes = (false ∷ false ∷ false ∷ false ∷ false ∷ false ∷ false ∷ false ∷ []); sync = false })
    ∷ Step.Call 4 1 (Request.Get 8 186) Answer.None
    ∷ Step.Call 4 1 (Request.Log 1721 8 186 ((138 ∷ []))) Answer.None
    ∷ Step.Call 4 1 (Request.ForceTo 1) Answer.None
    ∷ Step.Post (name 4 1 JobKind.Ckpt 2)
    ∷ Step.Call 4 1 (Request.ForceTo 2) Answer.None
    ∷ Step.Call 4 1 (Request.Log 3181 8 1099511627775 ((0 ∷ 0 ∷ []) ++ replicate 4 34 ++ (255 ∷ 170 ∷ []) ++ replicate 292 0)) Answer.None
    ∷ Step.Call 4 1 (Request.Read 7 28) Answer.None
    ∷ Step.Call 4 1 (Request.Inval 7 28) Answer.None
    ∷ Step.Call 4 1 (Request.Get 7 28) Answer.None
    ∷ Step.Call 4 1 (Request.Inval 7 28) Answer.None
    ∷ Step.Call 4 1 (Request.Relse 7 28) Answer.None
    ∷ Step.Call 4 1 (Request.Commit 7) Answer.None
    ∷ Step.Take 7 (name 4 1 JobKind.Ckpt 2)
    ∷ Step.Call 4 1 (Request.Get 8 28) Answer.None
    ∷ Step.Begin 7 (name 4 1 JobKind.Ckpt 2)
    ∷ Step.Call 4 1 (Request.Log 2971 8 186 ((255 ∷ []))) Answer.None
    ∷ Step.Call 4 1 (Request.Hold 8 186) Answer.None
    ∷ Step.Call 4 1 (Request.Cancel 8) Answer.None
    ∷ Step.Call 4 1 (Request.Alloc 65489 1 false) Answer.None
    ∷ Step.Call 4 1 (Request.Alloc 177 1 false) Answer.None
    ∷ Step.End 7 (name 4 1 JobKind.Ckpt 2) (record { taken = 1; sync = Some true })
    ∷ Step.Post (name 4 1 JobKind.Flush 3)
    ∷ Step.Call 4 1 (Request.Alloc 65537 1 true) Answer.None
    ∷ Step.Call 4 1 (Request.Get 9 1099511627775) Answer.None
    ∷ Step.Take 5 (name 4 1 JobKind.Flush 3)
    ∷ Step.Call 4 1 (Request.Get 9 230) Answer.None
    ∷ Step.Flush 5 (name 4 1 JobKind.Flush 3) (record { count = 0; writes = (false ∷ false ∷ false ∷ false ∷ false ∷ false ∷ false ∷ false ∷ []); sync = false })
    ∷ Step.Call 4 1 (Request.Inval 9 230) Answer.None
    ∷ Step.Call 4 1 (Request.Get 9 230) Answer.None
    ∷ Step.Call 4 1 (Request.Read 9 230) Answer.None
    ∷ Step.Call 4 1 (Request.Hold 9 230) Answer.None
    ∷ Step.Call 4 1 (Request.Commit 9) Answer.None
    ∷ Step.Call 4 1 (Request.Get 1 230) Answer.None
    ∷ Step.Call 4 1 (Request.Alloc 688 1 true) Answer.None
    ∷ Step.Call 4 1 (Request.Alloc 5000 1 false) Answer.None
    ∷ Step.Call 4 1 (Request.Get 10 1099511627775) Answer.None
    ∷ Step.Call 4 1 (Request.Hold 10 1099511627775) Answer.None
    ∷ Step.Call 4 1 (Request.Log 1424 10 1099511627775 ((170 ∷ 170 ∷ []))) Answer.None
    ∷ Step.Call 4 1 (Request.Log 1854 10 106 ((0 ∷ []))) Answer.None
    ∷ Step.Call 4 1 (Request.Commit 10) Answer.None
    ∷ Step.Call 4 1 (Request.Get 11 1099511627775) Answer.None
    ∷ Step.Call 4 1 (Request.Read 11 28) (Answer.Content (replicate 4096 119))
    ∷ Step.Call 4 1 (Request.Join 11 1099511627775) Answer.None
    ∷ Step.Call 4 1 (Request.View 11 1099511627775) Answer.None
    ∷ Step.Call 4 1 (Request.Hold 11 1099511627775) Answer.None
    ∷ Step.Call 4 1 (Request.Log 2176 11 1099511627775 (replicate 129 17)) Answer.None
    ∷ Step.Call 4 1 (Request.Release 186) Answer.None
    ∷ Step.Call 4 1 (Request.Roll 11) Answer.None
    ∷ Step.Call 4 1 (Request.Release 1099511627775) Answer.None
    ∷ Step.Call 4 1 (Request.Release 1099511627775) Answer.None
    ∷ Step.Call 4 1 (Request.View 11 28) Answer.None
    ∷ Step.Call 4 1 (Request.Alloc 352 1 true) Answer.None
    ∷ Step.Call 4 1 (Request.Relse 11 28) Answer.None
    ∷ Step.Call 4 1 (Request.Release 28) Answer.None
    ∷ Step.Call 4 1 (Request.Join 11 28) Answer.None
    ∷ Step.Call 4 1 (Request.Read 12 28) Answer.None
    ∷ Step.Call 4 1 (Request.Relse 11 1099511627775) Answer.None
    ∷ Step.Call 4 1 Request.Force Answer.None
    ∷ Step.Post (name 4 1 JobKind.Ckpt 4)
    ∷ Step.Call 4 1 (Request.ForceTo 1) Answer.None
    ∷ Step.Call 4 1 Request.Force Answer.None
    ∷ []

abbrev list01_said : List Said
list01_said =
    told 4 (Reply.Life 1)
    ∷ told 4 (Reply.Refused Errno.Invalid)
    ∷ told 4 (Reply.Trans 1)
    ∷ told 4 (Reply.Committed 0)
    ∷ told 4 (Reply.Trans 2)
    ∷ told 4 (Reply.Trans 3)
    ∷ told 4 (Reply.Refused Errno.Invalid)
    ∷ told 4 (Reply.Refused Errno.Invalid)
    ∷ told 4 Reply.Okay
    ∷ told 4 (Reply.Committed 0)
    ∷ told 4 Reply.Done
    ∷ told 4 (Reply.Trans 4)
    ∷ told 4 (Reply.Committed 0)
    ∷ told 4 (Reply.Committed 0)
    ∷ told 4 (Reply.Trans 5)
    ∷ told 4 (Reply.Committed 0)
    ∷ told 4 (Reply.Refused Errno.Invalid)
    ∷ told 4 (Reply.Refused Errno.Invalid)
    ∷ told 4 (Reply.Refused Errno.Invalid)
    ∷ told 4 (Reply.Refused Errno.Invalid)
    ∷ told 4 (Reply.Refused Errno.Invalid)
    ∷ told 4 Reply.Okay
    ∷ told 4 (Reply.Refused Errno.NoSpace)
    ∷ told 4 (Reply.Trans 6)
    ∷ told 4 Reply.Okay
    ∷ told 4 Reply.Okay
    ∷ told 4 Reply.Okay
    ∷ told 4 Reply.Okay
    ∷ told 4 (Reply.Refused Errno.Invalid)
    ∷ told 4 (Reply.Refused Errno.Again)
    ∷ told 4 Reply.Okay
    ∷ told 4 (Reply.Committed 1)
    ∷ told 4 Reply.Okay
    ∷ told 4 (Reply.Refused Errno.Invalid)
    ∷ told 4 (Reply.Committed 0)
    ∷ told 4 (Reply.Trans 7)
    ∷ told 4 Reply.Okay
    ∷ told 4 (Reply.Trans 8)
    ∷ told 4 Reply.Nothing
    ∷ told 4 Reply.Okay
    ∷ told 4 (Reply.Refused Errno.Invalid)
    ∷ told 4 (Reply.Wait 1)
    ∷ told 4 Reply.Okay
    ∷ told 4 (Reply.Refused Errno.Invalid)
    ∷ told 4 (Reply.Refused Errno.Invalid)
    ∷ told 4 (Reply.Refused Errno.Again)
    ∷ told 4 (Reply.Refused Errno.Invalid)
    ∷ told 4 (Reply.Refused Errno.Again)
    ∷ told 4 (Reply.Refused Errno.Invalid)
    ∷ told 4 (Reply.Refused Errno.Invalid)
    ∷ told 4 (Reply.Committed 0)
    ∷ told 4 Reply.Okay
    ∷ told 4 (Reply.Refused Errno.Again)
    ∷ told 4 (Reply.Begun 1 1)
    ∷ told 4 (Reply.Refused Errno.Invalid)
    ∷ told 4 Reply.Okay
    ∷ told 4 (Reply.OkayHeld (186 ∷ []))
    ∷ told 4 (Reply.Refused Errno.Again)
    ∷ told 4 (Reply.Trans 9)
    ∷ said 4 (Reply.Landed 1) (LogOffer.Piece ((88 ∷ 67 ∷ 80 ∷ 49 ∷ []) ++ replicate 7 0 ++ (1 ∷ 0 ∷ 0 ∷ 0 ∷ 1 ∷ []) ++ replicate 7 0 ++ (28 ∷ []) ++ replicate 7 0 ++ (1 ∷ 88 ∷ 67 ∷ 69 ∷ 49 ∷ 0 ∷ 0 ∷ 0 ∷ 1 ∷ []) ++ replicate 7 0 ++ (1 ∷ [])) true ∷ LogOffer.Sync true ∷ []) []
    ∷ told 4 Reply.Okay
    ∷ told 4 (Reply.Refused Errno.Invalid)
    ∷ told 4 Reply.Okay
    ∷ told 4 Reply.Okay
    ∷ told 4 Reply.Okay
    ∷ told 4 Reply.Nothing
    ∷ told 4 Reply.Okay
    ∷ told 4 Reply.Okay
    ∷ told 4 (Reply.Refused Errno.Invalid)
    ∷ told 4 (Reply.Refused Errno.Invalid)
    ∷ told 4 (Reply.Committed 2)
    ∷ told 4 (Reply.Refused Errno.Invalid)
    ∷ told 4 (Reply.Trans 10)
    ∷ told 4 (Reply.Trans 11)
    ∷ told 4 Reply.Okay
    ∷ told 4 Reply.Okay
    ∷ told 4 Reply.Okay
    ∷ told 4 (Reply.Refused Errno.Invalid)
    ∷ told 4 (Reply.CommittedHeld 2 (1099511627775 ∷ []))
    ∷ told 4 (Reply.Refused Errno.Again)
    ∷ told 4 Reply.Okay
    ∷ told 4 Reply.Okay
    ∷ told 4 (Reply.Data ((121 ∷ []) ++ replicate 1423 1 ++ (170 ∷ 170 ∷ []) ++ replicate 2670 1))
    ∷ told 4 Reply.Okay
    ∷ told 4 Reply.Okay
    ∷ told 4 Reply.Okay
    ∷ told 4 (Reply.Refused Errno.Invalid)
    ∷ told 4 (Reply.Refused Errno.Invalid)
    ∷ told 4 (Reply.Refused Errno.Invalid)
    ∷ told 4 (Reply.Data (replicate 4096 119))
    ∷ told 4 (Reply.Trans 12)
    ∷ told 4 Reply.Free
    ∷ told 4 (Reply.Refused Errno.Invalid)
    ∷ told 4 (Reply.Refused Errno.Invalid)
    ∷ told 4 Reply.Okay
    ∷ told 4 Reply.Kept
    ∷ told 4 (Reply.Wait 2)
    ∷ told 4 Reply.Okay
    ∷ told 4 Reply.Done
    ∷ told 4 (Reply.Wait 2)
    ∷ []

list01 : alone_run list01_steps ≡ list01_said
unfolding chunks_where
list01 = refl

list01_order : in_order [] empty list01_steps ≡ true
unfolding chunks_where
list01_order = refl

-- ---- list02
abbrev list02_steps : List Step
list02_steps =
    Step.Show 12
    ∷ Step.Mount 12 98304 1024 None
    ∷ Step.Call 12 1 (Request.Alloc 863 1 true) Answer.None
    ∷ Step.Call 12 1 (Request.Alloc 1000 1 false) Answer.None
    ∷ Step.Call 12 1 (Request.Read 18446744073709551615 255) Answer.None
    ∷ Step.Call 12 1 (Request.Alloc 9000 1 false) Answer.None
    ∷ Step.Call 12 1 (Request.Read 3 207) (Answer.Content ((0 ∷ []) ++ replicate 4095 1))
    ∷ Step.Call 12 1 (Request.Hold 3 33) Answer.None
    ∷ Step.Call 12 1 (Request.ForceTo 1) Answer.None
    ∷ Step.Call 12 1 (Request.Alloc 2192 1 false) Answer.None
    ∷ Step.Call 12 1 (Request.Read 4 162) (Answer.Content (replicate 4096 85))
    ∷ Step.Call 12 1 (Request.Log 45 4 162 ((0 ∷ 0 ∷ 0 ∷ []))) Answer.None
    ∷ Step.Call 12 1 (Request.Read 4 50) (Answer.Content (replicate 4096 68))
    ∷ Step.Call 12 1 (Request.Log 99 4 50 ((170 ∷ 170 ∷ 170 ∷ []))) Answer.None
    ∷ Step.Call 12 1 (Request.Read 4 176) (Answer.Content (replicate 4096 51))
    ∷ Step.Call 12 1 (Request.Log 33 4 176 ((170 ∷ 170 ∷ 170 ∷ []))) Answer.None
    ∷ Step.Call 12 1 (Request.Read 4 187) (Answer.Content (replicate 4096 0))
    ∷ Step.Call 12 1 (Request.Log 40 4 187 ((134 ∷ 110 ∷ 51 ∷ []))) Answer.None
    ∷ Step.Call 12 1 (Request.Read 4 85) (Answer.Content (replicate 4096 68))
    ∷ Step.Call 12 1 (Request.Log 63 4 85 ((133 ∷ 205 ∷ 114 ∷ []))) Answer.None
    ∷ Step.Call 12 1 (Request.Read 4 55) (Answer.Content ((17 ∷ 34 ∷ []) ++ replicate 4094 1))
    ∷ Step.Call 12 1 (Request.Log 17 4 55 ((0 ∷ 0 ∷ 0 ∷ []))) Answer.None
    ∷ Step.Call 12 1 (Request.Read 4 307) (Answer.Content (replicate 4096 102))
    ∷ Step.Call 12 1 (Request.Log 89 4 307 ((127 ∷ 99 ∷ 42 ∷ []))) Answer.None
    ∷ Step.Call 12 1 (Request.Read 4 332) (Answer.Content (replicate 4096 0))
    ∷ Step.Call 12 1 (Request.Log 79 4 332 ((216 ∷ 136 ∷ 225 ∷ []))) Answer.None
    ∷ Step.Call 12 1 (Request.Read 4 356) (Answer.Content (replicate 4096 51))
    ∷ Step.Call 12 1 (Request.Log 32 4 356 ((192 ∷ 233 ∷ 56 ∷ []))) Answer.None
    ∷ Step.Call 12 1 (Request.Read 4 336) (Answer.Content ((187 ∷ 63 ∷ []) ++ replicate 4094 1))
    ∷ Step.Call 12 1 (Request.Log 16 4 336 ((34 ∷ 34 ∷ 34 ∷ []))) Answer.None
    ∷ Step.Call 12 1 (Request.Read 4 135) (Answer.Content ((34 ∷ 255 ∷ []) ++ replicate 4094 1))
    ∷ Step.Call 12 1 (Request.Log 45 4 135 ((34 ∷ 34 ∷ 34 ∷ []))) Answer.None
    ∷ Step.Call 12 1 (Request.Read 4 341) (Answer.Content ((70 ∷ []) ++ replicate 4095 238))
    ∷ Step.Call 12 1 (Request.Log 69 4 341 ((34 ∷ 34 ∷ 34 ∷ []))) Answer.None
    ∷ Step.Call 12 1 (Request.Commit 4) Answer.None
    ∷ Step.Call 12 1 Request.Force Answer.None
    ∷ Step.Post (name 12 1 JobKind.Ckpt 1)
    ∷ Step.Call 12 1 Request.Push Answer.None
    ∷ Step.Call 12 1 (Request.Alloc 12289 8 true) Answer.None
    ∷ Step.Call 12 1 (Request.Alloc 479 1 false) Answer.None
    ∷ Step.Call 12 1 (Request.Log 1664 3 207 ((255 ∷ 255 ∷ 255 ∷ 17 ∷ 17 ∷ 0 ∷ 0 ∷ 0 ∷ 17 ∷ 17 ∷ 0 ∷ 0 ∷ 0 ∷ 17 ∷ 17 ∷ 17 ∷ []) ++ replicate 2416 0)) Answer.None
    ∷ Step.Call 12 1 (Request.Hold 3 207) Answer.None
    ∷ Step.Post (name 12 1 JobKind.Flush 2)
    ∷ Step.Take 2 (name 12 1 JobKind.Ckpt 1)
    ∷ Step.Call 12 1 Request.Force Answer.None
    ∷ Step.Call 12 1 (Request.ForceTo 2) Answer.None
    ∷ Step.Begin 2 (name 12 1 JobKind.Ckpt 1)
    ∷ Step.Call 12 1 (Request.ForceTo 3) Answer.None
    ∷ Step.Call 12 1 Request.Push Answer.None
    ∷ Step.End 2 (name 12 1 JobKind.Ckpt 1) (record { taken = 1; sync = Some true })
    ∷ Step.Call 12 1 (Request.Alloc 1 1 false) Answer.None
    ∷ Step.Take 7 (name 12 1 JobKind.Flush 2)
    ∷ Step.Call 12 1 (Request.Unhold 2 356) Answer.None
    ∷ Step.Call 12 1 (Request.Relse 3 207) Answer.None
    ∷ Step.Flush 7 (name 12 1 JobKind.Flush 2) (record { count = 8; writes = (false ∷ true ∷ true ∷ true ∷ false ∷ false ∷ false ∷ true ∷ []); sync = false })
    ∷ Step.Call 12 1 (Request.Alloc 5000 1 true) Answer.None
    ∷ Step.Call 12 1 (Request.Read 2 135) Answer.None
    ∷ Step.Call 12 1 (Request.Log 1964 2 135 (replicate 300 0)) Answer.None
    ∷ Step.Call 12 1 (Request.Hold 2 135) Answer.None
    ∷ Step.Call 12 1 (Request.View 3 176) Answer.None
    ∷ Step.Call 12 1 (Request.Read 2 55) Answer.None
    ∷ Step.Call 12 1 (Request.Inval 2 55) Answer.None
    ∷ Step.Call 12 1 (Request.Get 2 55) Answer.None
    ∷ Step.Call 12 1 (Request.Inval 2 55) Answer.None
    ∷ Step.Call 12 1 (Request.View 2 55) Answer.None
    ∷ Step.Call 12 1 (Request.Commit 2) Answer.None
    ∷ Step.Call 12 1 (Request.Get 1 55) Answer.None
    ∷ Step.Call 12 1 (Request.Read 1 120) (Answer.Content (replicate 4096 51))
    ∷ Step.Call 12 1 (Request.Read 7 213) (Answer.Content (replicate 4096 51))
    ∷ Step.Call 12 1 (Request.Hold 1 120) Answer.None
    ∷ Step.Show 12
    ∷ Step.Call 12 1 (Request.Alloc 352 1 false) Answer.None
    ∷ Step.Call 12 1 (Request.Commit 3) Answer.None
    ∷ Step.Call 12 1 (Request.Log 2047 8 162 ((181 ∷ []))) Answer.None
    ∷ Step.Call 12 1 (Request.Log 768 7 213 ((197 ∷ []))) Answer.None
    ∷ Step.Call 12 1 (Request.Alloc 5000 8 true) Answer.None
    ∷ Step.Call 12 1 (Request.View 7 213) Answer.None
    ∷ Step.Call 12 1 (Request.Log 3072 1 120 ((34 ∷ 34 ∷ []))) Answer.None
    ∷ Step.Call 12 1 (Request.Read 1 182) (Answer.Content ((90 ∷ 182 ∷ []) ++ replicate 4094 0))
    ∷ Step.Call 12 1 (Request.Hold 7 213) Answer.None
    ∷ Step.Call 12 1 (Request.Log 1217 7 213 (replicate 4 170 ++ replicate 125 0)) Answer.None
    ∷ Step.Call 12 1 (Request.Get 1 182) Answer.None
    ∷ Step.Call 12 1 (Request.Log 2828 1 182 ((51 ∷ 232 ∷ []))) Answer.None
    ∷ Step.Call 12 1 (Request.Hold 1 182) Answer.None
    ∷ Step.Call 12 1 (Request.Inval 1 182) Answer.None
    ∷ Step.Call 12 1 (Request.Get 1 182) Answer.None
    ∷ Step.Call 12 1 (Request.Relse 1 182) Answer.None
    ∷ Step.Call 12 1 (Request.View 1 182) Answer.None
    ∷ Step.Call 12 1 (Request.Commit 1) Answer.None
    ∷ Step.Call 12 1 (Request.Get 9 182) Answer.None
    ∷ Step.Call 12 1 Request.Push Answer.None
    ∷ Step.Call 12 1 (Request.Read 9 8) (Answer.Content ((17 ∷ 17 ∷ []) ++ replicate 4094 1))
    ∷ Step.Call 12 1 (Request.Alloc 5000 1 true) Answer.None
    ∷ Step.Post (name 12 1 JobKind.Flush 3)
    ∷ Step.Call 12 1 (Request.Commit 7) Answer.None
    ∷ Step.Call 12 1 (Request.Log 512 9 8 (replicate 129 17)) Answer.None
    ∷ Step.Call 12 1 (Request.Log 2431 9 8 ((0 ∷ []) ++ replicate 4 170 ++ replicate 7 255 ++ (17 ∷ 17 ∷ 17 ∷ []) ++ replicate 5 34 ++ replicate 5 17 ++ replicate 4 34 ++ replicate 5 17 ++ (34 ∷ 34 ∷ 34 ∷ []) ++ replicate 4 0 ++ replicate 5 34 ++ (170 ∷ 255 ∷ 0 ∷ 0 ∷ 0 ∷ []) ++ replicate 1614 17)) Answer.None
    ∷ Step.Show 12
    ∷ Step.Take 1 (name 12 1 JobKind.Flush 3)
    ∷ Step.Flush 1 (name 12 1 JobKind.Flush 3) (record { count = 8; writes = (true ∷ true ∷ true ∷ true ∷ false ∷ true ∷ true ∷ true ∷ []); sync = true })
    ∷ []

abbrev list02_said : List Said
list02_said =
    told 12 Reply.Okay
    ∷ told 12 (Reply.Life 1)
    ∷ told 12 (Reply.Trans 1)
    ∷ told 12 (Reply.Trans 2)
    ∷ told 12 (Reply.Refused Errno.Invalid)
    ∷ told 12 (Reply.Trans 3)
    ∷ told 12 Reply.Okay
    ∷ told 12 (Reply.Refused Errno.Invalid)
    ∷ told 12 Reply.Done
    ∷ told 12 (Reply.Trans 4)
    ∷ told 12 Reply.Okay
    ∷ told 12 Reply.Okay
    ∷ told 12 Reply.Okay
    ∷ told 12 Reply.Okay
    ∷ told 12 Reply.Okay
    ∷ told 12 Reply.Okay
    ∷ told 12 Reply.Okay
    ∷ told 12 Reply.Okay
    ∷ told 12 Reply.Okay
    ∷ told 12 Reply.Okay
    ∷ told 12 Reply.Okay
    ∷ told 12 Reply.Okay
    ∷ told 12 Reply.Okay
    ∷ told 12 Reply.Okay
    ∷ told 12 Reply.Okay
    ∷ told 12 Reply.Okay
    ∷ told 12 Reply.Okay
    ∷ told 12 Reply.Okay
    ∷ told 12 Reply.Okay
    ∷ told 12 Reply.Okay
    ∷ told 12 Reply.Okay
    ∷ told 12 Reply.Okay
    ∷ told 12 Reply.Okay
    ∷ told 12 Reply.Okay
    ∷ told 12 (Reply.Committed 1)
    ∷ told 12 (Reply.Wait 1)
    ∷ told 12 Reply.Okay
    ∷ told 12 Reply.Okay
    ∷ told 12 (Reply.Refused Errno.Invalid)
    ∷ told 12 (Reply.Trans 5)
    ∷ told 12 Reply.Okay
    ∷ told 12 Reply.Okay
    ∷ told 12 Reply.Okay
    ∷ told 12 Reply.Okay
    ∷ told 12 (Reply.Wait 1)
    ∷ told 12 (Reply.Refused Errno.Invalid)
    ∷ told 12 (Reply.Begun 1 1)
    ∷ told 12 (Reply.Refused Errno.Invalid)
    ∷ told 12 Reply.Okay
    ∷ said 12 (Reply.Landed 1) (LogOffer.Piece ((88 ∷ 67 ∷ 80 ∷ 49 ∷ []) ++ replicate 7 0 ++ (1 ∷ 0 ∷ 0 ∷ 0 ∷ 12 ∷ []) ++ replicate 7 0 ++ (50 ∷ 0 ∷ 0 ∷ 0 ∷ 1 ∷ []) ++ replicate 4 0 ++ replicate 99 68 ++ (170 ∷ 170 ∷ 170 ∷ []) ++ replicate 26 68 ++ replicate 7 0 ++ (55 ∷ 0 ∷ 0 ∷ 0 ∷ 1 ∷ []) ++ replicate 4 0 ++ (17 ∷ 34 ∷ []) ++ replicate 15 1 ++ (0 ∷ 0 ∷ 0 ∷ []) ++ replicate 108 1 ++ replicate 7 0 ++ (85 ∷ 0 ∷ 0 ∷ 0 ∷ 1 ∷ []) ++ replicate 4 0 ++ replicate 63 68 ++ (133 ∷ 205 ∷ 114 ∷ []) ++ replicate 62 68 ++ replicate 7 0 ++ (135 ∷ 0 ∷ 0 ∷ 0 ∷ 1 ∷ []) ++ replicate 4 0 ++ (34 ∷ 255 ∷ []) ++ replicate 43 1 ++ (34 ∷ 34 ∷ 34 ∷ []) ++ replicate 80 1 ++ replicate 7 0 ++ (162 ∷ 0 ∷ 0 ∷ 0 ∷ 1 ∷ []) ++ replicate 4 0 ++ replicate 45 85 ++ (0 ∷ 0 ∷ 0 ∷ []) ++ replicate 80 85 ++ replicate 7 0 ++ (176 ∷ 0 ∷ 0 ∷ 0 ∷ 1 ∷ []) ++ replicate 4 0 ++ replicate 33 51 ++ (170 ∷ 170 ∷ 170 ∷ []) ++ replicate 92 51 ++ replicate 7 0 ++ (187 ∷ 0 ∷ 0 ∷ 0 ∷ 1 ∷ []) ++ replicate 44 0 ++ (134 ∷ 110 ∷ 51 ∷ []) ++ replicate 91 0 ++ (1 ∷ 51 ∷ 0 ∷ 0 ∷ 0 ∷ 1 ∷ []) ++ replicate 4 0 ++ replicate 89 102 ++ (127 ∷ 99 ∷ 42 ∷ []) ++ replicate 36 102 ++ replicate 6 0 ++ (1 ∷ 76 ∷ 0 ∷ 0 ∷ 0 ∷ 1 ∷ []) ++ replicate 83 0 ++ (216 ∷ 136 ∷ 225 ∷ []) ++ replicate 52 0 ++ (1 ∷ 80 ∷ 0 ∷ 0 ∷ 0 ∷ 1 ∷ []) ++ replicate 4 0 ++ (187 ∷ 63 ∷ []) ++ replicate 14 1 ++ (34 ∷ 34 ∷ 34 ∷ []) ++ replicate 109 1 ++ replicate 6 0 ++ (1 ∷ 85 ∷ 0 ∷ 0 ∷ 0 ∷ 1 ∷ []) ++ replicate 4 0 ++ (70 ∷ []) ++ replicate 68 238 ++ (34 ∷ 34 ∷ 34 ∷ []) ++ replicate 56 238 ++ replicate 6 0 ++ (1 ∷ 100 ∷ 0 ∷ 0 ∷ 0 ∷ 1 ∷ []) ++ replicate 4 0 ++ replicate 32 51 ++ (192 ∷ 233 ∷ 56 ∷ []) ++ replicate 93 51 ++ (88 ∷ 67 ∷ 69 ∷ 49 ∷ 0 ∷ 0 ∷ 0 ∷ 12 ∷ []) ++ replicate 7 0 ++ (1 ∷ [])) true ∷ LogOffer.Sync true ∷ []) []
    ∷ told 12 (Reply.Trans 6)
    ∷ told 12 Reply.Okay
    ∷ told 12 (Reply.Refused Errno.Invalid)
    ∷ told 12 Reply.Kept
    ∷ said 12 (Reply.Flushed 0) [] (HomeOffer.Write 50 (replicate 99 68 ++ (170 ∷ 170 ∷ 170 ∷ []) ++ replicate 3994 68) false ∷ HomeOffer.Write 55 ((17 ∷ 34 ∷ []) ++ replicate 15 1 ++ (0 ∷ 0 ∷ 0 ∷ []) ++ replicate 4076 1) true ∷ HomeOffer.Write 85 (replicate 63 68 ++ (133 ∷ 205 ∷ 114 ∷ []) ++ replicate 4030 68) true ∷ HomeOffer.Write 135 ((34 ∷ 255 ∷ []) ++ replicate 43 1 ++ (34 ∷ 34 ∷ 34 ∷ []) ++ replicate 4048 1) true ∷ HomeOffer.Write 162 (replicate 45 85 ++ (0 ∷ 0 ∷ 0 ∷ []) ++ replicate 4048 85) false ∷ HomeOffer.Write 176 (replicate 33 51 ++ (170 ∷ 170 ∷ 170 ∷ []) ++ replicate 4060 51) false ∷ HomeOffer.Write 187 (replicate 40 0 ++ (134 ∷ 110 ∷ 51 ∷ []) ++ replicate 4053 0) false ∷ HomeOffer.Write 307 (replicate 89 102 ++ (127 ∷ 99 ∷ 42 ∷ []) ++ replicate 4004 102) true ∷ HomeOffer.Sync false ∷ [])
    ∷ told 12 (Reply.Trans 7)
    ∷ told 12 Reply.Okay
    ∷ told 12 Reply.Okay
    ∷ told 12 Reply.Okay
    ∷ told 12 (Reply.Refused Errno.Invalid)
    ∷ told 12 Reply.Okay
    ∷ told 12 Reply.Okay
    ∷ told 12 Reply.Okay
    ∷ told 12 Reply.Okay
    ∷ told 12 (Reply.Data (replicate 4096 0))
    ∷ told 12 (Reply.CommittedHeld 2 (135 ∷ []))
    ∷ told 12 (Reply.Refused Errno.Again)
    ∷ told 12 Reply.Okay
    ∷ told 12 Reply.Okay
    ∷ told 12 Reply.Okay
    ∷ told 12 Reply.Okay
    ∷ told 12 (Reply.Trans 8)
    ∷ told 12 (Reply.CommittedHeld 2 (207 ∷ []))
    ∷ told 12 (Reply.Refused Errno.Invalid)
    ∷ told 12 Reply.Okay
    ∷ told 12 (Reply.Trans 9)
    ∷ told 12 (Reply.Data (replicate 768 51 ++ (197 ∷ []) ++ replicate 3327 51))
    ∷ told 12 Reply.Okay
    ∷ told 12 Reply.Okay
    ∷ told 12 Reply.Okay
    ∷ told 12 Reply.Okay
    ∷ told 12 Reply.Okay
    ∷ told 12 Reply.Okay
    ∷ told 12 Reply.Okay
    ∷ told 12 Reply.Okay
    ∷ told 12 Reply.Okay
    ∷ told 12 Reply.Kept
    ∷ told 12 (Reply.Data (replicate 4096 0))
    ∷ told 12 (Reply.CommittedHeld 2 (120 ∷ []))
    ∷ told 12 (Reply.Refused Errno.Again)
    ∷ told 12 Reply.Okay
    ∷ told 12 Reply.Okay
    ∷ told 12 (Reply.Trans 10)
    ∷ told 12 Reply.Okay
    ∷ told 12 (Reply.CommittedHeld 2 (213 ∷ []))
    ∷ told 12 Reply.Okay
    ∷ told 12 Reply.Okay
    ∷ told 12 Reply.Okay
    ∷ told 12 Reply.Okay
    ∷ said 12 (Reply.Flushed 7) [] (HomeOffer.Write 50 (replicate 99 68 ++ (170 ∷ 170 ∷ 170 ∷ []) ++ replicate 3994 68) true ∷ HomeOffer.Write 85 (replicate 63 68 ++ (133 ∷ 205 ∷ 114 ∷ []) ++ replicate 4030 68) true ∷ HomeOffer.Write 162 (replicate 45 85 ++ (0 ∷ 0 ∷ 0 ∷ []) ++ replicate 4048 85) true ∷ HomeOffer.Write 176 (replicate 33 51 ++ (170 ∷ 170 ∷ 170 ∷ []) ++ replicate 4060 51) true ∷ HomeOffer.Write 187 (replicate 40 0 ++ (134 ∷ 110 ∷ 51 ∷ []) ++ replicate 4053 0) false ∷ HomeOffer.Write 307 (replicate 89 102 ++ (127 ∷ 99 ∷ 42 ∷ []) ++ replicate 4004 102) true ∷ HomeOffer.Write 332 (replicate 79 0 ++ (216 ∷ 136 ∷ 225 ∷ []) ++ replicate 4014 0) true ∷ HomeOffer.Write 336 ((187 ∷ 63 ∷ []) ++ replicate 14 1 ++ (34 ∷ 34 ∷ 34 ∷ []) ++ replicate 4077 1) true ∷ HomeOffer.Sync true ∷ [])
    ∷ []

list02 : alone_run list02_steps ≡ list02_said
unfolding chunks_where
list02 = refl

list02_order : in_order [] empty list02_steps ≡ true
unfolding chunks_where
list02_order = refl

-- ---- list03
abbrev list03_steps : List Step
list03_steps =
    Step.Mount 11 66055 1024 None
    ∷ Step.Call 11 1 (Request.Alloc 2000 1 false) Answer.None
    ∷ Step.Call 11 1 (Request.Read 1 202) (Answer.Content (replicate 4096 102))
    ∷ Step.Call 11 1 (Request.Alloc 4144 8 true) Answer.None
    ∷ Step.Call 11 1 (Request.Get 2 162) Answer.None
    ∷ Step.Call 11 1 (Request.Inval 2 162) Answer.None
    ∷ Step.Call 11 1 (Request.View 2 162) Answer.None
    ∷ Step.Call 11 1 (Request.Get 2 162) Answer.None
    ∷ Step.Call 11 1 (Request.Relse 2 162) Answer.None
    ∷ Step.Call 11 1 (Request.Commit 2) Answer.None
    ∷ Step.Call 11 1 (Request.Hold 1 202) Answer.None
    ∷ Step.Call 11 1 (Request.Get 1 162) Answer.None
    ∷ Step.Call 11 1 (Request.Alloc 5000 1 false) Answer.None
    ∷ Step.Call 11 1 (Request.Release 120) Answer.None
    ∷ Step.Call 11 1 (Request.Alloc 180 1 true) Answer.None
    ∷ Step.Call 11 1 (Request.Get 4 230) Answer.None
    ∷ Step.Call 11 1 (Request.Log 0 4 230 (replicate 4096 68)) Answer.None
    ∷ Step.Call 11 1 (Request.Roll 4) Answer.None
    ∷ Step.Call 11 1 (Request.Read 4 128) (Answer.Content (replicate 4096 85))
    ∷ Step.Call 11 1 (Request.Log 3623 4 128 (replicate 127 0)) Answer.None
    ∷ Step.Call 11 1 (Request.Roll 4) Answer.None
    ∷ Step.Call 11 1 (Request.Read 4 248) (Answer.Content ((170 ∷ []) ++ replicate 4095 238))
    ∷ Step.Call 11 1 (Request.Relse 1 202) Answer.None
    ∷ Step.Call 11 1 (Request.Log 3327 4 248 ((34 ∷ []))) Answer.None
    ∷ Step.Call 11 1 (Request.Roll 4) Answer.None
    ∷ Step.Call 11 1 (Request.Get 4 202) Answer.None
    ∷ Step.Call 11 1 (Request.Log 895 4 202 (replicate 127 255)) Answer.None
    ∷ Step.Call 11 1 (Request.View 4 202) Answer.None
    ∷ Step.Call 11 1 (Request.Roll 4) Answer.None
    ∷ Step.Call 11 1 (Request.Read 4 250) (Answer.Content (replicate 5 255 ++ replicate 295 34 ++ replicate 3796 0))
    ∷ Step.Call 11 1 (Request.Log 2559 4 250 ((253 ∷ 214 ∷ 108 ∷ 221 ∷ []))) Answer.None
    ∷ Step.Call 11 1 (Request.Inval 4 250) Answer.None
    ∷ Step.Call 11 1 (Request.Hold 4 250) Answer.None
    ∷ Step.Call 11 1 (Request.Roll 4) Answer.None
    ∷ Step.Call 11 1 (Request.Read 3 128) Answer.None
    ∷ Step.Call 11 1 (Request.Inval 3 128) Answer.None
    ∷ Step.Call 11 1 (Request.Commit 4) Answer.None
    ∷ Step.Call 11 1 (Request.Alloc 2000 2 true) Answer.None
    ∷ Step.Call 11 1 (Request.Log 0 3 128 ((132 ∷ 25 ∷ []) ++ replicate 4094 238)) Answer.None
    ∷ Step.Call 11 1 (Request.Read 5 230) (Answer.Content ((19 ∷ 95 ∷ 8 ∷ 171 ∷ 229 ∷ []) ++ replicate 4091 238))
    ∷ Step.Call 11 1 (Request.Hold 5 230) Answer.None
    ∷ Step.Call 11 1 (Request.Log 1919 3 128 ((130 ∷ 71 ∷ []))) Answer.None
    ∷ Step.Call 11 1 (Request.Commit 3) Answer.None
    ∷ Step.Call 11 1 (Request.Alloc 8256 1 false) Answer.None
    ∷ Step.Call 11 1 (Request.Get 6 18) Answer.None
    ∷ Step.Call 11 1 (Request.Log 0 6 18 (replicate 4096 139)) Answer.None
    ∷ Step.Call 11 1 (Request.Get 6 128) Answer.None
    ∷ Step.Call 11 1 (Request.Log 0 6 128 (replicate 4096 221)) Answer.None
    ∷ Step.Call 11 1 (Request.Commit 6) Answer.None
    ∷ Step.Post (name 11 1 JobKind.Ckpt 1)
    ∷ Step.Call 11 1 (Request.Log 3178 5 230 (replicate 17 0 ++ replicate 110 17)) Answer.None
    ∷ Step.Call 11 1 (Request.Inval 5 230) Answer.None
    ∷ Step.Call 11 1 (Request.Alloc 600 1 false) Answer.None
    ∷ Step.Call 11 1 (Request.Read 7 242) (Answer.Content (replicate 4096 119))
    ∷ Step.Take 0 (name 11 1 JobKind.Ckpt 1)
    ∷ Step.Call 11 1 (Request.Log 0 7 242 (replicate 4096 90)) Answer.None
    ∷ Step.Call 11 1 (Request.Commit 7) Answer.None
    ∷ Step.Call 11 1 Request.Force Answer.None
    ∷ Step.Call 11 1 Request.Push Answer.None
    ∷ Step.Post (name 11 1 JobKind.Flush 2)
    ∷ Step.Take 3 (name 11 1 JobKind.Flush 2)
    ∷ Step.Call 11 1 (Request.Join 5 202) Answer.None
    ∷ Step.Call 11 1 (Request.Read 5 242) Answer.None
    ∷ Step.Call 11 1 (Request.Alloc 12496 2 true) Answer.None
    ∷ Step.Call 11 1 (Request.Roll 5) Answer.None
    ∷ Step.Call 11 1 (Request.Get 1 250) Answer.None
    ∷ Step.Call 11 1 (Request.Commit 1) Answer.None
    ∷ Step.Call 11 1 (Request.Alloc 8384 3 true) Answer.None
    ∷ Step.Flush 3 (name 11 1 JobKind.Flush 2) (record { count = 0; writes = (false ∷ false ∷ false ∷ false ∷ false ∷ false ∷ false ∷ false ∷ []); sync = false })
    ∷ Step.Call 11 1 (Request.ForceTo 18446744073709551615) Answer.None
    ∷ Step.Call 11 1 (Request.Cancel 5) Answer.None
    ∷ Step.Begin 0 (name 11 1 JobKind.Ckpt 1)
    ∷ Step.Call 11 1 (Request.Get 8 248) Answer.None
    ∷ Step.Call 11 1 (Request.Alloc 8256 1 false) Answer.None
    ∷ Step.Call 11 1 (Request.Alloc 4143 1 false) Answer.None
    ∷ Step.Post (name 11 1 JobKind.Flush 3)
    ∷ Step.Take 6 (name 11 1 JobKind.Flush 3)
    ∷ Step.Call 11 1 (Request.Unhold 8 248) Answer.None
    ∷ Step.Call 11 1 (Request.Alloc 600 1 false) Answer.None
    ∷ Step.Call 11 1 (Request.Log 0 11 128 (replicate 4096 102)) Answer.None
    ∷ Step.Call 11 1 (Request.Read 11 128) Answer.None
    ∷ Step.Flush 6 (name 11 1 JobKind.Flush 3) (record { count = 0; writes = (false ∷ false ∷ false ∷ false ∷ false ∷ false ∷ false ∷ false ∷ []); sync = false })
    ∷ Step.Call 11 1 (Request.Log 0 11 128 (replicate 4096 90)) Answer.None
    ∷ Step.Call 11 1 (Request.Commit 11) Answer.None
    ∷ Step.Call 11 1 Request.Force Answer.None
    ∷ Step.Call 11 1 Request.Push Answer.None
    ∷ Step.Call 11 1 (Request.Read 10 88) (Answer.Content (replicate 4096 119))
    ∷ Step.Call 11 1 (Request.Log 3963 10 88 (replicate 133 34)) Answer.None
    ∷ Step.Post (name 11 1 JobKind.Flush 4)
    ∷ Step.Take 5 (name 11 1 JobKind.Flush 4)
    ∷ Step.Call 11 1 Request.Unmount Answer.None
    ∷ Step.Call 11 1 Request.Force Answer.None
    ∷ Step.Call 11 1 (Request.Commit 10) Answer.None
    ∷ Step.Call 11 1 (Request.Cancel 9) Answer.None
    ∷ Step.Call 11 1 (Request.Cancel 8) Answer.None
    ∷ Step.Call 11 1 Request.Force Answer.None
    ∷ Step.Call 11 1 (Request.Alloc 5000 1 true) Answer.None
    ∷ Step.Flush 5 (name 11 1 JobKind.Flush 4) (record { count = 0; writes = (false ∷ false ∷ false ∷ false ∷ false ∷ false ∷ false ∷ false ∷ []); sync = false })
    ∷ Step.Call 11 1 (Request.Cancel 12) Answer.None
    ∷ Step.Call 11 1 Request.Unmount Answer.None
    ∷ []

abbrev list03_said : List Said
list03_said =
    told 11 (Reply.Life 1)
    ∷ told 11 (Reply.Trans 1)
    ∷ told 11 Reply.Okay
    ∷ told 11 (Reply.Trans 2)
    ∷ told 11 Reply.Okay
    ∷ told 11 Reply.Okay
    ∷ told 11 (Reply.Data (replicate 4096 0))
    ∷ told 11 Reply.Okay
    ∷ told 11 Reply.Kept
    ∷ told 11 (Reply.Committed 1)
    ∷ told 11 Reply.Okay
    ∷ told 11 (Reply.Refused Errno.Again)
    ∷ told 11 (Reply.Trans 3)
    ∷ told 11 (Reply.Refused Errno.Invalid)
    ∷ told 11 (Reply.Trans 4)
    ∷ told 11 Reply.Okay
    ∷ told 11 (Reply.Refused Errno.NoSpace)
    ∷ told 11 (Reply.Committed 0)
    ∷ told 11 Reply.Okay
    ∷ told 11 (Reply.Refused Errno.NoSpace)
    ∷ told 11 (Reply.Committed 0)
    ∷ told 11 Reply.Okay
    ∷ told 11 Reply.Free
    ∷ told 11 Reply.Okay
    ∷ told 11 (Reply.Committed 1)
    ∷ told 11 Reply.Okay
    ∷ told 11 (Reply.Refused Errno.NoSpace)
    ∷ told 11 (Reply.Data (replicate 4096 102))
    ∷ told 11 (Reply.Committed 0)
    ∷ told 11 Reply.Okay
    ∷ told 11 (Reply.Refused Errno.NoSpace)
    ∷ told 11 Reply.Okay
    ∷ told 11 (Reply.Refused Errno.Invalid)
    ∷ told 11 (Reply.Committed 1)
    ∷ told 11 Reply.Okay
    ∷ told 11 Reply.Okay
    ∷ told 11 (Reply.Committed 0)
    ∷ told 11 (Reply.Trans 5)
    ∷ told 11 Reply.Okay
    ∷ told 11 Reply.Okay
    ∷ told 11 Reply.Okay
    ∷ told 11 Reply.Okay
    ∷ told 11 (Reply.Committed 1)
    ∷ told 11 (Reply.Trans 6)
    ∷ told 11 Reply.Okay
    ∷ told 11 Reply.Okay
    ∷ told 11 Reply.Okay
    ∷ told 11 Reply.Okay
    ∷ told 11 (Reply.Committed 1)
    ∷ told 11 Reply.Okay
    ∷ told 11 Reply.Okay
    ∷ told 11 Reply.Okay
    ∷ told 11 (Reply.Trans 7)
    ∷ told 11 Reply.Okay
    ∷ told 11 Reply.Okay
    ∷ told 11 (Reply.Refused Errno.NoSpace)
    ∷ told 11 (Reply.Committed 0)
    ∷ told 11 (Reply.Wait 1)
    ∷ told 11 Reply.Okay
    ∷ told 11 Reply.Okay
    ∷ told 11 Reply.Okay
    ∷ told 11 (Reply.Refused Errno.Invalid)
    ∷ told 11 Reply.Okay
    ∷ told 11 (Reply.Trans 8)
    ∷ told 11 (Reply.Committed 1)
    ∷ told 11 (Reply.Refused Errno.Again)
    ∷ told 11 (Reply.Committed 0)
    ∷ told 11 (Reply.Trans 9)
    ∷ told 11 Reply.Nothing
    ∷ told 11 (Reply.Refused Errno.Invalid)
    ∷ told 11 Reply.Okay
    ∷ told 11 (Reply.Begun 1 3)
    ∷ told 11 Reply.Okay
    ∷ told 11 (Reply.Refused Errno.Again)
    ∷ told 11 (Reply.Trans 10)
    ∷ told 11 Reply.Okay
    ∷ told 11 Reply.Okay
    ∷ told 11 (Reply.Refused Errno.Invalid)
    ∷ told 11 (Reply.Trans 11)
    ∷ told 11 (Reply.Refused Errno.Invalid)
    ∷ told 11 Reply.Okay
    ∷ told 11 Reply.Nothing
    ∷ told 11 (Reply.Refused Errno.NoSpace)
    ∷ told 11 (Reply.Committed 0)
    ∷ told 11 (Reply.Wait 1)
    ∷ told 11 Reply.Okay
    ∷ told 11 Reply.Okay
    ∷ told 11 Reply.Okay
    ∷ told 11 Reply.Okay
    ∷ told 11 Reply.Okay
    ∷ told 11 (Reply.Refused Errno.Busy)
    ∷ told 11 (Reply.Wait 1)
    ∷ told 11 (Reply.Committed 2)
    ∷ told 11 Reply.Okay
    ∷ told 11 Reply.Okay
    ∷ told 11 (Reply.Wait 2)
    ∷ told 11 (Reply.Trans 12)
    ∷ told 11 Reply.Nothing
    ∷ told 11 Reply.Okay
    ∷ told 11 (Reply.Refused Errno.Busy)
    ∷ []

list03 : alone_run list03_steps ≡ list03_said
unfolding chunks_where
list03 = refl

list03_order : in_order [] empty list03_steps ≡ true
unfolding chunks_where
list03_order = refl
