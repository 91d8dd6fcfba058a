-- Scripts computed over the definitions: what each step of the mount alone says, and that the list is orderly.
-- Made by tools/row-theorems from the files of rows/.
use Rattle.std.proofs.Common.{◌≡◌, ℕ, List, [], ◌∷◌, ◌++◌, Some, None, true, false, refl}
use Rattle.std.specs.Prelude.{replicate}
use Rattle.xt_base.specs.Alone.{Said, alone_run}
use Rattle.xt_base.specs.Chunks.{chunks_where}
use Rattle.xt_base.specs.Order.{orderly}
use Rattle.xt_base.specs.declared.names.JobKind.{JobKind}
use Rattle.xt_base.specs.declared.names.JobName.{JobName}
use Rattle.xt_base.specs.declared.steps.Answer.TheVariants as Answer
use Rattle.xt_base.specs.declared.steps.Errno.TheVariants as Errno
use Rattle.xt_base.specs.declared.steps.HomeOffer.{HomeOffer}
use Rattle.xt_base.specs.declared.steps.LogOffer.{LogOffer}
use Rattle.xt_base.specs.declared.steps.Reply.{Reply}
use Rattle.xt_base.specs.declared.steps.Request.TheVariants as Request
use Rattle.xt_base.specs.declared.steps.Step.{Step}

-- the name of a job
abbrev name : ℕ → ℕ → JobKind → ℕ → JobName
name slot life kind serial = record { slot = slot; life = life; kind = kind; serial = serial }

-- a reply with offers, and one without
abbrev said : ℕ → Reply → List LogOffer → List HomeOffer → Said
said slot reply log home = record { slot = slot; reply = reply; log = log; home = home }

abbrev told : ℕ → Reply → Said
told slot reply = said slot reply [] []

-- ---- row01
abbrev row01_steps : List Step
row01_steps =
    Step.Mount 0 65536 1024 None
    ∷ Step.Call 0 1 (Request.Alloc 5000 1 false) Answer.None
    ∷ Step.Call 0 1 (Request.Get 1 7) Answer.None
    ∷ Step.Call 0 1 (Request.Log 0 1 7 (replicate 4096 170)) Answer.None
    ∷ Step.Call 0 1 (Request.Commit 1) Answer.None
    ∷ Step.Call 0 1 Request.Force Answer.None
    ∷ Step.Post (name 0 1 JobKind.Ckpt 1)
    ∷ Step.Take 0 (name 0 1 JobKind.Ckpt 1)
    ∷ Step.Begin 0 (name 0 1 JobKind.Ckpt 1)
    ∷ Step.End 0 (name 0 1 JobKind.Ckpt 1) (record { taken = 2; sync = Some true })
    ∷ Step.Call 0 1 Request.Force Answer.None
    ∷ []

abbrev row01_said : List Said
row01_said =
    told 0 (Reply.Life 1)
    ∷ told 0 (Reply.Trans 1)
    ∷ told 0 Reply.Okay
    ∷ told 0 Reply.Okay
    ∷ told 0 (Reply.Committed 1)
    ∷ told 0 (Reply.Wait 1)
    ∷ told 0 Reply.Okay
    ∷ told 0 Reply.Okay
    ∷ told 0 (Reply.Begun 1 2)
    ∷ said 0 (Reply.Landed 1) (LogOffer.Piece ((88 ∷ 67 ∷ 80 ∷ 49 ∷ []) ++ replicate 7 0 ++ (1 ∷ 0 ∷ 0 ∷ 0 ∷ 1 ∷ []) ++ replicate 7 0 ++ (7 ∷ []) ++ replicate 4 255 ++ replicate 4 0 ++ replicate 4064 170) true ∷ LogOffer.Piece (replicate 32 170 ++ (88 ∷ 67 ∷ 69 ∷ 49 ∷ 0 ∷ 0 ∷ 0 ∷ 1 ∷ []) ++ replicate 7 0 ++ (1 ∷ [])) true ∷ LogOffer.Sync true ∷ []) []
    ∷ told 0 Reply.Done
    ∷ []

row01 : alone_run row01_steps ≡ row01_said
unfolding chunks_where
row01 = refl

row01_order : orderly row01_steps ≡ true
unfolding chunks_where
row01_order = refl

-- ---- row02
abbrev row02_steps : List Step
row02_steps =
    Step.Mount 0 65536 1024 None
    ∷ Step.Call 0 1 (Request.Alloc 176 1 false) Answer.None
    ∷ Step.Call 0 1 (Request.Read 1 7) (Answer.Content (replicate 4096 0))
    ∷ Step.Call 0 1 (Request.Log 130 1 7 ((1 ∷ 2 ∷ []))) Answer.None
    ∷ Step.Call 0 1 (Request.Commit 1) Answer.None
    ∷ Step.Call 0 1 Request.Force Answer.None
    ∷ Step.Post (name 0 1 JobKind.Ckpt 1)
    ∷ Step.Take 0 (name 0 1 JobKind.Ckpt 1)
    ∷ Step.Begin 0 (name 0 1 JobKind.Ckpt 1)
    ∷ Step.End 0 (name 0 1 JobKind.Ckpt 1) (record { taken = 1; sync = Some true })
    ∷ []

abbrev row02_said : List Said
row02_said =
    told 0 (Reply.Life 1)
    ∷ told 0 (Reply.Trans 1)
    ∷ told 0 Reply.Okay
    ∷ told 0 Reply.Okay
    ∷ told 0 (Reply.Committed 1)
    ∷ told 0 (Reply.Wait 1)
    ∷ told 0 Reply.Okay
    ∷ told 0 Reply.Okay
    ∷ told 0 (Reply.Begun 1 1)
    ∷ said 0 (Reply.Landed 1) (LogOffer.Piece ((88 ∷ 67 ∷ 80 ∷ 49 ∷ []) ++ replicate 7 0 ++ (1 ∷ 0 ∷ 0 ∷ 0 ∷ 1 ∷ []) ++ replicate 7 0 ++ (7 ∷ 0 ∷ 0 ∷ 0 ∷ 2 ∷ []) ++ replicate 6 0 ++ (1 ∷ 2 ∷ []) ++ replicate 124 0 ++ (88 ∷ 67 ∷ 69 ∷ 49 ∷ 0 ∷ 0 ∷ 0 ∷ 1 ∷ []) ++ replicate 7 0 ++ (1 ∷ [])) true ∷ LogOffer.Sync true ∷ []) []
    ∷ []

row02 : alone_run row02_steps ≡ row02_said
unfolding chunks_where
row02 = refl

row02_order : orderly row02_steps ≡ true
unfolding chunks_where
row02_order = refl

-- ---- row03
abbrev row03_steps : List Step
row03_steps =
    Step.Mount 0 65536 1024 None
    ∷ Step.Call 0 1 (Request.Alloc 176 1 false) Answer.None
    ∷ Step.Call 0 1 (Request.Read 1 7) (Answer.Content (replicate 4096 0))
    ∷ Step.Call 0 1 (Request.Log 0 1 7 ((17 ∷ []))) Answer.None
    ∷ Step.Call 0 1 (Request.Commit 1) Answer.None
    ∷ Step.Call 0 1 (Request.Alloc 176 1 false) Answer.None
    ∷ Step.Call 0 1 (Request.Get 2 7) Answer.None
    ∷ Step.Call 0 1 (Request.Log 400 2 7 ((34 ∷ []))) Answer.None
    ∷ Step.Call 0 1 (Request.Commit 2) Answer.None
    ∷ Step.Call 0 1 Request.Force Answer.None
    ∷ Step.Post (name 0 1 JobKind.Ckpt 1)
    ∷ Step.Take 0 (name 0 1 JobKind.Ckpt 1)
    ∷ Step.Begin 0 (name 0 1 JobKind.Ckpt 1)
    ∷ Step.End 0 (name 0 1 JobKind.Ckpt 1) (record { taken = 1; sync = Some true })
    ∷ []

abbrev row03_said : List Said
row03_said =
    told 0 (Reply.Life 1)
    ∷ told 0 (Reply.Trans 1)
    ∷ told 0 Reply.Okay
    ∷ told 0 Reply.Okay
    ∷ told 0 (Reply.Committed 1)
    ∷ told 0 (Reply.Trans 2)
    ∷ told 0 Reply.Okay
    ∷ told 0 Reply.Okay
    ∷ told 0 (Reply.Committed 1)
    ∷ told 0 (Reply.Wait 1)
    ∷ told 0 Reply.Okay
    ∷ told 0 Reply.Okay
    ∷ told 0 (Reply.Begun 1 1)
    ∷ said 0 (Reply.Landed 1) (LogOffer.Piece ((88 ∷ 67 ∷ 80 ∷ 49 ∷ []) ++ replicate 7 0 ++ (1 ∷ 0 ∷ 0 ∷ 0 ∷ 1 ∷ []) ++ replicate 7 0 ++ (7 ∷ 0 ∷ 0 ∷ 0 ∷ 9 ∷ []) ++ replicate 4 0 ++ (17 ∷ []) ++ replicate 143 0 ++ (34 ∷ []) ++ replicate 111 0 ++ (88 ∷ 67 ∷ 69 ∷ 49 ∷ 0 ∷ 0 ∷ 0 ∷ 1 ∷ []) ++ replicate 7 0 ++ (1 ∷ [])) true ∷ LogOffer.Sync true ∷ []) []
    ∷ []

row03 : alone_run row03_steps ≡ row03_said
unfolding chunks_where
row03 = refl

row03_order : orderly row03_steps ≡ true
unfolding chunks_where
row03_order = refl

-- ---- row04
abbrev row04_steps : List Step
row04_steps =
    Step.Mount 0 65536 1024 None
    ∷ Step.Call 0 1 (Request.Alloc 432 1 false) Answer.None
    ∷ Step.Call 0 1 (Request.Read 1 7) (Answer.Content (replicate 4096 0))
    ∷ Step.Call 0 1 (Request.Log 127 1 7 ((1 ∷ 2 ∷ []))) Answer.None
    ∷ Step.Call 0 1 (Request.Log 4095 1 7 ((255 ∷ []))) Answer.None
    ∷ Step.Call 0 1 (Request.Log 4096 1 7 ((255 ∷ []))) Answer.None
    ∷ Step.Call 0 1 (Request.Log 0 1 7 []) Answer.None
    ∷ Step.Call 0 1 (Request.Get 1 8) Answer.None
    ∷ Step.Call 0 1 (Request.Log 0 1 8 ((255 ∷ []))) Answer.None
    ∷ Step.Call 0 1 (Request.Commit 1) Answer.None
    ∷ Step.Call 0 1 Request.Force Answer.None
    ∷ Step.Post (name 0 1 JobKind.Ckpt 1)
    ∷ Step.Take 0 (name 0 1 JobKind.Ckpt 1)
    ∷ Step.Begin 0 (name 0 1 JobKind.Ckpt 1)
    ∷ Step.End 0 (name 0 1 JobKind.Ckpt 1) (record { taken = 1; sync = Some true })
    ∷ []

abbrev row04_said : List Said
row04_said =
    told 0 (Reply.Life 1)
    ∷ told 0 (Reply.Trans 1)
    ∷ told 0 Reply.Okay
    ∷ told 0 Reply.Okay
    ∷ told 0 Reply.Okay
    ∷ told 0 (Reply.Refused Errno.Invalid)
    ∷ told 0 (Reply.Refused Errno.Invalid)
    ∷ told 0 Reply.Okay
    ∷ told 0 (Reply.Refused Errno.Invalid)
    ∷ told 0 (Reply.Committed 1)
    ∷ told 0 (Reply.Wait 1)
    ∷ told 0 Reply.Okay
    ∷ told 0 Reply.Okay
    ∷ told 0 (Reply.Begun 1 1)
    ∷ said 0 (Reply.Landed 1) (LogOffer.Piece ((88 ∷ 67 ∷ 80 ∷ 49 ∷ []) ++ replicate 7 0 ++ (1 ∷ 0 ∷ 0 ∷ 0 ∷ 1 ∷ []) ++ replicate 7 0 ++ (7 ∷ 128 ∷ 0 ∷ 0 ∷ 3 ∷ []) ++ replicate 131 0 ++ (1 ∷ 2 ∷ []) ++ replicate 254 0 ++ (255 ∷ 88 ∷ 67 ∷ 69 ∷ 49 ∷ 0 ∷ 0 ∷ 0 ∷ 1 ∷ []) ++ replicate 7 0 ++ (1 ∷ [])) true ∷ LogOffer.Sync true ∷ []) []
    ∷ []

row04 : alone_run row04_steps ≡ row04_said
unfolding chunks_where
row04 = refl

row04_order : orderly row04_steps ≡ true
unfolding chunks_where
row04_order = refl

-- ---- row05
abbrev row05_steps : List Step
row05_steps =
    Step.Mount 0 65536 1024 None
    ∷ Step.Call 0 1 (Request.Alloc 1 1 false) Answer.None
    ∷ Step.Call 0 1 (Request.Alloc 1 1 false) Answer.None
    ∷ Step.Call 0 1 (Request.Get 1 9) Answer.None
    ∷ Step.Call 0 1 (Request.Get 1 9) Answer.None
    ∷ Step.Call 0 1 (Request.Relse 1 9) Answer.None
    ∷ Step.Call 0 1 (Request.Get 2 9) Answer.None
    ∷ Step.Call 0 1 (Request.Relse 1 9) Answer.None
    ∷ Step.Call 0 1 (Request.Get 2 9) Answer.None
    ∷ []

abbrev row05_said : List Said
row05_said =
    told 0 (Reply.Life 1)
    ∷ told 0 (Reply.Trans 1)
    ∷ told 0 (Reply.Trans 2)
    ∷ told 0 Reply.Okay
    ∷ told 0 Reply.Okay
    ∷ told 0 Reply.Kept
    ∷ told 0 (Reply.Refused Errno.Again)
    ∷ told 0 Reply.Free
    ∷ told 0 Reply.Okay
    ∷ []

row05 : alone_run row05_steps ≡ row05_said
unfolding chunks_where
row05 = refl

row05_order : orderly row05_steps ≡ true
unfolding chunks_where
row05_order = refl

-- ---- row06
abbrev row06_steps : List Step
row06_steps =
    Step.Mount 0 65536 1024 None
    ∷ Step.Call 0 1 (Request.Alloc 176 1 false) Answer.None
    ∷ Step.Call 0 1 (Request.Alloc 176 1 false) Answer.None
    ∷ Step.Call 0 1 (Request.Read 1 9) (Answer.Content (replicate 4096 0))
    ∷ Step.Call 0 1 (Request.Log 0 1 9 ((17 ∷ []))) Answer.None
    ∷ Step.Call 0 1 (Request.Relse 1 9) Answer.None
    ∷ Step.Call 0 1 (Request.Get 2 9) Answer.None
    ∷ Step.Call 0 1 (Request.Commit 1) Answer.None
    ∷ Step.Call 0 1 (Request.Get 2 9) Answer.None
    ∷ Step.Call 0 1 (Request.View 2 9) Answer.None
    ∷ []

abbrev row06_said : List Said
row06_said =
    told 0 (Reply.Life 1)
    ∷ told 0 (Reply.Trans 1)
    ∷ told 0 (Reply.Trans 2)
    ∷ told 0 Reply.Okay
    ∷ told 0 Reply.Okay
    ∷ told 0 Reply.Kept
    ∷ told 0 (Reply.Refused Errno.Again)
    ∷ told 0 (Reply.Committed 1)
    ∷ told 0 Reply.Okay
    ∷ told 0 (Reply.Data ((17 ∷ []) ++ replicate 4095 0))
    ∷ []

row06 : alone_run row06_steps ≡ row06_said
unfolding chunks_where
row06 = refl

row06_order : orderly row06_steps ≡ true
unfolding chunks_where
row06_order = refl

-- ---- row07
abbrev row07_steps : List Step
row07_steps =
    Step.Mount 0 65536 1024 None
    ∷ Step.Call 0 1 (Request.Alloc 176 1 false) Answer.None
    ∷ Step.Call 0 1 (Request.Read 1 5) (Answer.Content (replicate 4096 51))
    ∷ Step.Call 0 1 (Request.Hold 1 5) Answer.None
    ∷ Step.Call 0 1 (Request.Commit 1) Answer.None
    ∷ Step.Call 0 1 (Request.Alloc 176 1 false) Answer.None
    ∷ Step.Call 0 1 (Request.Get 2 5) Answer.None
    ∷ Step.Call 0 1 (Request.Join 2 5) Answer.None
    ∷ Step.Call 0 1 (Request.Cancel 2) Answer.None
    ∷ Step.Call 0 1 (Request.Alloc 176 1 false) Answer.None
    ∷ Step.Call 0 1 (Request.Get 3 5) Answer.None
    ∷ Step.Call 0 1 (Request.View 3 5) Answer.None
    ∷ []

abbrev row07_said : List Said
row07_said =
    told 0 (Reply.Life 1)
    ∷ told 0 (Reply.Trans 1)
    ∷ told 0 Reply.Okay
    ∷ told 0 Reply.Okay
    ∷ told 0 (Reply.CommittedHeld 0 (5 ∷ []))
    ∷ told 0 (Reply.Trans 2)
    ∷ told 0 (Reply.Refused Errno.Again)
    ∷ told 0 Reply.Okay
    ∷ told 0 Reply.Okay
    ∷ told 0 (Reply.Trans 3)
    ∷ told 0 Reply.Okay
    ∷ told 0 (Reply.Data (replicate 4096 51))
    ∷ []

row07 : alone_run row07_steps ≡ row07_said
unfolding chunks_where
row07 = refl

row07_order : orderly row07_steps ≡ true
unfolding chunks_where
row07_order = refl

-- ---- row08
abbrev row08_steps : List Step
row08_steps =
    Step.Mount 0 65536 1024 None
    ∷ Step.Call 0 1 (Request.Alloc 48 1 false) Answer.None
    ∷ Step.Call 0 1 (Request.Read 1 7) (Answer.Content (replicate 4096 85))
    ∷ Step.Call 0 1 (Request.Inval 1 7) Answer.None
    ∷ Step.Call 0 1 (Request.Commit 1) Answer.None
    ∷ Step.Call 0 1 (Request.Alloc 176 1 false) Answer.None
    ∷ Step.Call 0 1 (Request.Get 2 7) Answer.None
    ∷ Step.Call 0 1 Request.Force Answer.None
    ∷ Step.Post (name 0 1 JobKind.Ckpt 1)
    ∷ Step.Take 0 (name 0 1 JobKind.Ckpt 1)
    ∷ Step.Begin 0 (name 0 1 JobKind.Ckpt 1)
    ∷ Step.Call 0 1 (Request.Get 2 7) Answer.None
    ∷ Step.End 0 (name 0 1 JobKind.Ckpt 1) (record { taken = 1; sync = Some true })
    ∷ Step.Call 0 1 (Request.Get 2 7) Answer.None
    ∷ Step.Call 0 1 (Request.View 2 7) Answer.None
    ∷ Step.Call 0 1 Request.Push Answer.None
    ∷ Step.Post (name 0 1 JobKind.Flush 2)
    ∷ Step.Take 0 (name 0 1 JobKind.Flush 2)
    ∷ Step.Flush 0 (name 0 1 JobKind.Flush 2) (record { count = 0; writes = (false ∷ false ∷ false ∷ false ∷ false ∷ false ∷ false ∷ false ∷ []); sync = false })
    ∷ []

abbrev row08_said : List Said
row08_said =
    told 0 (Reply.Life 1)
    ∷ told 0 (Reply.Trans 1)
    ∷ told 0 Reply.Okay
    ∷ told 0 Reply.Okay
    ∷ told 0 (Reply.Committed 1)
    ∷ told 0 (Reply.Trans 2)
    ∷ told 0 (Reply.Refused Errno.Again)
    ∷ told 0 (Reply.Wait 1)
    ∷ told 0 Reply.Okay
    ∷ told 0 Reply.Okay
    ∷ told 0 (Reply.Begun 1 1)
    ∷ told 0 (Reply.Refused Errno.Again)
    ∷ said 0 (Reply.Landed 1) (LogOffer.Piece ((88 ∷ 67 ∷ 80 ∷ 49 ∷ []) ++ replicate 7 0 ++ (1 ∷ 0 ∷ 0 ∷ 0 ∷ 1 ∷ []) ++ replicate 7 0 ++ (7 ∷ []) ++ replicate 7 0 ++ (1 ∷ 88 ∷ 67 ∷ 69 ∷ 49 ∷ 0 ∷ 0 ∷ 0 ∷ 1 ∷ []) ++ replicate 7 0 ++ (1 ∷ [])) true ∷ LogOffer.Sync true ∷ []) []
    ∷ told 0 Reply.Okay
    ∷ told 0 (Reply.Data (replicate 4096 0))
    ∷ told 0 Reply.Okay
    ∷ told 0 Reply.Okay
    ∷ told 0 Reply.Okay
    ∷ told 0 Reply.Nothing
    ∷ []

row08 : alone_run row08_steps ≡ row08_said
unfolding chunks_where
row08 = refl

row08_order : orderly row08_steps ≡ true
unfolding chunks_where
row08_order = refl

-- ---- row09
abbrev row09_steps : List Step
row09_steps =
    Step.Mount 0 65536 1024 None
    ∷ Step.Call 0 1 (Request.Alloc 100 1 false) Answer.None
    ∷ Step.Call 0 1 (Request.Read 1 3) (Answer.Content (replicate 4096 3))
    ∷ Step.Call 0 1 (Request.Read 1 1) (Answer.Content (replicate 4096 1))
    ∷ Step.Call 0 1 (Request.Read 1 2) (Answer.Content (replicate 4096 2))
    ∷ Step.Call 0 1 (Request.Cancel 1) Answer.None
    ∷ Step.Call 0 1 (Request.Alloc 65536 1 false) Answer.None
    ∷ Step.Call 0 1 (Request.Read 2 3) Answer.None
    ∷ []

abbrev row09_said : List Said
row09_said =
    told 0 (Reply.Life 1)
    ∷ told 0 (Reply.Trans 1)
    ∷ told 0 Reply.Okay
    ∷ told 0 Reply.Okay
    ∷ told 0 Reply.Okay
    ∷ told 0 Reply.Okay
    ∷ told 0 (Reply.Trans 2)
    ∷ told 0 Reply.Okay
    ∷ []

row09 : alone_run row09_steps ≡ row09_said
unfolding chunks_where
row09 = refl

row09_order : orderly row09_steps ≡ true
unfolding chunks_where
row09_order = refl
