-- Scripts computed over the definitions: what each step of the mount alone says, and that the list is orderly.
-- Made by tools/row-theorems from the files of rows/.
use Rattle.std.proofs.Common.{◌≡◌, ℕ, List, [], ◌∷◌, ◌++◌, None, true, false, refl}
use Rattle.std.specs.Prelude.{replicate}
use Rattle.xt_base.specs.Alone.{Said, alone_run}
use Rattle.xt_base.specs.Chunks.{chunks_where}
use Rattle.xt_base.specs.Order.{in_order}
use Rattle.xt_base.specs.State.{empty}
use Rattle.xt_base.specs.declared.names.JobKind.{JobKind}
use Rattle.xt_base.specs.declared.names.JobName.{JobName}
use Rattle.xt_base.specs.declared.steps.Answer.TheVariants as Answer
use Rattle.xt_base.specs.declared.steps.HomeOffer.{HomeOffer}
use Rattle.xt_base.specs.declared.steps.LogOffer.{LogOffer}
use Rattle.xt_base.specs.declared.steps.Reply.{Reply}
use Rattle.xt_base.specs.declared.steps.Request.TheVariants as Request
use Rattle.xt_base.specs.declared.steps.Step.{Step}

-- the name of a job
abbrev name : ℕ → ℕ → JobKind → ℕ → JobName
name slot life kind serial = record { slot = slot; life = life; kind = kind; serial = serial }

-- a reply with offers, and one without
abbrev said : ℕ → Reply → List LogOffer → List HomeOffer → Said
said slot reply log home = record { slot = slot; reply = reply; log = log; home = home }

abbrev told : ℕ → Reply → Said
told slot reply = said slot reply [] []

-- ---- row16c
abbrev row16c_steps : List Step
row16c_steps =
    Step.Mount 0 65536 1024 None
    ∷ Step.Call 0 1 (Request.Alloc 1 1 false) Answer.None
    ∷ Step.Call 0 1 (Request.Read 1 0) (Answer.Content (replicate 4096 0))
    ∷ Step.Call 0 1 (Request.Relse 1 0) Answer.None
    ∷ Step.Call 0 1 (Request.Read 1 1) (Answer.Content (replicate 4096 1))
    ∷ Step.Call 0 1 (Request.Relse 1 1) Answer.None
    ∷ Step.Call 0 1 (Request.Read 1 2) (Answer.Content (replicate 4096 2))
    ∷ Step.Call 0 1 (Request.Relse 1 2) Answer.None
    ∷ Step.Call 0 1 (Request.Read 1 3) (Answer.Content (replicate 4096 3))
    ∷ Step.Call 0 1 (Request.Relse 1 3) Answer.None
    ∷ Step.Call 0 1 (Request.Read 1 4) (Answer.Content (replicate 4096 4))
    ∷ Step.Call 0 1 (Request.Relse 1 4) Answer.None
    ∷ Step.Call 0 1 (Request.Read 1 5) (Answer.Content (replicate 4096 5))
    ∷ Step.Call 0 1 (Request.Relse 1 5) Answer.None
    ∷ Step.Call 0 1 (Request.Read 1 6) (Answer.Content (replicate 4096 6))
    ∷ Step.Call 0 1 (Request.Relse 1 6) Answer.None
    ∷ Step.Call 0 1 (Request.Read 1 7) (Answer.Content (replicate 4096 7))
    ∷ Step.Call 0 1 (Request.Relse 1 7) Answer.None
    ∷ Step.Call 0 1 (Request.Read 1 8) (Answer.Content (replicate 4096 8))
    ∷ Step.Call 0 1 (Request.Relse 1 8) Answer.None
    ∷ Step.Call 0 1 (Request.Read 1 9) (Answer.Content (replicate 4096 9))
    ∷ Step.Call 0 1 (Request.Relse 1 9) Answer.None
    ∷ Step.Call 0 1 (Request.Read 1 10) (Answer.Content (replicate 4096 10))
    ∷ Step.Call 0 1 (Request.Relse 1 10) Answer.None
    ∷ Step.Call 0 1 (Request.Read 1 11) (Answer.Content (replicate 4096 11))
    ∷ Step.Call 0 1 (Request.Relse 1 11) Answer.None
    ∷ Step.Call 0 1 (Request.Read 1 12) (Answer.Content (replicate 4096 12))
    ∷ Step.Call 0 1 (Request.Relse 1 12) Answer.None
    ∷ Step.Call 0 1 (Request.Read 1 13) (Answer.Content (replicate 4096 13))
    ∷ Step.Call 0 1 (Request.Relse 1 13) Answer.None
    ∷ Step.Call 0 1 (Request.Read 1 14) (Answer.Content (replicate 4096 14))
    ∷ Step.Call 0 1 (Request.Relse 1 14) Answer.None
    ∷ Step.Call 0 1 (Request.Read 1 15) (Answer.Content (replicate 4096 15))
    ∷ Step.Call 0 1 (Request.Relse 1 15) Answer.None
    ∷ Step.Call 0 1 (Request.Read 1 16) (Answer.Content (replicate 4096 16))
    ∷ Step.Call 0 1 (Request.Relse 1 16) Answer.None
    ∷ Step.Call 0 1 (Request.Read 1 17) (Answer.Content (replicate 4096 17))
    ∷ Step.Call 0 1 (Request.Relse 1 17) Answer.None
    ∷ Step.Call 0 1 (Request.Read 1 18) (Answer.Content (replicate 4096 18))
    ∷ Step.Call 0 1 (Request.Relse 1 18) Answer.None
    ∷ Step.Call 0 1 (Request.Read 1 19) (Answer.Content (replicate 4096 19))
    ∷ Step.Call 0 1 (Request.Relse 1 19) Answer.None
    ∷ Step.Call 0 1 (Request.Read 1 20) (Answer.Content (replicate 4096 20))
    ∷ Step.Call 0 1 (Request.Relse 1 20) Answer.None
    ∷ Step.Call 0 1 (Request.Read 1 21) (Answer.Content (replicate 4096 21))
    ∷ Step.Call 0 1 (Request.Relse 1 21) Answer.None
    ∷ Step.Call 0 1 (Request.Read 1 22) (Answer.Content (replicate 4096 22))
    ∷ Step.Call 0 1 (Request.Relse 1 22) Answer.None
    ∷ Step.Call 0 1 (Request.Read 1 23) (Answer.Content (replicate 4096 23))
    ∷ Step.Call 0 1 (Request.Relse 1 23) Answer.None
    ∷ Step.Call 0 1 (Request.Read 1 24) (Answer.Content (replicate 4096 24))
    ∷ Step.Call 0 1 (Request.Relse 1 24) Answer.None
    ∷ Step.Call 0 1 (Request.Read 1 25) (Answer.Content (replicate 4096 25))
    ∷ Step.Call 0 1 (Request.Relse 1 25) Answer.None
    ∷ Step.Call 0 1 (Request.Read 1 26) (Answer.Content (replicate 4096 26))
    ∷ Step.Call 0 1 (Request.Relse 1 26) Answer.None
    ∷ Step.Call 0 1 (Request.Read 1 27) (Answer.Content (replicate 4096 27))
    ∷ Step.Call 0 1 (Request.Relse 1 27) Answer.None
    ∷ Step.Call 0 1 (Request.Read 1 28) (Answer.Content (replicate 4096 28))
    ∷ Step.Call 0 1 (Request.Relse 1 28) Answer.None
    ∷ Step.Call 0 1 (Request.Read 1 29) (Answer.Content (replicate 4096 29))
    ∷ Step.Call 0 1 (Request.Relse 1 29) Answer.None
    ∷ Step.Call 0 1 (Request.Read 1 30) (Answer.Content (replicate 4096 30))
    ∷ Step.Call 0 1 (Request.Relse 1 30) Answer.None
    ∷ Step.Call 0 1 (Request.Read 1 31) (Answer.Content (replicate 4096 31))
    ∷ Step.Call 0 1 (Request.Relse 1 31) Answer.None
    ∷ Step.Call 0 1 (Request.Read 1 32) (Answer.Content (replicate 4096 32))
    ∷ Step.Call 0 1 (Request.Relse 1 32) Answer.None
    ∷ Step.Call 0 1 (Request.Read 1 33) (Answer.Content (replicate 4096 33))
    ∷ Step.Call 0 1 (Request.Relse 1 33) Answer.None
    ∷ Step.Call 0 1 (Request.Read 1 34) (Answer.Content (replicate 4096 34))
    ∷ Step.Call 0 1 (Request.Relse 1 34) Answer.None
    ∷ Step.Call 0 1 (Request.Read 1 35) (Answer.Content (replicate 4096 35))
    ∷ Step.Call 0 1 (Request.Relse 1 35) Answer.None
    ∷ Step.Call 0 1 (Request.Read 1 36) (Answer.Content (replicate 4096 36))
    ∷ Step.Call 0 1 (Request.Relse 1 36) Answer.None
    ∷ Step.Call 0 1 (Request.Read 1 37) (Answer.Content (replicate 4096 37))
    ∷ Step.Call 0 1 (Request.Relse 1 37) Answer.None
    ∷ Step.Call 0 1 (Request.Read 1 38) (Answer.Content (replicate 4096 38))
    ∷ Step.Call 0 1 (Request.Relse 1 38) Answer.None
    ∷ Step.Call 0 1 (Request.Read 1 39) (Answer.Content (replicate 4096 39))
    ∷ Step.Call 0 1 (Request.Relse 1 39) Answer.None
    ∷ Step.Call 0 1 (Request.Read 1 40) (Answer.Content (replicate 4096 40))
    ∷ Step.Call 0 1 (Request.Relse 1 40) Answer.None
    ∷ Step.Call 0 1 (Request.Read 1 41) (Answer.Content (replicate 4096 41))
    ∷ Step.Call 0 1 (Request.Relse 1 41) Answer.None
    ∷ Step.Call 0 1 (Request.Read 1 42) (Answer.Content (replicate 4096 42))
    ∷ Step.Call 0 1 (Request.Relse 1 42) Answer.None
    ∷ Step.Call 0 1 (Request.Read 1 43) (Answer.Content (replicate 4096 43))
    ∷ Step.Call 0 1 (Request.Relse 1 43) Answer.None
    ∷ Step.Call 0 1 (Request.Read 1 44) (Answer.Content (replicate 4096 44))
    ∷ Step.Call 0 1 (Request.Relse 1 44) Answer.None
    ∷ Step.Call 0 1 (Request.Read 1 45) (Answer.Content (replicate 4096 45))
    ∷ Step.Call 0 1 (Request.Relse 1 45) Answer.None
    ∷ Step.Call 0 1 (Request.Read 1 46) (Answer.Content (replicate 4096 46))
    ∷ Step.Call 0 1 (Request.Relse 1 46) Answer.None
    ∷ Step.Call 0 1 (Request.Read 1 47) (Answer.Content (replicate 4096 47))
    ∷ Step.Call 0 1 (Request.Relse 1 47) Answer.None
    ∷ Step.Call 0 1 (Request.Read 1 48) (Answer.Content (replicate 4096 48))
    ∷ Step.Call 0 1 (Request.Relse 1 48) Answer.None
    ∷ Step.Call 0 1 (Request.Read 1 49) (Answer.Content (replicate 4096 49))
    ∷ Step.Call 0 1 (Request.Relse 1 49) Answer.None
    ∷ Step.Call 0 1 (Request.Read 1 50) (Answer.Content (replicate 4096 50))
    ∷ Step.Call 0 1 (Request.Relse 1 50) Answer.None
    ∷ Step.Call 0 1 (Request.Read 1 51) (Answer.Content (replicate 4096 51))
    ∷ Step.Call 0 1 (Request.Relse 1 51) Answer.None
    ∷ Step.Call 0 1 (Request.Read 1 52) (Answer.Content (replicate 4096 52))
    ∷ Step.Call 0 1 (Request.Relse 1 52) Answer.None
    ∷ Step.Call 0 1 (Request.Read 1 53) (Answer.Content (replicate 4096 53))
    ∷ Step.Call 0 1 (Request.Relse 1 53) Answer.None
    ∷ Step.Call 0 1 (Request.Read 1 54) (Answer.Content (replicate 4096 54))
    ∷ Step.Call 0 1 (Request.Relse 1 54) Answer.None
    ∷ Step.Call 0 1 (Request.Read 1 55) (Answer.Content (replicate 4096 55))
    ∷ Step.Call 0 1 (Request.Relse 1 55) Answer.None
    ∷ Step.Call 0 1 (Request.Read 1 56) (Answer.Content (replicate 4096 56))
    ∷ Step.Call 0 1 (Request.Relse 1 56) Answer.None
    ∷ Step.Call 0 1 (Request.Read 1 57) (Answer.Content (replicate 4096 57))
    ∷ Step.Call 0 1 (Request.Relse 1 57) Answer.None
    ∷ Step.Call 0 1 (Request.Read 1 58) (Answer.Content (replicate 4096 58))
    ∷ Step.Call 0 1 (Request.Relse 1 58) Answer.None
    ∷ Step.Call 0 1 (Request.Read 1 59) (Answer.Content (replicate 4096 59))
    ∷ Step.Call 0 1 (Request.Relse 1 59) Answer.None
    ∷ Step.Call 0 1 (Request.Read 1 60) (Answer.Content (replicate 4096 60))
    ∷ Step.Call 0 1 (Request.Relse 1 60) Answer.None
    ∷ Step.Call 0 1 (Request.Read 1 61) (Answer.Content (replicate 4096 61))
    ∷ Step.Call 0 1 (Request.Relse 1 61) Answer.None
    ∷ Step.Call 0 1 (Request.Read 1 62) (Answer.Content (replicate 4096 62))
    ∷ Step.Call 0 1 (Request.Relse 1 62) Answer.None
    ∷ Step.Call 0 1 (Request.Read 1 63) (Answer.Content (replicate 4096 63))
    ∷ Step.Call 0 1 (Request.Relse 1 63) Answer.None
    ∷ Step.Call 0 1 (Request.Read 1 64) (Answer.Content (replicate 4096 64))
    ∷ Step.Call 0 1 (Request.Relse 1 64) Answer.None
    ∷ Step.Call 0 1 (Request.Read 1 0) (Answer.Content (replicate 4096 0))
    ∷ Step.Call 0 1 (Request.Relse 1 0) Answer.None
    ∷ Step.Call 0 1 (Request.Read 1 1) (Answer.Content (replicate 4096 153))
    ∷ Step.Call 0 1 (Request.View 1 1) Answer.None
    ∷ []

abbrev row16c_said : List Said
row16c_said =
    told 0 (Reply.Life 1)
    ∷ told 0 (Reply.Trans 1)
    ∷ told 0 Reply.Okay
    ∷ told 0 Reply.Free
    ∷ told 0 Reply.Okay
    ∷ told 0 Reply.Free
    ∷ told 0 Reply.Okay
    ∷ told 0 Reply.Free
    ∷ told 0 Reply.Okay
    ∷ told 0 Reply.Free
    ∷ told 0 Reply.Okay
    ∷ told 0 Reply.Free
    ∷ told 0 Reply.Okay
    ∷ told 0 Reply.Free
    ∷ told 0 Reply.Okay
    ∷ told 0 Reply.Free
    ∷ told 0 Reply.Okay
    ∷ told 0 Reply.Free
    ∷ told 0 Reply.Okay
    ∷ told 0 Reply.Free
    ∷ told 0 Reply.Okay
    ∷ told 0 Reply.Free
    ∷ told 0 Reply.Okay
    ∷ told 0 Reply.Free
    ∷ told 0 Reply.Okay
    ∷ told 0 Reply.Free
    ∷ told 0 Reply.Okay
    ∷ told 0 Reply.Free
    ∷ told 0 Reply.Okay
    ∷ told 0 Reply.Free
    ∷ told 0 Reply.Okay
    ∷ told 0 Reply.Free
    ∷ told 0 Reply.Okay
    ∷ told 0 Reply.Free
    ∷ told 0 Reply.Okay
    ∷ told 0 Reply.Free
    ∷ told 0 Reply.Okay
    ∷ told 0 Reply.Free
    ∷ told 0 Reply.Okay
    ∷ told 0 Reply.Free
    ∷ told 0 Reply.Okay
    ∷ told 0 Reply.Free
    ∷ told 0 Reply.Okay
    ∷ told 0 Reply.Free
    ∷ told 0 Reply.Okay
    ∷ told 0 Reply.Free
    ∷ told 0 Reply.Okay
    ∷ told 0 Reply.Free
    ∷ told 0 Reply.Okay
    ∷ told 0 Reply.Free
    ∷ told 0 Reply.Okay
    ∷ told 0 Reply.Free
    ∷ told 0 Reply.Okay
    ∷ told 0 Reply.Free
    ∷ told 0 Reply.Okay
    ∷ told 0 Reply.Free
    ∷ told 0 Reply.Okay
    ∷ told 0 Reply.Free
    ∷ told 0 Reply.Okay
    ∷ told 0 Reply.Free
    ∷ told 0 Reply.Okay
    ∷ told 0 Reply.Free
    ∷ told 0 Reply.Okay
    ∷ told 0 Reply.Free
    ∷ told 0 Reply.Okay
    ∷ told 0 Reply.Free
    ∷ told 0 Reply.Okay
    ∷ told 0 Reply.Free
    ∷ told 0 Reply.Okay
    ∷ told 0 Reply.Free
    ∷ told 0 Reply.Okay
    ∷ told 0 Reply.Free
    ∷ told 0 Reply.Okay
    ∷ told 0 Reply.Free
    ∷ told 0 Reply.Okay
    ∷ told 0 Reply.Free
    ∷ told 0 Reply.Okay
    ∷ told 0 Reply.Free
    ∷ told 0 Reply.Okay
    ∷ told 0 Reply.Free
    ∷ told 0 Reply.Okay
    ∷ told 0 Reply.Free
    ∷ told 0 Reply.Okay
    ∷ told 0 Reply.Free
    ∷ told 0 Reply.Okay
    ∷ told 0 Reply.Free
    ∷ told 0 Reply.Okay
    ∷ told 0 Reply.Free
    ∷ told 0 Reply.Okay
    ∷ told 0 Reply.Free
    ∷ told 0 Reply.Okay
    ∷ told 0 Reply.Free
    ∷ told 0 Reply.Okay
    ∷ told 0 Reply.Free
    ∷ told 0 Reply.Okay
    ∷ told 0 Reply.Free
    ∷ told 0 Reply.Okay
    ∷ told 0 Reply.Free
    ∷ told 0 Reply.Okay
    ∷ told 0 Reply.Free
    ∷ told 0 Reply.Okay
    ∷ told 0 Reply.Free
    ∷ told 0 Reply.Okay
    ∷ told 0 Reply.Free
    ∷ told 0 Reply.Okay
    ∷ told 0 Reply.Free
    ∷ told 0 Reply.Okay
    ∷ told 0 Reply.Free
    ∷ told 0 Reply.Okay
    ∷ told 0 Reply.Free
    ∷ told 0 Reply.Okay
    ∷ told 0 Reply.Free
    ∷ told 0 Reply.Okay
    ∷ told 0 Reply.Free
    ∷ told 0 Reply.Okay
    ∷ told 0 Reply.Free
    ∷ told 0 Reply.Okay
    ∷ told 0 Reply.Free
    ∷ told 0 Reply.Okay
    ∷ told 0 Reply.Free
    ∷ told 0 Reply.Okay
    ∷ told 0 Reply.Free
    ∷ told 0 Reply.Okay
    ∷ told 0 Reply.Free
    ∷ told 0 Reply.Okay
    ∷ told 0 Reply.Free
    ∷ told 0 Reply.Okay
    ∷ told 0 Reply.Free
    ∷ told 0 Reply.Okay
    ∷ told 0 Reply.Free
    ∷ told 0 Reply.Okay
    ∷ told 0 Reply.Free
    ∷ told 0 Reply.Okay
    ∷ told 0 Reply.Free
    ∷ told 0 Reply.Okay
    ∷ told 0 (Reply.Data (replicate 4096 153))
    ∷ []

row16c : alone_run row16c_steps ≡ row16c_said
unfolding chunks_where
row16c = refl

row16c_order : in_order [] empty row16c_steps ≡ true
unfolding chunks_where
row16c_order = refl

-- ---- row16d
abbrev row16d_steps : List Step
row16d_steps =
    Step.Mount 0 65536 1024 None
    ∷ Step.Call 0 1 (Request.Alloc 1 1 false) Answer.None
    ∷ Step.Call 0 1 (Request.Read 1 0) (Answer.Content (replicate 4096 0))
    ∷ Step.Call 0 1 (Request.Relse 1 0) Answer.None
    ∷ Step.Call 0 1 (Request.Read 1 1) (Answer.Content (replicate 4096 1))
    ∷ Step.Call 0 1 (Request.Relse 1 1) Answer.None
    ∷ Step.Call 0 1 (Request.Read 1 2) (Answer.Content (replicate 4096 2))
    ∷ Step.Call 0 1 (Request.Relse 1 2) Answer.None
    ∷ Step.Call 0 1 (Request.Read 1 3) (Answer.Content (replicate 4096 3))
    ∷ Step.Call 0 1 (Request.Relse 1 3) Answer.None
    ∷ Step.Call 0 1 (Request.Read 1 4) (Answer.Content (replicate 4096 4))
    ∷ Step.Call 0 1 (Request.Relse 1 4) Answer.None
    ∷ Step.Call 0 1 (Request.Read 1 5) (Answer.Content (replicate 4096 5))
    ∷ Step.Call 0 1 (Request.Relse 1 5) Answer.None
    ∷ Step.Call 0 1 (Request.Read 1 6) (Answer.Content (replicate 4096 6))
    ∷ Step.Call 0 1 (Request.Relse 1 6) Answer.None
    ∷ Step.Call 0 1 (Request.Read 1 7) (Answer.Content (replicate 4096 7))
    ∷ Step.Call 0 1 (Request.Relse 1 7) Answer.None
    ∷ Step.Call 0 1 (Request.Read 1 8) (Answer.Content (replicate 4096 8))
    ∷ Step.Call 0 1 (Request.Relse 1 8) Answer.None
    ∷ Step.Call 0 1 (Request.Read 1 9) (Answer.Content (replicate 4096 9))
    ∷ Step.Call 0 1 (Request.Relse 1 9) Answer.None
    ∷ Step.Call 0 1 (Request.Read 1 10) (Answer.Content (replicate 4096 10))
    ∷ Step.Call 0 1 (Request.Relse 1 10) Answer.None
    ∷ Step.Call 0 1 (Request.Read 1 11) (Answer.Content (replicate 4096 11))
    ∷ Step.Call 0 1 (Request.Relse 1 11) Answer.None
    ∷ Step.Call 0 1 (Request.Read 1 12) (Answer.Content (replicate 4096 12))
    ∷ Step.Call 0 1 (Request.Relse 1 12) Answer.None
    ∷ Step.Call 0 1 (Request.Read 1 13) (Answer.Content (replicate 4096 13))
    ∷ Step.Call 0 1 (Request.Relse 1 13) Answer.None
    ∷ Step.Call 0 1 (Request.Read 1 14) (Answer.Content (replicate 4096 14))
    ∷ Step.Call 0 1 (Request.Relse 1 14) Answer.None
    ∷ Step.Call 0 1 (Request.Read 1 15) (Answer.Content (replicate 4096 15))
    ∷ Step.Call 0 1 (Request.Relse 1 15) Answer.None
    ∷ Step.Call 0 1 (Request.Read 1 16) (Answer.Content (replicate 4096 16))
    ∷ Step.Call 0 1 (Request.Relse 1 16) Answer.None
    ∷ Step.Call 0 1 (Request.Read 1 17) (Answer.Content (replicate 4096 17))
    ∷ Step.Call 0 1 (Request.Relse 1 17) Answer.None
    ∷ Step.Call 0 1 (Request.Read 1 18) (Answer.Content (replicate 4096 18))
    ∷ Step.Call 0 1 (Request.Relse 1 18) Answer.None
    ∷ Step.Call 0 1 (Request.Read 1 19) (Answer.Content (replicate 4096 19))
    ∷ Step.Call 0 1 (Request.Relse 1 19) Answer.None
    ∷ Step.Call 0 1 (Request.Read 1 20) (Answer.Content (replicate 4096 20))
    ∷ Step.Call 0 1 (Request.Relse 1 20) Answer.None
    ∷ Step.Call 0 1 (Request.Read 1 21) (Answer.Content (replicate 4096 21))
    ∷ Step.Call 0 1 (Request.Relse 1 21) Answer.None
    ∷ Step.Call 0 1 (Request.Read 1 22) (Answer.Content (replicate 4096 22))
    ∷ Step.Call 0 1 (Request.Relse 1 22) Answer.None
    ∷ Step.Call 0 1 (Request.Read 1 23) (Answer.Content (replicate 4096 23))
    ∷ Step.Call 0 1 (Request.Relse 1 23) Answer.None
    ∷ Step.Call 0 1 (Request.Read 1 24) (Answer.Content (replicate 4096 24))
    ∷ Step.Call 0 1 (Request.Relse 1 24) Answer.None
    ∷ Step.Call 0 1 (Request.Read 1 25) (Answer.Content (replicate 4096 25))
    ∷ Step.Call 0 1 (Request.Relse 1 25) Answer.None
    ∷ Step.Call 0 1 (Request.Read 1 26) (Answer.Content (replicate 4096 26))
    ∷ Step.Call 0 1 (Request.Relse 1 26) Answer.None
    ∷ Step.Call 0 1 (Request.Read 1 27) (Answer.Content (replicate 4096 27))
    ∷ Step.Call 0 1 (Request.Relse 1 27) Answer.None
    ∷ Step.Call 0 1 (Request.Read 1 28) (Answer.Content (replicate 4096 28))
    ∷ Step.Call 0 1 (Request.Relse 1 28) Answer.None
    ∷ Step.Call 0 1 (Request.Read 1 29) (Answer.Content (replicate 4096 29))
    ∷ Step.Call 0 1 (Request.Relse 1 29) Answer.None
    ∷ Step.Call 0 1 (Request.Read 1 30) (Answer.Content (replicate 4096 30))
    ∷ Step.Call 0 1 (Request.Relse 1 30) Answer.None
    ∷ Step.Call 0 1 (Request.Read 1 31) (Answer.Content (replicate 4096 31))
    ∷ Step.Call 0 1 (Request.Relse 1 31) Answer.None
    ∷ Step.Call 0 1 (Request.Read 1 32) (Answer.Content (replicate 4096 32))
    ∷ Step.Call 0 1 (Request.Relse 1 32) Answer.None
    ∷ Step.Call 0 1 (Request.Read 1 33) (Answer.Content (replicate 4096 33))
    ∷ Step.Call 0 1 (Request.Relse 1 33) Answer.None
    ∷ Step.Call 0 1 (Request.Read 1 34) (Answer.Content (replicate 4096 34))
    ∷ Step.Call 0 1 (Request.Relse 1 34) Answer.None
    ∷ Step.Call 0 1 (Request.Read 1 35) (Answer.Content (replicate 4096 35))
    ∷ Step.Call 0 1 (Request.Relse 1 35) Answer.None
    ∷ Step.Call 0 1 (Request.Read 1 36) (Answer.Content (replicate 4096 36))
    ∷ Step.Call 0 1 (Request.Relse 1 36) Answer.None
    ∷ Step.Call 0 1 (Request.Read 1 37) (Answer.Content (replicate 4096 37))
    ∷ Step.Call 0 1 (Request.Relse 1 37) Answer.None
    ∷ Step.Call 0 1 (Request.Read 1 38) (Answer.Content (replicate 4096 38))
    ∷ Step.Call 0 1 (Request.Relse 1 38) Answer.None
    ∷ Step.Call 0 1 (Request.Read 1 39) (Answer.Content (replicate 4096 39))
    ∷ Step.Call 0 1 (Request.Relse 1 39) Answer.None
    ∷ Step.Call 0 1 (Request.Read 1 40) (Answer.Content (replicate 4096 40))
    ∷ Step.Call 0 1 (Request.Relse 1 40) Answer.None
    ∷ Step.Call 0 1 (Request.Read 1 41) (Answer.Content (replicate 4096 41))
    ∷ Step.Call 0 1 (Request.Relse 1 41) Answer.None
    ∷ Step.Call 0 1 (Request.Read 1 42) (Answer.Content (replicate 4096 42))
    ∷ Step.Call 0 1 (Request.Relse 1 42) Answer.None
    ∷ Step.Call 0 1 (Request.Read 1 43) (Answer.Content (replicate 4096 43))
    ∷ Step.Call 0 1 (Request.Relse 1 43) Answer.None
    ∷ Step.Call 0 1 (Request.Read 1 44) (Answer.Content (replicate 4096 44))
    ∷ Step.Call 0 1 (Request.Relse 1 44) Answer.None
    ∷ Step.Call 0 1 (Request.Read 1 45) (Answer.Content (replicate 4096 45))
    ∷ Step.Call 0 1 (Request.Relse 1 45) Answer.None
    ∷ Step.Call 0 1 (Request.Read 1 46) (Answer.Content (replicate 4096 46))
    ∷ Step.Call 0 1 (Request.Relse 1 46) Answer.None
    ∷ Step.Call 0 1 (Request.Read 1 47) (Answer.Content (replicate 4096 47))
    ∷ Step.Call 0 1 (Request.Relse 1 47) Answer.None
    ∷ Step.Call 0 1 (Request.Read 1 48) (Answer.Content (replicate 4096 48))
    ∷ Step.Call 0 1 (Request.Relse 1 48) Answer.None
    ∷ Step.Call 0 1 (Request.Read 1 49) (Answer.Content (replicate 4096 49))
    ∷ Step.Call 0 1 (Request.Relse 1 49) Answer.None
    ∷ Step.Call 0 1 (Request.Read 1 50) (Answer.Content (replicate 4096 50))
    ∷ Step.Call 0 1 (Request.Relse 1 50) Answer.None
    ∷ Step.Call 0 1 (Request.Read 1 51) (Answer.Content (replicate 4096 51))
    ∷ Step.Call 0 1 (Request.Relse 1 51) Answer.None
    ∷ Step.Call 0 1 (Request.Read 1 52) (Answer.Content (replicate 4096 52))
    ∷ Step.Call 0 1 (Request.Relse 1 52) Answer.None
    ∷ Step.Call 0 1 (Request.Read 1 53) (Answer.Content (replicate 4096 53))
    ∷ Step.Call 0 1 (Request.Relse 1 53) Answer.None
    ∷ Step.Call 0 1 (Request.Read 1 54) (Answer.Content (replicate 4096 54))
    ∷ Step.Call 0 1 (Request.Relse 1 54) Answer.None
    ∷ Step.Call 0 1 (Request.Read 1 55) (Answer.Content (replicate 4096 55))
    ∷ Step.Call 0 1 (Request.Relse 1 55) Answer.None
    ∷ Step.Call 0 1 (Request.Read 1 56) (Answer.Content (replicate 4096 56))
    ∷ Step.Call 0 1 (Request.Relse 1 56) Answer.None
    ∷ Step.Call 0 1 (Request.Read 1 57) (Answer.Content (replicate 4096 57))
    ∷ Step.Call 0 1 (Request.Relse 1 57) Answer.None
    ∷ Step.Call 0 1 (Request.Read 1 58) (Answer.Content (replicate 4096 58))
    ∷ Step.Call 0 1 (Request.Relse 1 58) Answer.None
    ∷ Step.Call 0 1 (Request.Read 1 59) (Answer.Content (replicate 4096 59))
    ∷ Step.Call 0 1 (Request.Relse 1 59) Answer.None
    ∷ Step.Call 0 1 (Request.Read 1 60) (Answer.Content (replicate 4096 60))
    ∷ Step.Call 0 1 (Request.Relse 1 60) Answer.None
    ∷ Step.Call 0 1 (Request.Read 1 61) (Answer.Content (replicate 4096 61))
    ∷ Step.Call 0 1 (Request.Relse 1 61) Answer.None
    ∷ Step.Call 0 1 (Request.Read 1 62) (Answer.Content (replicate 4096 62))
    ∷ Step.Call 0 1 (Request.Relse 1 62) Answer.None
    ∷ Step.Call 0 1 (Request.Read 1 63) (Answer.Content (replicate 4096 63))
    ∷ Step.Call 0 1 (Request.Relse 1 63) Answer.None
    ∷ Step.Call 0 1 (Request.Read 1 64) (Answer.Content (replicate 4096 64))
    ∷ Step.Call 0 1 (Request.Relse 1 64) Answer.None
    ∷ []

abbrev row16d_said : List Said
row16d_said =
    told 0 (Reply.Life 1)
    ∷ told 0 (Reply.Trans 1)
    ∷ told 0 Reply.Okay
    ∷ told 0 Reply.Free
    ∷ told 0 Reply.Okay
    ∷ told 0 Reply.Free
    ∷ told 0 Reply.Okay
    ∷ told 0 Reply.Free
    ∷ told 0 Reply.Okay
    ∷ told 0 Reply.Free
    ∷ told 0 Reply.Okay
    ∷ told 0 Reply.Free
    ∷ told 0 Reply.Okay
    ∷ told 0 Reply.Free
    ∷ told 0 Reply.Okay
    ∷ told 0 Reply.Free
    ∷ told 0 Reply.Okay
    ∷ told 0 Reply.Free
    ∷ told 0 Reply.Okay
    ∷ told 0 Reply.Free
    ∷ told 0 Reply.Okay
    ∷ told 0 Reply.Free
    ∷ told 0 Reply.Okay
    ∷ told 0 Reply.Free
    ∷ told 0 Reply.Okay
    ∷ told 0 Reply.Free
    ∷ told 0 Reply.Okay
    ∷ told 0 Reply.Free
    ∷ told 0 Reply.Okay
    ∷ told 0 Reply.Free
    ∷ told 0 Reply.Okay
    ∷ told 0 Reply.Free
    ∷ told 0 Reply.Okay
    ∷ told 0 Reply.Free
    ∷ told 0 Reply.Okay
    ∷ told 0 Reply.Free
    ∷ told 0 Reply.Okay
    ∷ told 0 Reply.Free
    ∷ told 0 Reply.Okay
    ∷ told 0 Reply.Free
    ∷ told 0 Reply.Okay
    ∷ told 0 Reply.Free
    ∷ told 0 Reply.Okay
    ∷ told 0 Reply.Free
    ∷ told 0 Reply.Okay
    ∷ told 0 Reply.Free
    ∷ told 0 Reply.Okay
    ∷ told 0 Reply.Free
    ∷ told 0 Reply.Okay
    ∷ told 0 Reply.Free
    ∷ told 0 Reply.Okay
    ∷ told 0 Reply.Free
    ∷ told 0 Reply.Okay
    ∷ told 0 Reply.Free
    ∷ told 0 Reply.Okay
    ∷ told 0 Reply.Free
    ∷ told 0 Reply.Okay
    ∷ told 0 Reply.Free
    ∷ told 0 Reply.Okay
    ∷ told 0 Reply.Free
    ∷ told 0 Reply.Okay
    ∷ told 0 Reply.Free
    ∷ told 0 Reply.Okay
    ∷ told 0 Reply.Free
    ∷ told 0 Reply.Okay
    ∷ told 0 Reply.Free
    ∷ told 0 Reply.Okay
    ∷ told 0 Reply.Free
    ∷ told 0 Reply.Okay
    ∷ told 0 Reply.Free
    ∷ told 0 Reply.Okay
    ∷ told 0 Reply.Free
    ∷ told 0 Reply.Okay
    ∷ told 0 Reply.Free
    ∷ told 0 Reply.Okay
    ∷ told 0 Reply.Free
    ∷ told 0 Reply.Okay
    ∷ told 0 Reply.Free
    ∷ told 0 Reply.Okay
    ∷ told 0 Reply.Free
    ∷ told 0 Reply.Okay
    ∷ told 0 Reply.Free
    ∷ told 0 Reply.Okay
    ∷ told 0 Reply.Free
    ∷ told 0 Reply.Okay
    ∷ told 0 Reply.Free
    ∷ told 0 Reply.Okay
    ∷ told 0 Reply.Free
    ∷ told 0 Reply.Okay
    ∷ told 0 Reply.Free
    ∷ told 0 Reply.Okay
    ∷ told 0 Reply.Free
    ∷ told 0 Reply.Okay
    ∷ told 0 Reply.Free
    ∷ told 0 Reply.Okay
    ∷ told 0 Reply.Free
    ∷ told 0 Reply.Okay
    ∷ told 0 Reply.Free
    ∷ told 0 Reply.Okay
    ∷ told 0 Reply.Free
    ∷ told 0 Reply.Okay
    ∷ told 0 Reply.Free
    ∷ told 0 Reply.Okay
    ∷ told 0 Reply.Free
    ∷ told 0 Reply.Okay
    ∷ told 0 Reply.Free
    ∷ told 0 Reply.Okay
    ∷ told 0 Reply.Free
    ∷ told 0 Reply.Okay
    ∷ told 0 Reply.Free
    ∷ told 0 Reply.Okay
    ∷ told 0 Reply.Free
    ∷ told 0 Reply.Okay
    ∷ told 0 Reply.Free
    ∷ told 0 Reply.Okay
    ∷ told 0 Reply.Free
    ∷ told 0 Reply.Okay
    ∷ told 0 Reply.Free
    ∷ told 0 Reply.Okay
    ∷ told 0 Reply.Free
    ∷ told 0 Reply.Okay
    ∷ told 0 Reply.Free
    ∷ told 0 Reply.Okay
    ∷ told 0 Reply.Free
    ∷ told 0 Reply.Okay
    ∷ told 0 Reply.Free
    ∷ told 0 Reply.Okay
    ∷ told 0 Reply.Free
    ∷ told 0 Reply.Okay
    ∷ told 0 Reply.Free
    ∷ told 0 Reply.Okay
    ∷ told 0 Reply.Free
    ∷ []

row16d : alone_run row16d_steps ≡ row16d_said
unfolding chunks_where
row16d = refl

row16d_order : in_order [] empty row16d_steps ≡ true
unfolding chunks_where
row16d_order = refl

row16d_breaks : in_order [] empty (row16d_steps ++ Step.Call 0 1 (Request.Read 1 0) Answer.None ∷ []) ≡ false
unfolding chunks_where
row16d_breaks = refl
