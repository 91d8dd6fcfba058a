-- Scripts computed over the definitions: what each step of the mount alone says, and that the list is orderly.
-- Made by tools/row-theorems from the files of rows/.
use Rattle.std.proofs.Common.{◌≡◌, ℕ, List, [], ◌∷◌, ◌++◌, Some, None, Bool, true, false, map, refl}
use Rattle.std.specs.Prelude.{replicate}
use Rattle.xt_base.specs.Alone.{Said, alone_run}
use Rattle.xt_base.specs.Chunks.{chunks_where}
use Rattle.xt_base.specs.Order.{first_disorder, in_order, orderly}
use Rattle.xt_base.specs.State.{empty}
use Rattle.xt_base.specs.declared.names.JobKind.{JobKind}
use Rattle.xt_base.specs.declared.names.JobKind.TheVariants as JobKind
use Rattle.xt_base.specs.declared.names.JobName.{JobName}
use Rattle.xt_base.specs.declared.steps.Answer.TheVariants as Answer
use Rattle.xt_base.specs.declared.steps.Errno.TheVariants as Errno
use Rattle.xt_base.specs.declared.steps.HomeOffer.{HomeOffer}
use Rattle.xt_base.specs.declared.steps.HomeOffer.TheVariants as HomeOffer
use Rattle.xt_base.specs.declared.steps.LogOffer.{LogOffer}
use Rattle.xt_base.specs.declared.steps.LogOffer.TheVariants as LogOffer
use Rattle.xt_base.specs.declared.steps.Reason.TheVariants as Reason
use Rattle.xt_base.specs.declared.steps.Reply.{Reply}
use Rattle.xt_base.specs.declared.steps.Reply.TheVariants as Reply
use Rattle.xt_base.specs.declared.steps.Request.TheVariants as Request
use Rattle.xt_base.specs.declared.steps.Step.{Step}
use Rattle.xt_base.specs.declared.steps.Step.TheVariants as Step

-- the name of a job
abbrev name : ℕ → ℕ → JobKind → ℕ → JobName
name slot life kind serial = record { slot = slot; life = life; kind = kind; serial = serial }

-- a reply with offers, and one without
abbrev said : ℕ → Reply → List LogOffer → List HomeOffer → Said
said slot reply log home = record { slot = slot; reply = reply; log = log; home = home }

abbrev told : ℕ → Reply → Said
told slot reply = said slot reply [] []

-- ---- edge.pieces.65
abbrev edge_pieces_65_steps : List Step
edge_pieces_65_steps =
    Step.Mount 0 16777216 1024 None
    ∷ Step.Call 0 1 (Request.Alloc 263200 1 false) Answer.None
    ∷ Step.Call 0 1 (Request.Get 1 0) Answer.None
    ∷ Step.Call 0 1 (Request.Log 0 1 0 (replicate 4096 1)) Answer.None
    ∷ Step.Call 0 1 (Request.Get 1 1) Answer.None
    ∷ Step.Call 0 1 (Request.Log 0 1 1 (replicate 4096 2)) Answer.None
    ∷ Step.Call 0 1 (Request.Get 1 2) Answer.None
    ∷ Step.Call 0 1 (Request.Log 0 1 2 (replicate 4096 3)) Answer.None
    ∷ Step.Call 0 1 (Request.Get 1 3) Answer.None
    ∷ Step.Call 0 1 (Request.Log 0 1 3 (replicate 4096 4)) Answer.None
    ∷ Step.Call 0 1 (Request.Get 1 4) Answer.None
    ∷ Step.Call 0 1 (Request.Log 0 1 4 (replicate 4096 5)) Answer.None
    ∷ Step.Call 0 1 (Request.Get 1 5) Answer.None
    ∷ Step.Call 0 1 (Request.Log 0 1 5 (replicate 4096 6)) Answer.None
    ∷ Step.Call 0 1 (Request.Get 1 6) Answer.None
    ∷ Step.Call 0 1 (Request.Log 0 1 6 (replicate 4096 7)) Answer.None
    ∷ Step.Call 0 1 (Request.Get 1 7) Answer.None
    ∷ Step.Call 0 1 (Request.Log 0 1 7 (replicate 4096 8)) Answer.None
    ∷ Step.Call 0 1 (Request.Get 1 8) Answer.None
    ∷ Step.Call 0 1 (Request.Log 0 1 8 (replicate 4096 9)) Answer.None
    ∷ Step.Call 0 1 (Request.Get 1 9) Answer.None
    ∷ Step.Call 0 1 (Request.Log 0 1 9 (replicate 4096 10)) Answer.None
    ∷ Step.Call 0 1 (Request.Get 1 10) Answer.None
    ∷ Step.Call 0 1 (Request.Log 0 1 10 (replicate 4096 11)) Answer.None
    ∷ Step.Call 0 1 (Request.Get 1 11) Answer.None
    ∷ Step.Call 0 1 (Request.Log 0 1 11 (replicate 4096 12)) Answer.None
    ∷ Step.Call 0 1 (Request.Get 1 12) Answer.None
    ∷ Step.Call 0 1 (Request.Log 0 1 12 (replicate 4096 13)) Answer.None
    ∷ Step.Call 0 1 (Request.Get 1 13) Answer.None
    ∷ Step.Call 0 1 (Request.Log 0 1 13 (replicate 4096 14)) Answer.None
    ∷ Step.Call 0 1 (Request.Get 1 14) Answer.None
    ∷ Step.Call 0 1 (Request.Log 0 1 14 (replicate 4096 15)) Answer.None
    ∷ Step.Call 0 1 (Request.Get 1 15) Answer.None
    ∷ Step.Call 0 1 (Request.Log 0 1 15 (replicate 4096 16)) Answer.None
    ∷ Step.Call 0 1 (Request.Get 1 16) Answer.None
    ∷ Step.Call 0 1 (Request.Log 0 1 16 (replicate 4096 17)) Answer.None
    ∷ Step.Call 0 1 (Request.Get 1 17) Answer.None
    ∷ Step.Call 0 1 (Request.Log 0 1 17 (replicate 4096 18)) Answer.None
    ∷ Step.Call 0 1 (Request.Get 1 18) Answer.None
    ∷ Step.Call 0 1 (Request.Log 0 1 18 (replicate 4096 19)) Answer.None
    ∷ Step.Call 0 1 (Request.Get 1 19) Answer.None
    ∷ Step.Call 0 1 (Request.Log 0 1 19 (replicate 4096 20)) Answer.None
    ∷ Step.Call 0 1 (Request.Get 1 20) Answer.None
    ∷ Step.Call 0 1 (Request.Log 0 1 20 (replicate 4096 21)) Answer.None
    ∷ Step.Call 0 1 (Request.Get 1 21) Answer.None
    ∷ Step.Call 0 1 (Request.Log 0 1 21 (replicate 4096 22)) Answer.None
    ∷ Step.Call 0 1 (Request.Get 1 22) Answer.None
    ∷ Step.Call 0 1 (Request.Log 0 1 22 (replicate 4096 23)) Answer.None
    ∷ Step.Call 0 1 (Request.Get 1 23) Answer.None
    ∷ Step.Call 0 1 (Request.Log 0 1 23 (replicate 4096 24)) Answer.None
    ∷ Step.Call 0 1 (Request.Get 1 24) Answer.None
    ∷ Step.Call 0 1 (Request.Log 0 1 24 (replicate 4096 25)) Answer.None
    ∷ Step.Call 0 1 (Request.Get 1 25) Answer.None
    ∷ Step.Call 0 1 (Request.Log 0 1 25 (replicate 4096 26)) Answer.None
    ∷ Step.Call 0 1 (Request.Get 1 26) Answer.None
    ∷ Step.Call 0 1 (Request.Log 0 1 26 (replicate 4096 27)) Answer.None
    ∷ Step.Call 0 1 (Request.Get 1 27) Answer.None
    ∷ Step.Call 0 1 (Request.Log 0 1 27 (replicate 4096 28)) Answer.None
    ∷ Step.Call 0 1 (Request.Get 1 28) Answer.None
    ∷ Step.Call 0 1 (Request.Log 0 1 28 (replicate 4096 29)) Answer.None
    ∷ Step.Call 0 1 (Request.Get 1 29) Answer.None
    ∷ Step.Call 0 1 (Request.Log 0 1 29 (replicate 4096 30)) Answer.None
    ∷ Step.Call 0 1 (Request.Get 1 30) Answer.None
    ∷ Step.Call 0 1 (Request.Log 0 1 30 (replicate 4096 31)) Answer.None
    ∷ Step.Call 0 1 (Request.Get 1 31) Answer.None
    ∷ Step.Call 0 1 (Request.Log 0 1 31 (replicate 4096 32)) Answer.None
    ∷ Step.Call 0 1 (Request.Get 1 32) Answer.None
    ∷ Step.Call 0 1 (Request.Log 0 1 32 (replicate 4096 33)) Answer.None
    ∷ Step.Call 0 1 (Request.Get 1 33) Answer.None
    ∷ Step.Call 0 1 (Request.Log 0 1 33 (replicate 4096 34)) Answer.None
    ∷ Step.Call 0 1 (Request.Get 1 34) Answer.None
    ∷ Step.Call 0 1 (Request.Log 0 1 34 (replicate 4096 35)) Answer.None
    ∷ Step.Call 0 1 (Request.Get 1 35) Answer.None
    ∷ Step.Call 0 1 (Request.Log 0 1 35 (replicate 4096 36)) Answer.None
    ∷ Step.Call 0 1 (Request.Get 1 36) Answer.None
    ∷ Step.Call 0 1 (Request.Log 0 1 36 (replicate 4096 37)) Answer.None
    ∷ Step.Call 0 1 (Request.Get 1 37) Answer.None
    ∷ Step.Call 0 1 (Request.Log 0 1 37 (replicate 4096 38)) Answer.None
    ∷ Step.Call 0 1 (Request.Get 1 38) Answer.None
    ∷ Step.Call 0 1 (Request.Log 0 1 38 (replicate 4096 39)) Answer.None
    ∷ Step.Call 0 1 (Request.Get 1 39) Answer.None
    ∷ Step.Call 0 1 (Request.Log 0 1 39 (replicate 4096 40)) Answer.None
    ∷ Step.Call 0 1 (Request.Get 1 40) Answer.None
    ∷ Step.Call 0 1 (Request.Log 0 1 40 (replicate 4096 41)) Answer.None
    ∷ Step.Call 0 1 (Request.Get 1 41) Answer.None
    ∷ Step.Call 0 1 (Request.Log 0 1 41 (replicate 4096 42)) Answer.None
    ∷ Step.Call 0 1 (Request.Get 1 42) Answer.None
    ∷ Step.Call 0 1 (Request.Log 0 1 42 (replicate 4096 43)) Answer.None
    ∷ Step.Call 0 1 (Request.Get 1 43) Answer.None
    ∷ Step.Call 0 1 (Request.Log 0 1 43 (replicate 4096 44)) Answer.None
    ∷ Step.Call 0 1 (Request.Get 1 44) Answer.None
    ∷ Step.Call 0 1 (Request.Log 0 1 44 (replicate 4096 45)) Answer.None
    ∷ Step.Call 0 1 (Request.Get 1 45) Answer.None
    ∷ Step.Call 0 1 (Request.Log 0 1 45 (replicate 4096 46)) Answer.None
    ∷ Step.Call 0 1 (Request.Get 1 46) Answer.None
    ∷ Step.Call 0 1 (Request.Log 0 1 46 (replicate 4096 47)) Answer.None
    ∷ Step.Call 0 1 (Request.Get 1 47) Answer.None
    ∷ Step.Call 0 1 (Request.Log 0 1 47 (replicate 4096 48)) Answer.None
    ∷ Step.Call 0 1 (Request.Get 1 48) Answer.None
    ∷ Step.Call 0 1 (Request.Log 0 1 48 (replicate 4096 49)) Answer.None
    ∷ Step.Call 0 1 (Request.Get 1 49) Answer.None
    ∷ Step.Call 0 1 (Request.Log 0 1 49 (replicate 4096 50)) Answer.None
    ∷ Step.Call 0 1 (Request.Get 1 50) Answer.None
    ∷ Step.Call 0 1 (Request.Log 0 1 50 (replicate 4096 51)) Answer.None
    ∷ Step.Call 0 1 (Request.Get 1 51) Answer.None
    ∷ Step.Call 0 1 (Request.Log 0 1 51 (replicate 4096 52)) Answer.None
    ∷ Step.Call 0 1 (Request.Get 1 52) Answer.None
    ∷ Step.Call 0 1 (Request.Log 0 1 52 (replicate 4096 53)) Answer.None
    ∷ Step.Call 0 1 (Request.Get 1 53) Answer.None
    ∷ Step.Call 0 1 (Request.Log 0 1 53 (replicate 4096 54)) Answer.None
    ∷ Step.Call 0 1 (Request.Get 1 54) Answer.None
    ∷ Step.Call 0 1 (Request.Log 0 1 54 (replicate 4096 55)) Answer.None
    ∷ Step.Call 0 1 (Request.Get 1 55) Answer.None
    ∷ Step.Call 0 1 (Request.Log 0 1 55 (replicate 4096 56)) Answer.None
    ∷ Step.Call 0 1 (Request.Get 1 56) Answer.None
    ∷ Step.Call 0 1 (Request.Log 0 1 56 (replicate 4096 57)) Answer.None
    ∷ Step.Call 0 1 (Request.Get 1 57) Answer.None
    ∷ Step.Call 0 1 (Request.Log 0 1 57 (replicate 4096 58)) Answer.None
    ∷ Step.Call 0 1 (Request.Get 1 58) Answer.None
    ∷ Step.Call 0 1 (Request.Log 0 1 58 (replicate 4096 59)) Answer.None
    ∷ Step.Call 0 1 (Request.Get 1 59) Answer.None
    ∷ Step.Call 0 1 (Request.Log 0 1 59 (replicate 4096 60)) Answer.None
    ∷ Step.Call 0 1 (Request.Get 1 60) Answer.None
    ∷ Step.Call 0 1 (Request.Log 0 1 60 (replicate 4096 61)) Answer.None
    ∷ Step.Call 0 1 (Request.Get 1 61) Answer.None
    ∷ Step.Call 0 1 (Request.Log 0 1 61 (replicate 4096 62)) Answer.None
    ∷ Step.Call 0 1 (Request.Get 1 62) Answer.None
    ∷ Step.Call 0 1 (Request.Log 0 1 62 (replicate 4096 63)) Answer.None
    ∷ Step.Call 0 1 (Request.Get 1 63) Answer.None
    ∷ Step.Call 0 1 (Request.Log 0 1 63 (replicate 4096 64)) Answer.None
    ∷ Step.Call 0 1 (Request.Commit 1) Answer.None
    ∷ Step.Call 0 1 Request.Force Answer.None
    ∷ Step.Post (name 0 1 JobKind.Ckpt 1)
    ∷ Step.Take 0 (name 0 1 JobKind.Ckpt 1)
    ∷ Step.Begin 0 (name 0 1 JobKind.Ckpt 1)
    ∷ Step.End 0 (name 0 1 JobKind.Ckpt 1) (record { taken = 65; sync = Some true })
    ∷ Step.Call 0 1 Request.Push Answer.None
    ∷ Step.Post (name 0 1 JobKind.Flush 2)
    ∷ Step.Take 0 (name 0 1 JobKind.Flush 2)
    ∷ Step.Flush 0 (name 0 1 JobKind.Flush 2) (record { count = 8; writes = (true ∷ true ∷ true ∷ true ∷ true ∷ true ∷ true ∷ true ∷ []); sync = true })
    ∷ Step.Post (name 0 1 JobKind.Flush 3)
    ∷ []

abbrev edge_pieces_65_replies : List Reply
edge_pieces_65_replies =
    (Reply.Life 1)
    ∷ (Reply.Trans 1)
    ∷ Reply.Okay
    ∷ Reply.Okay
    ∷ Reply.Okay
    ∷ Reply.Okay
    ∷ Reply.Okay
    ∷ Reply.Okay
    ∷ Reply.Okay
    ∷ Reply.Okay
    ∷ Reply.Okay
    ∷ Reply.Okay
    ∷ Reply.Okay
    ∷ Reply.Okay
    ∷ Reply.Okay
    ∷ Reply.Okay
    ∷ Reply.Okay
    ∷ Reply.Okay
    ∷ Reply.Okay
    ∷ Reply.Okay
    ∷ Reply.Okay
    ∷ Reply.Okay
    ∷ Reply.Okay
    ∷ Reply.Okay
    ∷ Reply.Okay
    ∷ Reply.Okay
    ∷ Reply.Okay
    ∷ Reply.Okay
    ∷ Reply.Okay
    ∷ Reply.Okay
    ∷ Reply.Okay
    ∷ Reply.Okay
    ∷ Reply.Okay
    ∷ Reply.Okay
    ∷ Reply.Okay
    ∷ Reply.Okay
    ∷ Reply.Okay
    ∷ Reply.Okay
    ∷ Reply.Okay
    ∷ Reply.Okay
    ∷ Reply.Okay
    ∷ Reply.Okay
    ∷ Reply.Okay
    ∷ Reply.Okay
    ∷ Reply.Okay
    ∷ Reply.Okay
    ∷ Reply.Okay
    ∷ Reply.Okay
    ∷ Reply.Okay
    ∷ Reply.Okay
    ∷ Reply.Okay
    ∷ Reply.Okay
    ∷ Reply.Okay
    ∷ Reply.Okay
    ∷ Reply.Okay
    ∷ Reply.Okay
    ∷ Reply.Okay
    ∷ Reply.Okay
    ∷ Reply.Okay
    ∷ Reply.Okay
    ∷ Reply.Okay
    ∷ Reply.Okay
    ∷ Reply.Okay
    ∷ Reply.Okay
    ∷ Reply.Okay
    ∷ Reply.Okay
    ∷ Reply.Okay
    ∷ Reply.Okay
    ∷ Reply.Okay
    ∷ Reply.Okay
    ∷ Reply.Okay
    ∷ Reply.Okay
    ∷ Reply.Okay
    ∷ Reply.Okay
    ∷ Reply.Okay
    ∷ Reply.Okay
    ∷ Reply.Okay
    ∷ Reply.Okay
    ∷ Reply.Okay
    ∷ Reply.Okay
    ∷ Reply.Okay
    ∷ Reply.Okay
    ∷ Reply.Okay
    ∷ Reply.Okay
    ∷ Reply.Okay
    ∷ Reply.Okay
    ∷ Reply.Okay
    ∷ Reply.Okay
    ∷ Reply.Okay
    ∷ Reply.Okay
    ∷ Reply.Okay
    ∷ Reply.Okay
    ∷ Reply.Okay
    ∷ Reply.Okay
    ∷ Reply.Okay
    ∷ Reply.Okay
    ∷ Reply.Okay
    ∷ Reply.Okay
    ∷ Reply.Okay
    ∷ Reply.Okay
    ∷ Reply.Okay
    ∷ Reply.Okay
    ∷ Reply.Okay
    ∷ Reply.Okay
    ∷ Reply.Okay
    ∷ Reply.Okay
    ∷ Reply.Okay
    ∷ Reply.Okay
    ∷ Reply.Okay
    ∷ Reply.Okay
    ∷ Reply.Okay
    ∷ Reply.Okay
    ∷ Reply.Okay
    ∷ Reply.Okay
    ∷ Reply.Okay
    ∷ Reply.Okay
    ∷ Reply.Okay
    ∷ Reply.Okay
    ∷ Reply.Okay
    ∷ Reply.Okay
    ∷ Reply.Okay
    ∷ Reply.Okay
    ∷ Reply.Okay
    ∷ Reply.Okay
    ∷ Reply.Okay
    ∷ Reply.Okay
    ∷ Reply.Okay
    ∷ Reply.Okay
    ∷ Reply.Okay
    ∷ Reply.Okay
    ∷ (Reply.Committed 1)
    ∷ (Reply.Wait 1)
    ∷ Reply.Okay
    ∷ Reply.Okay
    ∷ (Reply.Begun 1 65)
    ∷ (Reply.Landed 1)
    ∷ Reply.Okay
    ∷ Reply.Okay
    ∷ Reply.Okay
    ∷ (Reply.Flushed 8)
    ∷ Reply.Okay
    ∷ []

edge_pieces_65 : map (λ t. t.reply) (alone_run edge_pieces_65_steps) ≡ edge_pieces_65_replies
unfolding chunks_where
edge_pieces_65 = refl

edge_pieces_65_order : in_order [] empty edge_pieces_65_steps ≡ true
unfolding chunks_where
edge_pieces_65_order = refl
