-- Scripts computed over the definitions: what each step of the mount alone says, and that the list is orderly.
-- Made by tools/row-theorems from the files of rows/.
use Rattle.std.proofs.Common.{◌≡◌, ℕ, List, [], ◌∷◌, ◌++◌, Some, None, Bool, true, false, map, refl}
use Rattle.std.specs.Prelude.{replicate}
use Rattle.xt_base.specs.Alone.{Said, alone_run}
use Rattle.xt_base.specs.Chunks.{chunks_where}
use Rattle.xt_base.specs.Order.{first_disorder, in_order, orderly}
use Rattle.xt_base.specs.State.{empty}
use Rattle.xt_base.specs.declared.names.JobKind.{JobKind}
use Rattle.xt_base.specs.declared.names.JobKind.TheVariants as JobKind
use Rattle.xt_base.specs.declared.names.JobName.{JobName}
use Rattle.xt_base.specs.declared.steps.Answer.TheVariants as Answer
use Rattle.xt_base.specs.declared.steps.Errno.TheVariants as Errno
use Rattle.xt_base.specs.declared.steps.HomeOffer.{HomeOffer}
use Rattle.xt_base.specs.declared.steps.HomeOffer.TheVariants as HomeOffer
use Rattle.xt_base.specs.declared.steps.LogOffer.{LogOffer}
use Rattle.xt_base.specs.declared.steps.LogOffer.TheVariants as LogOffer
use Rattle.xt_base.specs.declared.steps.Reason.TheVariants as Reason
use Rattle.xt_base.specs.declared.steps.Reply.{Reply}
use Rattle.xt_base.specs.declared.steps.Reply.TheVariants as Reply
use Rattle.xt_base.specs.declared.steps.Request.TheVariants as Request
use Rattle.xt_base.specs.declared.steps.Step.{Step}
use Rattle.xt_base.specs.declared.steps.Step.TheVariants as Step

-- the name of a job
abbrev name : ℕ → ℕ → JobKind → ℕ → JobName
name slot life kind serial = record { slot = slot; life = life; kind = kind; serial = serial }

-- a reply with offers, and one without
abbrev said : ℕ → Reply → List LogOffer → List HomeOffer → Said
said slot reply log home = record { slot = slot; reply = reply; log = log; home = home }

abbrev told : ℕ → Reply → Said
told slot reply = said slot reply [] []

-- ---- stat
abbrev stat_steps : List Step
stat_steps =
    Step.Call 0 1 Request.Stat Answer.None
    ∷ Step.Mount 0 65536 1024 None
    ∷ Step.Call 0 1 Request.Stat Answer.None
    ∷ Step.Call 0 2 Request.Stat Answer.None
    ∷ Step.Call 0 1 (Request.Alloc 5000 2 true) Answer.None
    ∷ Step.Call 0 1 (Request.Read 1 7) (Answer.Content (replicate 4096 0))
    ∷ Step.Call 0 1 (Request.Get 1 8) Answer.None
    ∷ Step.Call 0 1 Request.Stat Answer.None
    ∷ Step.Call 0 1 (Request.Log 0 1 7 ((17 ∷ []))) Answer.None
    ∷ Step.Call 0 1 (Request.Roll 1) Answer.None
    ∷ Step.Call 0 1 Request.Stat Answer.None
    ∷ Step.Call 0 1 Request.Force Answer.None
    ∷ Step.Call 0 1 Request.Stat Answer.None
    ∷ Step.Post (name 0 1 JobKind.Ckpt 1)
    ∷ Step.Call 0 1 Request.Stat Answer.None
    ∷ Step.Take 0 (name 0 1 JobKind.Ckpt 1)
    ∷ Step.Begin 0 (name 0 1 JobKind.Ckpt 1)
    ∷ Step.Call 0 1 Request.Stat Answer.None
    ∷ Step.Call 0 1 (Request.Read 1 7) Answer.None
    ∷ Step.Call 0 1 (Request.Log 200 1 7 ((34 ∷ []))) Answer.None
    ∷ Step.Call 0 1 (Request.Commit 1) Answer.None
    ∷ Step.Call 0 1 Request.Stat Answer.None
    ∷ Step.End 0 (name 0 1 JobKind.Ckpt 1) (record { taken = 1; sync = Some true })
    ∷ Step.Call 0 1 Request.Stat Answer.None
    ∷ Step.Call 0 1 Request.Freeze Answer.None
    ∷ Step.Call 0 1 Request.Push Answer.None
    ∷ Step.Call 0 1 Request.Stat Answer.None
    ∷ Step.Call 0 1 Request.Force Answer.None
    ∷ Step.Call 0 1 Request.Stat Answer.None
    ∷ Step.Post (name 0 1 JobKind.Ckpt 2)
    ∷ Step.Post (name 0 1 JobKind.Flush 3)
    ∷ Step.Call 0 1 Request.Stat Answer.None
    ∷ Step.Take 0 (name 0 1 JobKind.Ckpt 2)
    ∷ Step.Take 1 (name 0 1 JobKind.Flush 3)
    ∷ Step.Begin 0 (name 0 1 JobKind.Ckpt 2)
    ∷ Step.Flush 1 (name 0 1 JobKind.Flush 3) (record { count = 0; writes = (false ∷ false ∷ false ∷ false ∷ false ∷ false ∷ false ∷ false ∷ []); sync = false })
    ∷ Step.Call 0 1 Request.Stat Answer.None
    ∷ Step.End 0 (name 0 1 JobKind.Ckpt 2) (record { taken = 1; sync = Some true })
    ∷ Step.Call 0 1 Request.Stat Answer.None
    ∷ Step.Call 0 1 Request.Push Answer.None
    ∷ Step.Post (name 0 1 JobKind.Flush 4)
    ∷ Step.Take 0 (name 0 1 JobKind.Flush 4)
    ∷ Step.Flush 0 (name 0 1 JobKind.Flush 4) (record { count = 1; writes = (true ∷ false ∷ false ∷ false ∷ false ∷ false ∷ false ∷ false ∷ []); sync = true })
    ∷ Step.Call 0 1 Request.Stat Answer.None
    ∷ Step.Call 0 1 Request.Thaw Answer.None
    ∷ Step.Call 0 1 (Request.Alloc 176 1 false) Answer.None
    ∷ Step.Call 0 1 (Request.Read 2 7) Answer.None
    ∷ Step.Call 0 1 (Request.Log 0 2 7 ((51 ∷ []))) Answer.None
    ∷ Step.Call 0 1 Request.Stat Answer.None
    ∷ Step.Call 0 1 (Request.Commit 2) Answer.None
    ∷ Step.Call 0 1 Request.Push Answer.None
    ∷ Step.Call 0 1 Request.Force Answer.None
    ∷ Step.Call 0 1 Request.Stat Answer.None
    ∷ Step.Call 0 1 Request.Shutdown Answer.None
    ∷ Step.Call 0 1 Request.Stat Answer.None
    ∷ []

abbrev stat_said : List Said
stat_said =
    told 0 (Reply.Refused Errno.NoDevice)
    ∷ told 0 (Reply.Life 1)
    ∷ told 0 (Reply.Stat (record { transactions = 0; busy = 0; idle = 0; committed = 0; active = 0; owed = 0; outstanding = 0; frozen = false; cost = 0; granted = 0; used = 0; free = 65536; flight = 0; least = 0 }))
    ∷ told 0 (Reply.Refused Errno.Stale)
    ∷ told 0 (Reply.Trans 1)
    ∷ told 0 Reply.Okay
    ∷ told 0 Reply.Okay
    ∷ told 0 (Reply.Stat (record { transactions = 1; busy = 2; idle = 0; committed = 0; active = 0; owed = 0; outstanding = 0; frozen = false; cost = 0; granted = 10000; used = 10000; free = 55536; flight = 0; least = 0 }))
    ∷ told 0 Reply.Okay
    ∷ told 0 (Reply.Committed 1)
    ∷ told 0 (Reply.Stat (record { transactions = 1; busy = 1; idle = 0; committed = 1; active = 0; owed = 0; outstanding = 0; frozen = false; cost = 176; granted = 5000; used = 5176; free = 60360; flight = 0; least = 0 }))
    ∷ told 0 (Reply.Wait 1)
    ∷ told 0 (Reply.Stat (record { transactions = 1; busy = 1; idle = 0; committed = 1; active = 0; owed = 1; outstanding = 0; frozen = false; cost = 176; granted = 5000; used = 5176; free = 60360; flight = 0; least = 0 }))
    ∷ told 0 Reply.Okay
    ∷ told 0 (Reply.Stat (record { transactions = 1; busy = 1; idle = 0; committed = 1; active = 0; owed = 0; outstanding = 1; frozen = false; cost = 176; granted = 5000; used = 5176; free = 60360; flight = 0; least = 0 }))
    ∷ told 0 Reply.Okay
    ∷ told 0 (Reply.Begun 1 1)
    ∷ told 0 (Reply.Stat (record { transactions = 1; busy = 1; idle = 0; committed = 0; active = 0; owed = 0; outstanding = 1; frozen = false; cost = 0; granted = 5000; used = 5176; free = 60360; flight = 1; least = 0 }))
    ∷ told 0 Reply.Okay
    ∷ told 0 Reply.Okay
    ∷ told 0 (Reply.Committed 2)
    ∷ told 0 (Reply.Stat (record { transactions = 0; busy = 1; idle = 0; committed = 1; active = 0; owed = 0; outstanding = 1; frozen = false; cost = 176; granted = 0; used = 352; free = 65184; flight = 1; least = 0 }))
    ∷ said 0 (Reply.Landed 1) (LogOffer.Piece ((88 ∷ 67 ∷ 80 ∷ 49 ∷ []) ++ replicate 7 0 ++ (1 ∷ 0 ∷ 0 ∷ 0 ∷ 1 ∷ []) ++ replicate 7 0 ++ (7 ∷ 0 ∷ 0 ∷ 0 ∷ 1 ∷ []) ++ replicate 4 0 ++ (17 ∷ []) ++ replicate 127 0 ++ (88 ∷ 67 ∷ 69 ∷ 49 ∷ 0 ∷ 0 ∷ 0 ∷ 1 ∷ []) ++ replicate 7 0 ++ (1 ∷ [])) true ∷ LogOffer.Sync true ∷ []) []
    ∷ told 0 (Reply.Stat (record { transactions = 0; busy = 1; idle = 0; committed = 1; active = 1; owed = 0; outstanding = 0; frozen = false; cost = 176; granted = 0; used = 352; free = 65184; flight = 0; least = 1 }))
    ∷ told 0 Reply.Okay
    ∷ told 0 Reply.Okay
    ∷ told 0 (Reply.Stat (record { transactions = 0; busy = 1; idle = 0; committed = 1; active = 1; owed = 1; outstanding = 0; frozen = true; cost = 176; granted = 0; used = 352; free = 65184; flight = 0; least = 1 }))
    ∷ told 0 (Reply.Wait 2)
    ∷ told 0 (Reply.Stat (record { transactions = 0; busy = 1; idle = 0; committed = 1; active = 1; owed = 2; outstanding = 0; frozen = true; cost = 176; granted = 0; used = 352; free = 65184; flight = 0; least = 1 }))
    ∷ told 0 Reply.Okay
    ∷ told 0 Reply.Okay
    ∷ told 0 (Reply.Stat (record { transactions = 0; busy = 1; idle = 0; committed = 1; active = 1; owed = 0; outstanding = 2; frozen = true; cost = 176; granted = 0; used = 352; free = 65184; flight = 0; least = 1 }))
    ∷ told 0 Reply.Okay
    ∷ told 0 Reply.Okay
    ∷ told 0 (Reply.Begun 2 1)
    ∷ told 0 Reply.Nothing
    ∷ told 0 (Reply.Stat (record { transactions = 0; busy = 1; idle = 0; committed = 0; active = 1; owed = 0; outstanding = 1; frozen = true; cost = 0; granted = 0; used = 352; free = 65184; flight = 2; least = 1 }))
    ∷ said 0 (Reply.Landed 2) (LogOffer.Piece ((88 ∷ 67 ∷ 80 ∷ 49 ∷ []) ++ replicate 7 0 ++ (2 ∷ 0 ∷ 0 ∷ 0 ∷ 1 ∷ []) ++ replicate 7 0 ++ (7 ∷ 0 ∷ 0 ∷ 0 ∷ 2 ∷ []) ++ replicate 76 0 ++ (34 ∷ []) ++ replicate 55 0 ++ (88 ∷ 67 ∷ 69 ∷ 49 ∷ 0 ∷ 0 ∷ 0 ∷ 1 ∷ []) ++ replicate 7 0 ++ (2 ∷ [])) true ∷ LogOffer.Sync true ∷ []) []
    ∷ told 0 (Reply.Stat (record { transactions = 0; busy = 1; idle = 0; committed = 0; active = 1; owed = 0; outstanding = 0; frozen = true; cost = 0; granted = 0; used = 352; free = 65184; flight = 0; least = 1 }))
    ∷ told 0 Reply.Okay
    ∷ told 0 Reply.Okay
    ∷ told 0 Reply.Okay
    ∷ said 0 (Reply.Flushed 1) [] (HomeOffer.Write 7 ((17 ∷ []) ++ replicate 199 0 ++ (34 ∷ []) ++ replicate 3895 0) true ∷ HomeOffer.Sync true ∷ [])
    ∷ told 0 (Reply.Stat (record { transactions = 0; busy = 0; idle = 1; committed = 0; active = 0; owed = 0; outstanding = 0; frozen = true; cost = 0; granted = 0; used = 0; free = 65536; flight = 0; least = 0 }))
    ∷ told 0 Reply.Okay
    ∷ told 0 (Reply.Trans 2)
    ∷ told 0 Reply.Okay
    ∷ told 0 Reply.Okay
    ∷ told 0 (Reply.Stat (record { transactions = 1; busy = 1; idle = 0; committed = 0; active = 0; owed = 0; outstanding = 0; frozen = false; cost = 0; granted = 176; used = 176; free = 65360; flight = 0; least = 0 }))
    ∷ told 0 (Reply.Committed 3)
    ∷ told 0 Reply.Okay
    ∷ told 0 (Reply.Wait 3)
    ∷ told 0 (Reply.Stat (record { transactions = 0; busy = 1; idle = 0; committed = 1; active = 0; owed = 2; outstanding = 0; frozen = false; cost = 176; granted = 0; used = 176; free = 65360; flight = 0; least = 0 }))
    ∷ told 0 Reply.Okay
    ∷ told 0 (Reply.Stat (record { transactions = 0; busy = 1; idle = 0; committed = 1; active = 0; owed = 0; outstanding = 0; frozen = false; cost = 176; granted = 0; used = 176; free = 65360; flight = 0; least = 0 }))
    ∷ []

stat : alone_run stat_steps ≡ stat_said
unfolding chunks_where
stat = refl

stat_order : orderly stat_steps ≡ true
unfolding chunks_where
stat_order = refl

-- ---- edge.stat.cancel
abbrev edge_stat_cancel_steps : List Step
edge_stat_cancel_steps =
    Step.Mount 0 65536 1024 (Some 512)
    ∷ Step.Call 0 1 (Request.Alloc 600 1 false) Answer.None
    ∷ Step.Call 0 1 (Request.Get 1 5) Answer.None
    ∷ Step.Call 0 1 (Request.Log 0 1 5 (replicate 512 1)) Answer.None
    ∷ Step.Call 0 1 (Request.Commit 1) Answer.None
    ∷ Step.Call 0 1 Request.Stat Answer.None
    ∷ Step.Call 0 1 (Request.Alloc 600 1 false) Answer.None
    ∷ Step.Call 0 1 (Request.Read 2 5) Answer.None
    ∷ Step.Call 0 1 (Request.Inval 2 5) Answer.None
    ∷ Step.Call 0 1 Request.Stat Answer.None
    ∷ Step.Call 0 1 (Request.Commit 2) Answer.None
    ∷ Step.Call 0 1 Request.Stat Answer.None
    ∷ Step.Call 0 1 Request.Force Answer.None
    ∷ Step.Post (name 0 1 JobKind.Ckpt 1)
    ∷ Step.Take 0 (name 0 1 JobKind.Ckpt 1)
    ∷ Step.Begin 0 (name 0 1 JobKind.Ckpt 1)
    ∷ Step.Call 0 1 Request.Stat Answer.None
    ∷ Step.End 0 (name 0 1 JobKind.Ckpt 1) (record { taken = 1; sync = Some true })
    ∷ Step.Call 0 1 Request.Stat Answer.None
    ∷ []

abbrev edge_stat_cancel_said : List Said
edge_stat_cancel_said =
    told 0 (Reply.Life 1)
    ∷ told 0 (Reply.Trans 1)
    ∷ told 0 Reply.Okay
    ∷ told 0 Reply.Okay
    ∷ told 0 (Reply.Committed 1)
    ∷ told 0 (Reply.Stat (record { transactions = 0; busy = 1; idle = 0; committed = 1; active = 0; owed = 0; outstanding = 0; frozen = false; cost = 564; granted = 0; used = 564; free = 64972; flight = 0; least = 0 }))
    ∷ told 0 (Reply.Trans 2)
    ∷ told 0 Reply.Okay
    ∷ told 0 Reply.Okay
    ∷ told 0 (Reply.Stat (record { transactions = 1; busy = 1; idle = 0; committed = 1; active = 0; owed = 0; outstanding = 0; frozen = false; cost = 564; granted = 600; used = 1164; free = 64372; flight = 0; least = 0 }))
    ∷ told 0 (Reply.Committed 1)
    ∷ told 0 (Reply.Stat (record { transactions = 0; busy = 1; idle = 0; committed = 1; active = 0; owed = 0; outstanding = 0; frozen = false; cost = 52; granted = 0; used = 52; free = 65484; flight = 0; least = 0 }))
    ∷ told 0 (Reply.Wait 1)
    ∷ told 0 Reply.Okay
    ∷ told 0 Reply.Okay
    ∷ told 0 (Reply.Begun 1 1)
    ∷ told 0 (Reply.Stat (record { transactions = 0; busy = 1; idle = 0; committed = 0; active = 0; owed = 0; outstanding = 1; frozen = false; cost = 0; granted = 0; used = 52; free = 65484; flight = 1; least = 0 }))
    ∷ said 0 (Reply.Landed 1) (LogOffer.Piece ((88 ∷ 67 ∷ 80 ∷ 50 ∷ []) ++ replicate 7 0 ++ (1 ∷ 0 ∷ 0 ∷ 0 ∷ 1 ∷ 0 ∷ 0 ∷ 2 ∷ []) ++ replicate 8 0 ++ (5 ∷ []) ++ replicate 7 0 ++ (1 ∷ 88 ∷ 67 ∷ 69 ∷ 50 ∷ 0 ∷ 0 ∷ 0 ∷ 1 ∷ []) ++ replicate 7 0 ++ (1 ∷ [])) true ∷ LogOffer.Sync true ∷ []) []
    ∷ told 0 (Reply.Stat (record { transactions = 0; busy = 0; idle = 0; committed = 0; active = 0; owed = 0; outstanding = 0; frozen = false; cost = 0; granted = 0; used = 0; free = 65536; flight = 0; least = 0 }))
    ∷ []

edge_stat_cancel : alone_run edge_stat_cancel_steps ≡ edge_stat_cancel_said
unfolding chunks_where
edge_stat_cancel = refl

edge_stat_cancel_order : orderly edge_stat_cancel_steps ≡ true
unfolding chunks_where
edge_stat_cancel_order = refl
