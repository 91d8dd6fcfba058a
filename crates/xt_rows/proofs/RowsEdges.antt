-- Scripts computed over the definitions: what each step of the mount alone says, and that the list is orderly.
-- Made by tools/row-theorems from the files of rows/.
use Rattle.std.proofs.Common.{◌≡◌, ℕ, List, [], ◌∷◌, ◌++◌, Some, None, true, false, refl}
use Rattle.std.specs.Prelude.{replicate}
use Rattle.xt_base.specs.Alone.{Said, alone_run}
use Rattle.xt_base.specs.Chunks.{chunks_where}
use Rattle.xt_base.specs.Order.{in_order, orderly}
use Rattle.xt_base.specs.State.{empty}
use Rattle.xt_base.specs.declared.names.JobKind.{JobKind}
use Rattle.xt_base.specs.declared.names.JobName.{JobName}
use Rattle.xt_base.specs.declared.steps.Answer.TheVariants as Answer
use Rattle.xt_base.specs.declared.steps.Errno.TheVariants as Errno
use Rattle.xt_base.specs.declared.steps.HomeOffer.{HomeOffer}
use Rattle.xt_base.specs.declared.steps.LogOffer.{LogOffer}
use Rattle.xt_base.specs.declared.steps.Reply.{Reply}
use Rattle.xt_base.specs.declared.steps.Request.TheVariants as Request
use Rattle.xt_base.specs.declared.steps.Step.{Step}

-- the name of a job
abbrev name : ℕ → ℕ → JobKind → ℕ → JobName
name slot life kind serial = record { slot = slot; life = life; kind = kind; serial = serial }

-- a reply with offers, and one without
abbrev said : ℕ → Reply → List LogOffer → List HomeOffer → Said
said slot reply log home = record { slot = slot; reply = reply; log = log; home = home }

abbrev told : ℕ → Reply → Said
told slot reply = said slot reply [] []

-- ---- edge.alloc.32
abbrev edge_alloc_32_steps : List Step
edge_alloc_32_steps =
    Step.Mount 0 65536 1024 None
    ∷ Step.Call 0 1 (Request.Alloc 1 1 false) Answer.None
    ∷ Step.Call 0 1 (Request.Alloc 1 1 false) Answer.None
    ∷ Step.Call 0 1 (Request.Alloc 1 1 false) Answer.None
    ∷ Step.Call 0 1 (Request.Alloc 1 1 false) Answer.None
    ∷ Step.Call 0 1 (Request.Alloc 1 1 false) Answer.None
    ∷ Step.Call 0 1 (Request.Alloc 1 1 false) Answer.None
    ∷ Step.Call 0 1 (Request.Alloc 1 1 false) Answer.None
    ∷ Step.Call 0 1 (Request.Alloc 1 1 false) Answer.None
    ∷ Step.Call 0 1 (Request.Alloc 1 1 false) Answer.None
    ∷ Step.Call 0 1 (Request.Alloc 1 1 false) Answer.None
    ∷ Step.Call 0 1 (Request.Alloc 1 1 false) Answer.None
    ∷ Step.Call 0 1 (Request.Alloc 1 1 false) Answer.None
    ∷ Step.Call 0 1 (Request.Alloc 1 1 false) Answer.None
    ∷ Step.Call 0 1 (Request.Alloc 1 1 false) Answer.None
    ∷ Step.Call 0 1 (Request.Alloc 1 1 false) Answer.None
    ∷ Step.Call 0 1 (Request.Alloc 1 1 false) Answer.None
    ∷ Step.Call 0 1 (Request.Alloc 1 1 false) Answer.None
    ∷ Step.Call 0 1 (Request.Alloc 1 1 false) Answer.None
    ∷ Step.Call 0 1 (Request.Alloc 1 1 false) Answer.None
    ∷ Step.Call 0 1 (Request.Alloc 1 1 false) Answer.None
    ∷ Step.Call 0 1 (Request.Alloc 1 1 false) Answer.None
    ∷ Step.Call 0 1 (Request.Alloc 1 1 false) Answer.None
    ∷ Step.Call 0 1 (Request.Alloc 1 1 false) Answer.None
    ∷ Step.Call 0 1 (Request.Alloc 1 1 false) Answer.None
    ∷ Step.Call 0 1 (Request.Alloc 1 1 false) Answer.None
    ∷ Step.Call 0 1 (Request.Alloc 1 1 false) Answer.None
    ∷ Step.Call 0 1 (Request.Alloc 1 1 false) Answer.None
    ∷ Step.Call 0 1 (Request.Alloc 1 1 false) Answer.None
    ∷ Step.Call 0 1 (Request.Alloc 1 1 false) Answer.None
    ∷ Step.Call 0 1 (Request.Alloc 1 1 false) Answer.None
    ∷ Step.Call 0 1 (Request.Alloc 1 1 false) Answer.None
    ∷ Step.Call 0 1 (Request.Alloc 1 1 false) Answer.None
    ∷ Step.Call 0 1 (Request.Alloc 1 1 false) Answer.None
    ∷ []

abbrev edge_alloc_32_said : List Said
edge_alloc_32_said =
    told 0 (Reply.Life 1)
    ∷ told 0 (Reply.Trans 1)
    ∷ told 0 (Reply.Trans 2)
    ∷ told 0 (Reply.Trans 3)
    ∷ told 0 (Reply.Trans 4)
    ∷ told 0 (Reply.Trans 5)
    ∷ told 0 (Reply.Trans 6)
    ∷ told 0 (Reply.Trans 7)
    ∷ told 0 (Reply.Trans 8)
    ∷ told 0 (Reply.Trans 9)
    ∷ told 0 (Reply.Trans 10)
    ∷ told 0 (Reply.Trans 11)
    ∷ told 0 (Reply.Trans 12)
    ∷ told 0 (Reply.Trans 13)
    ∷ told 0 (Reply.Trans 14)
    ∷ told 0 (Reply.Trans 15)
    ∷ told 0 (Reply.Trans 16)
    ∷ told 0 (Reply.Trans 17)
    ∷ told 0 (Reply.Trans 18)
    ∷ told 0 (Reply.Trans 19)
    ∷ told 0 (Reply.Trans 20)
    ∷ told 0 (Reply.Trans 21)
    ∷ told 0 (Reply.Trans 22)
    ∷ told 0 (Reply.Trans 23)
    ∷ told 0 (Reply.Trans 24)
    ∷ told 0 (Reply.Trans 25)
    ∷ told 0 (Reply.Trans 26)
    ∷ told 0 (Reply.Trans 27)
    ∷ told 0 (Reply.Trans 28)
    ∷ told 0 (Reply.Trans 29)
    ∷ told 0 (Reply.Trans 30)
    ∷ told 0 (Reply.Trans 31)
    ∷ told 0 (Reply.Trans 32)
    ∷ told 0 (Reply.Refused Errno.Again)
    ∷ []

edge_alloc_32 : alone_run edge_alloc_32_steps ≡ edge_alloc_32_said
unfolding chunks_where
edge_alloc_32 = refl

edge_alloc_32_order : in_order [] empty edge_alloc_32_steps ≡ true
unfolding chunks_where
edge_alloc_32_order = refl

edge_alloc_32_breaks : in_order [] empty (edge_alloc_32_steps ++ Step.Post (name 0 1 JobKind.Flush 1) ∷ []) ≡ false
unfolding chunks_where
edge_alloc_32_breaks = refl

-- ---- edge.begin.clears
abbrev edge_begin_clears_steps : List Step
edge_begin_clears_steps =
    Step.Mount 0 65536 1024 None
    ∷ Step.Call 0 1 (Request.Alloc 176 1 false) Answer.None
    ∷ Step.Call 0 1 (Request.Read 1 7) (Answer.Content (replicate 4096 0))
    ∷ Step.Call 0 1 (Request.Log 0 1 7 ((17 ∷ []))) Answer.None
    ∷ Step.Call 0 1 (Request.Commit 1) Answer.None
    ∷ Step.Call 0 1 Request.Force Answer.None
    ∷ Step.Post (name 0 1 JobKind.Ckpt 1)
    ∷ Step.Take 0 (name 0 1 JobKind.Ckpt 1)
    ∷ Step.Begin 0 (name 0 1 JobKind.Ckpt 1)
    ∷ Step.Call 0 1 (Request.Alloc 176 1 false) Answer.None
    ∷ Step.Call 0 1 (Request.Get 2 7) Answer.None
    ∷ Step.Call 0 1 (Request.Log 128 2 7 ((34 ∷ []))) Answer.None
    ∷ Step.Call 0 1 (Request.Commit 2) Answer.None
    ∷ Step.End 0 (name 0 1 JobKind.Ckpt 1) (record { taken = 1; sync = Some true })
    ∷ []

abbrev edge_begin_clears_said : List Said
edge_begin_clears_said =
    told 0 (Reply.Life 1)
    ∷ told 0 (Reply.Trans 1)
    ∷ told 0 Reply.Okay
    ∷ told 0 Reply.Okay
    ∷ told 0 (Reply.Committed 1)
    ∷ told 0 (Reply.Wait 1)
    ∷ told 0 Reply.Okay
    ∷ told 0 Reply.Okay
    ∷ told 0 (Reply.Begun 1 1)
    ∷ told 0 (Reply.Trans 2)
    ∷ told 0 Reply.Okay
    ∷ told 0 Reply.Okay
    ∷ told 0 (Reply.Committed 2)
    ∷ said 0 (Reply.Landed 1) (LogOffer.Piece ((88 ∷ 67 ∷ 80 ∷ 49 ∷ []) ++ replicate 7 0 ++ (1 ∷ 0 ∷ 0 ∷ 0 ∷ 1 ∷ []) ++ replicate 7 0 ++ (7 ∷ 0 ∷ 0 ∷ 0 ∷ 1 ∷ []) ++ replicate 4 0 ++ (17 ∷ []) ++ replicate 127 0 ++ (88 ∷ 67 ∷ 69 ∷ 49 ∷ 0 ∷ 0 ∷ 0 ∷ 1 ∷ []) ++ replicate 7 0 ++ (1 ∷ [])) true ∷ LogOffer.Sync true ∷ []) []
    ∷ []

edge_begin_clears : alone_run edge_begin_clears_steps ≡ edge_begin_clears_said
unfolding chunks_where
edge_begin_clears = refl

edge_begin_clears_order : in_order [] empty edge_begin_clears_steps ≡ true
unfolding chunks_where
edge_begin_clears_order = refl

edge_begin_clears_breaks : in_order [] empty (edge_begin_clears_steps ++ Step.Post (name 0 1 JobKind.Ckpt 2) ∷ []) ≡ false
unfolding chunks_where
edge_begin_clears_breaks = refl

-- ---- edge.eighth
abbrev edge_eighth_steps : List Step
edge_eighth_steps =
    Step.Mount 0 66055 9 None
    ∷ Step.Call 0 1 (Request.Alloc 8256 1 false) Answer.None
    ∷ Step.Call 0 1 (Request.Get 1 1) Answer.None
    ∷ Step.Call 0 1 (Request.Log 0 1 1 (replicate 4096 17)) Answer.None
    ∷ Step.Call 0 1 (Request.Get 1 2) Answer.None
    ∷ Step.Call 0 1 (Request.Log 0 1 2 (replicate 4096 34)) Answer.None
    ∷ Step.Call 0 1 (Request.Commit 1) Answer.None
    ∷ Step.Post (name 0 1 JobKind.Ckpt 1)
    ∷ []

abbrev edge_eighth_said : List Said
edge_eighth_said =
    told 0 (Reply.Life 1)
    ∷ told 0 (Reply.Trans 1)
    ∷ told 0 Reply.Okay
    ∷ told 0 Reply.Okay
    ∷ told 0 Reply.Okay
    ∷ told 0 Reply.Okay
    ∷ told 0 (Reply.Committed 1)
    ∷ told 0 Reply.Okay
    ∷ []

edge_eighth : alone_run edge_eighth_steps ≡ edge_eighth_said
unfolding chunks_where
edge_eighth = refl

edge_eighth_order : orderly edge_eighth_steps ≡ true
unfolding chunks_where
edge_eighth_order = refl

-- ---- edge.eighth.less
abbrev edge_eighth_less_steps : List Step
edge_eighth_less_steps =
    Step.Mount 0 66056 9 None
    ∷ Step.Call 0 1 (Request.Alloc 8256 1 false) Answer.None
    ∷ Step.Call 0 1 (Request.Get 1 1) Answer.None
    ∷ Step.Call 0 1 (Request.Log 0 1 1 (replicate 4096 17)) Answer.None
    ∷ Step.Call 0 1 (Request.Get 1 2) Answer.None
    ∷ Step.Call 0 1 (Request.Log 0 1 2 (replicate 4096 34)) Answer.None
    ∷ Step.Call 0 1 (Request.Commit 1) Answer.None
    ∷ []

abbrev edge_eighth_less_said : List Said
edge_eighth_less_said =
    told 0 (Reply.Life 1)
    ∷ told 0 (Reply.Trans 1)
    ∷ told 0 Reply.Okay
    ∷ told 0 Reply.Okay
    ∷ told 0 Reply.Okay
    ∷ told 0 Reply.Okay
    ∷ told 0 (Reply.Committed 1)
    ∷ []

edge_eighth_less : alone_run edge_eighth_less_steps ≡ edge_eighth_less_said
unfolding chunks_where
edge_eighth_less = refl

edge_eighth_less_order : in_order [] empty edge_eighth_less_steps ≡ true
unfolding chunks_where
edge_eighth_less_order = refl

edge_eighth_less_breaks : in_order [] empty (edge_eighth_less_steps ++ Step.Post (name 0 1 JobKind.Ckpt 1) ∷ []) ≡ false
unfolding chunks_where
edge_eighth_less_breaks = refl

-- ---- edge.flush.failed
abbrev edge_flush_failed_steps : List Step
edge_flush_failed_steps =
    Step.Mount 0 65536 1024 None
    ∷ Step.Call 0 1 (Request.Alloc 320 1 false) Answer.None
    ∷ Step.Call 0 1 (Request.Read 1 1) (Answer.Content (replicate 4096 0))
    ∷ Step.Call 0 1 (Request.Read 1 2) (Answer.Content (replicate 4096 0))
    ∷ Step.Call 0 1 (Request.Log 0 1 1 ((17 ∷ []))) Answer.None
    ∷ Step.Call 0 1 (Request.Log 0 1 2 ((34 ∷ []))) Answer.None
    ∷ Step.Call 0 1 (Request.Commit 1) Answer.None
    ∷ Step.Call 0 1 Request.Force Answer.None
    ∷ Step.Post (name 0 1 JobKind.Ckpt 1)
    ∷ Step.Take 0 (name 0 1 JobKind.Ckpt 1)
    ∷ Step.Begin 0 (name 0 1 JobKind.Ckpt 1)
    ∷ Step.End 0 (name 0 1 JobKind.Ckpt 1) (record { taken = 1; sync = Some true })
    ∷ Step.Call 0 1 Request.Push Answer.None
    ∷ Step.Post (name 0 1 JobKind.Flush 2)
    ∷ Step.Take 0 (name 0 1 JobKind.Flush 2)
    ∷ Step.Flush 0 (name 0 1 JobKind.Flush 2) (record { count = 2; writes = (false ∷ true ∷ false ∷ false ∷ false ∷ false ∷ false ∷ false ∷ []); sync = true })
    ∷ []

abbrev edge_flush_failed_said : List Said
edge_flush_failed_said =
    told 0 (Reply.Life 1)
    ∷ told 0 (Reply.Trans 1)
    ∷ told 0 Reply.Okay
    ∷ told 0 Reply.Okay
    ∷ told 0 Reply.Okay
    ∷ told 0 Reply.Okay
    ∷ told 0 (Reply.Committed 1)
    ∷ told 0 (Reply.Wait 1)
    ∷ told 0 Reply.Okay
    ∷ told 0 Reply.Okay
    ∷ told 0 (Reply.Begun 1 1)
    ∷ said 0 (Reply.Landed 1) (LogOffer.Piece ((88 ∷ 67 ∷ 80 ∷ 49 ∷ []) ++ replicate 7 0 ++ (1 ∷ 0 ∷ 0 ∷ 0 ∷ 2 ∷ []) ++ replicate 7 0 ++ (1 ∷ 0 ∷ 0 ∷ 0 ∷ 1 ∷ []) ++ replicate 4 0 ++ (17 ∷ []) ++ replicate 134 0 ++ (2 ∷ 0 ∷ 0 ∷ 0 ∷ 1 ∷ []) ++ replicate 4 0 ++ (34 ∷ []) ++ replicate 127 0 ++ (88 ∷ 67 ∷ 69 ∷ 49 ∷ 0 ∷ 0 ∷ 0 ∷ 2 ∷ []) ++ replicate 7 0 ++ (1 ∷ [])) true ∷ LogOffer.Sync true ∷ []) []
    ∷ told 0 Reply.Okay
    ∷ told 0 Reply.Okay
    ∷ told 0 Reply.Okay
    ∷ said 0 (Reply.Flushed 1) [] (HomeOffer.Write 1 ((17 ∷ []) ++ replicate 4095 0) false ∷ HomeOffer.Write 2 ((34 ∷ []) ++ replicate 4095 0) true ∷ HomeOffer.Sync true ∷ [])
    ∷ []

edge_flush_failed : alone_run edge_flush_failed_steps ≡ edge_flush_failed_said
unfolding chunks_where
edge_flush_failed = refl

edge_flush_failed_order : in_order [] empty edge_flush_failed_steps ≡ true
unfolding chunks_where
edge_flush_failed_order = refl

edge_flush_failed_breaks : in_order [] empty (edge_flush_failed_steps ++ Step.Post (name 0 1 JobKind.Flush 3) ∷ []) ≡ false
unfolding chunks_where
edge_flush_failed_breaks = refl

-- ---- edge.flush.sync
abbrev edge_flush_sync_steps : List Step
edge_flush_sync_steps =
    Step.Mount 0 65536 1024 None
    ∷ Step.Call 0 1 (Request.Alloc 320 1 false) Answer.None
    ∷ Step.Call 0 1 (Request.Read 1 1) (Answer.Content (replicate 4096 0))
    ∷ Step.Call 0 1 (Request.Read 1 2) (Answer.Content (replicate 4096 0))
    ∷ Step.Call 0 1 (Request.Log 0 1 1 ((17 ∷ []))) Answer.None
    ∷ Step.Call 0 1 (Request.Log 0 1 2 ((34 ∷ []))) Answer.None
    ∷ Step.Call 0 1 (Request.Commit 1) Answer.None
    ∷ Step.Call 0 1 Request.Force Answer.None
    ∷ Step.Post (name 0 1 JobKind.Ckpt 1)
    ∷ Step.Take 0 (name 0 1 JobKind.Ckpt 1)
    ∷ Step.Begin 0 (name 0 1 JobKind.Ckpt 1)
    ∷ Step.End 0 (name 0 1 JobKind.Ckpt 1) (record { taken = 1; sync = Some true })
    ∷ Step.Call 0 1 Request.Push Answer.None
    ∷ Step.Post (name 0 1 JobKind.Flush 2)
    ∷ Step.Take 0 (name 0 1 JobKind.Flush 2)
    ∷ Step.Flush 0 (name 0 1 JobKind.Flush 2) (record { count = 2; writes = (true ∷ true ∷ false ∷ false ∷ false ∷ false ∷ false ∷ false ∷ []); sync = false })
    ∷ []

abbrev edge_flush_sync_said : List Said
edge_flush_sync_said =
    told 0 (Reply.Life 1)
    ∷ told 0 (Reply.Trans 1)
    ∷ told 0 Reply.Okay
    ∷ told 0 Reply.Okay
    ∷ told 0 Reply.Okay
    ∷ told 0 Reply.Okay
    ∷ told 0 (Reply.Committed 1)
    ∷ told 0 (Reply.Wait 1)
    ∷ told 0 Reply.Okay
    ∷ told 0 Reply.Okay
    ∷ told 0 (Reply.Begun 1 1)
    ∷ said 0 (Reply.Landed 1) (LogOffer.Piece ((88 ∷ 67 ∷ 80 ∷ 49 ∷ []) ++ replicate 7 0 ++ (1 ∷ 0 ∷ 0 ∷ 0 ∷ 2 ∷ []) ++ replicate 7 0 ++ (1 ∷ 0 ∷ 0 ∷ 0 ∷ 1 ∷ []) ++ replicate 4 0 ++ (17 ∷ []) ++ replicate 134 0 ++ (2 ∷ 0 ∷ 0 ∷ 0 ∷ 1 ∷ []) ++ replicate 4 0 ++ (34 ∷ []) ++ replicate 127 0 ++ (88 ∷ 67 ∷ 69 ∷ 49 ∷ 0 ∷ 0 ∷ 0 ∷ 2 ∷ []) ++ replicate 7 0 ++ (1 ∷ [])) true ∷ LogOffer.Sync true ∷ []) []
    ∷ told 0 Reply.Okay
    ∷ told 0 Reply.Okay
    ∷ told 0 Reply.Okay
    ∷ said 0 (Reply.Flushed 0) [] (HomeOffer.Write 1 ((17 ∷ []) ++ replicate 4095 0) true ∷ HomeOffer.Write 2 ((34 ∷ []) ++ replicate 4095 0) true ∷ HomeOffer.Sync false ∷ [])
    ∷ []

edge_flush_sync : alone_run edge_flush_sync_steps ≡ edge_flush_sync_said
unfolding chunks_where
edge_flush_sync = refl

edge_flush_sync_order : in_order [] empty edge_flush_sync_steps ≡ true
unfolding chunks_where
edge_flush_sync_order = refl

edge_flush_sync_breaks : in_order [] empty (edge_flush_sync_steps ++ Step.Post (name 0 1 JobKind.Flush 3) ∷ []) ≡ false
unfolding chunks_where
edge_flush_sync_breaks = refl

-- ---- edge.push.lost
abbrev edge_push_lost_steps : List Step
edge_push_lost_steps =
    Step.Mount 0 65536 1024 None
    ∷ Step.Call 0 1 Request.Push Answer.None
    ∷ Step.Post (name 0 1 JobKind.Flush 1)
    ∷ Step.Take 0 (name 0 1 JobKind.Flush 1)
    ∷ Step.Call 0 1 Request.Push Answer.None
    ∷ Step.Flush 0 (name 0 1 JobKind.Flush 1) (record { count = 0; writes = (false ∷ false ∷ false ∷ false ∷ false ∷ false ∷ false ∷ false ∷ []); sync = false })
    ∷ []

abbrev edge_push_lost_said : List Said
edge_push_lost_said =
    told 0 (Reply.Life 1)
    ∷ told 0 Reply.Okay
    ∷ told 0 Reply.Okay
    ∷ told 0 Reply.Okay
    ∷ told 0 Reply.Okay
    ∷ told 0 Reply.Nothing
    ∷ []

edge_push_lost : alone_run edge_push_lost_steps ≡ edge_push_lost_said
unfolding chunks_where
edge_push_lost = refl

edge_push_lost_order : in_order [] empty edge_push_lost_steps ≡ true
unfolding chunks_where
edge_push_lost_order = refl

edge_push_lost_breaks : in_order [] empty (edge_push_lost_steps ++ Step.Post (name 0 1 JobKind.Flush 2) ∷ []) ≡ false
unfolding chunks_where
edge_push_lost_breaks = refl

-- ---- edge.roll.empty
abbrev edge_roll_empty_steps : List Step
edge_roll_empty_steps =
    Step.Mount 0 65536 1024 None
    ∷ Step.Call 0 1 (Request.Alloc 304 1 true) Answer.None
    ∷ Step.Call 0 1 (Request.Alloc 65232 1 false) Answer.None
    ∷ Step.Call 0 1 (Request.Read 1 7) (Answer.Content (replicate 4096 0))
    ∷ Step.Call 0 1 (Request.Log 0 1 7 ((17 ∷ []))) Answer.None
    ∷ Step.Call 0 1 (Request.Roll 1) Answer.None
    ∷ Step.Call 0 1 (Request.Cancel 2) Answer.None
    ∷ Step.Call 0 1 (Request.Roll 1) Answer.None
    ∷ Step.Post (name 0 1 JobKind.Flush 1)
    ∷ []

abbrev edge_roll_empty_said : List Said
edge_roll_empty_said =
    told 0 (Reply.Life 1)
    ∷ told 0 (Reply.Trans 1)
    ∷ told 0 (Reply.Trans 2)
    ∷ told 0 Reply.Okay
    ∷ told 0 Reply.Okay
    ∷ told 0 (Reply.Refused Errno.Again)
    ∷ told 0 Reply.Okay
    ∷ told 0 (Reply.Committed 1)
    ∷ told 0 Reply.Okay
    ∷ []

edge_roll_empty : alone_run edge_roll_empty_steps ≡ edge_roll_empty_said
unfolding chunks_where
edge_roll_empty = refl

edge_roll_empty_order : in_order [] empty edge_roll_empty_steps ≡ true
unfolding chunks_where
edge_roll_empty_order = refl

edge_roll_empty_breaks : in_order [] empty (edge_roll_empty_steps ++ Step.Post (name 0 1 JobKind.Ckpt 2) ∷ []) ≡ false
unfolding chunks_where
edge_roll_empty_breaks = refl

-- ---- edge.shut.owes
abbrev edge_shut_owes_steps : List Step
edge_shut_owes_steps =
    Step.Mount 0 65536 1024 None
    ∷ Step.Call 0 1 Request.Push Answer.None
    ∷ Step.Call 0 1 Request.Shutdown Answer.None
    ∷ []

abbrev edge_shut_owes_said : List Said
edge_shut_owes_said =
    told 0 (Reply.Life 1)
    ∷ told 0 Reply.Okay
    ∷ told 0 Reply.Okay
    ∷ []

edge_shut_owes : alone_run edge_shut_owes_steps ≡ edge_shut_owes_said
unfolding chunks_where
edge_shut_owes = refl

edge_shut_owes_order : in_order [] empty edge_shut_owes_steps ≡ true
unfolding chunks_where
edge_shut_owes_order = refl

edge_shut_owes_breaks : in_order [] empty (edge_shut_owes_steps ++ Step.Post (name 0 1 JobKind.Flush 1) ∷ []) ≡ false
unfolding chunks_where
edge_shut_owes_breaks = refl
