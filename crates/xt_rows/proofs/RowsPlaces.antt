-- Scripts computed over the definitions: what each step of the mount alone says, and that the list is orderly.
-- Made by tools/row-theorems from the files of rows/.
use Rattle.std.proofs.Common.{◌≡◌, ℕ, List, [], ◌∷◌, ◌++◌, Some, None, Bool, true, false, refl}
use Rattle.std.specs.Prelude.{replicate}
use Rattle.xt_base.specs.Alone.{Said, alone_run}
use Rattle.xt_base.specs.Chunks.{chunks_where}
use Rattle.xt_base.specs.Order.{first_disorder, in_order, orderly}
use Rattle.xt_base.specs.State.{empty}
use Rattle.xt_base.specs.declared.names.JobKind.{JobKind}
use Rattle.xt_base.specs.declared.names.JobKind.TheVariants as JobKind
use Rattle.xt_base.specs.declared.names.JobName.{JobName}
use Rattle.xt_base.specs.declared.steps.Answer.TheVariants as Answer
use Rattle.xt_base.specs.declared.steps.Errno.TheVariants as Errno
use Rattle.xt_base.specs.declared.steps.HomeOffer.{HomeOffer}
use Rattle.xt_base.specs.declared.steps.HomeOffer.TheVariants as HomeOffer
use Rattle.xt_base.specs.declared.steps.LogOffer.{LogOffer}
use Rattle.xt_base.specs.declared.steps.LogOffer.TheVariants as LogOffer
use Rattle.xt_base.specs.declared.steps.Reason.TheVariants as Reason
use Rattle.xt_base.specs.declared.steps.Reply.{Reply}
use Rattle.xt_base.specs.declared.steps.Reply.TheVariants as Reply
use Rattle.xt_base.specs.declared.steps.Request.TheVariants as Request
use Rattle.xt_base.specs.declared.steps.Step.{Step}
use Rattle.xt_base.specs.declared.steps.Step.TheVariants as Step

-- the name of a job
abbrev name : ℕ → ℕ → JobKind → ℕ → JobName
name slot life kind serial = record { slot = slot; life = life; kind = kind; serial = serial }

-- a reply with offers, and one without
abbrev said : ℕ → Reply → List LogOffer → List HomeOffer → Said
said slot reply log home = record { slot = slot; reply = reply; log = log; home = home }

abbrev told : ℕ → Reply → Said
told slot reply = said slot reply [] []

-- ---- edge.flush.shut
abbrev edge_flush_shut_steps : List Step
edge_flush_shut_steps =
    Step.Mount 0 65536 1024 None
    ∷ Step.Call 0 1 (Request.Alloc 176 1 false) Answer.None
    ∷ Step.Call 0 1 (Request.Read 1 7) (Answer.Content (replicate 4096 0))
    ∷ Step.Call 0 1 (Request.Log 0 1 7 ((17 ∷ []))) Answer.None
    ∷ Step.Call 0 1 (Request.Commit 1) Answer.None
    ∷ Step.Call 0 1 Request.Force Answer.None
    ∷ Step.Post (name 0 1 JobKind.Ckpt 1)
    ∷ Step.Take 0 (name 0 1 JobKind.Ckpt 1)
    ∷ Step.Begin 0 (name 0 1 JobKind.Ckpt 1)
    ∷ Step.End 0 (name 0 1 JobKind.Ckpt 1) (record { taken = 1; sync = Some true })
    ∷ Step.Call 0 1 Request.Push Answer.None
    ∷ Step.Post (name 0 1 JobKind.Flush 2)
    ∷ Step.Take 0 (name 0 1 JobKind.Flush 2)
    ∷ Step.Call 0 1 Request.Shutdown Answer.None
    ∷ Step.Flush 0 (name 0 1 JobKind.Flush 2) (record { count = 0; writes = (false ∷ false ∷ false ∷ false ∷ false ∷ false ∷ false ∷ false ∷ []); sync = false })
    ∷ Step.Call 0 1 Request.Unmount Answer.None
    ∷ Step.Mount 0 65536 1024 None
    ∷ []

abbrev edge_flush_shut_said : List Said
edge_flush_shut_said =
    told 0 (Reply.Life 1)
    ∷ told 0 (Reply.Trans 1)
    ∷ told 0 Reply.Okay
    ∷ told 0 Reply.Okay
    ∷ told 0 (Reply.Committed 1)
    ∷ told 0 (Reply.Wait 1)
    ∷ told 0 Reply.Okay
    ∷ told 0 Reply.Okay
    ∷ told 0 (Reply.Begun 1 1)
    ∷ said 0 (Reply.Landed 1) (LogOffer.Piece ((88 ∷ 67 ∷ 80 ∷ 49 ∷ []) ++ replicate 7 0 ++ (1 ∷ 0 ∷ 0 ∷ 0 ∷ 1 ∷ []) ++ replicate 7 0 ++ (7 ∷ 0 ∷ 0 ∷ 0 ∷ 1 ∷ []) ++ replicate 4 0 ++ (17 ∷ []) ++ replicate 127 0 ++ (88 ∷ 67 ∷ 69 ∷ 49 ∷ 0 ∷ 0 ∷ 0 ∷ 1 ∷ []) ++ replicate 7 0 ++ (1 ∷ [])) true ∷ LogOffer.Sync true ∷ []) []
    ∷ told 0 Reply.Okay
    ∷ told 0 Reply.Okay
    ∷ told 0 Reply.Okay
    ∷ told 0 Reply.Okay
    ∷ told 0 Reply.Nothing
    ∷ told 0 Reply.Okay
    ∷ told 0 (Reply.Life 2)
    ∷ []

edge_flush_shut : alone_run edge_flush_shut_steps ≡ edge_flush_shut_said
unfolding chunks_where
edge_flush_shut = refl

edge_flush_shut_order : orderly edge_flush_shut_steps ≡ true
unfolding chunks_where
edge_flush_shut_order = refl

-- ---- edge.flush.shut.answers
abbrev edge_flush_shut_answers_steps : List Step
edge_flush_shut_answers_steps =
    Step.Mount 0 65536 1024 None
    ∷ Step.Call 0 1 (Request.Alloc 176 1 false) Answer.None
    ∷ Step.Call 0 1 (Request.Read 1 7) (Answer.Content (replicate 4096 0))
    ∷ Step.Call 0 1 (Request.Log 0 1 7 ((17 ∷ []))) Answer.None
    ∷ Step.Call 0 1 (Request.Commit 1) Answer.None
    ∷ Step.Call 0 1 Request.Force Answer.None
    ∷ Step.Post (name 0 1 JobKind.Ckpt 1)
    ∷ Step.Take 0 (name 0 1 JobKind.Ckpt 1)
    ∷ Step.Begin 0 (name 0 1 JobKind.Ckpt 1)
    ∷ Step.End 0 (name 0 1 JobKind.Ckpt 1) (record { taken = 1; sync = Some true })
    ∷ Step.Call 0 1 Request.Push Answer.None
    ∷ Step.Post (name 0 1 JobKind.Flush 2)
    ∷ Step.Take 0 (name 0 1 JobKind.Flush 2)
    ∷ Step.Call 0 1 Request.Shutdown Answer.None
    ∷ []

abbrev edge_flush_shut_answers_said : List Said
edge_flush_shut_answers_said =
    told 0 (Reply.Life 1)
    ∷ told 0 (Reply.Trans 1)
    ∷ told 0 Reply.Okay
    ∷ told 0 Reply.Okay
    ∷ told 0 (Reply.Committed 1)
    ∷ told 0 (Reply.Wait 1)
    ∷ told 0 Reply.Okay
    ∷ told 0 Reply.Okay
    ∷ told 0 (Reply.Begun 1 1)
    ∷ said 0 (Reply.Landed 1) (LogOffer.Piece ((88 ∷ 67 ∷ 80 ∷ 49 ∷ []) ++ replicate 7 0 ++ (1 ∷ 0 ∷ 0 ∷ 0 ∷ 1 ∷ []) ++ replicate 7 0 ++ (7 ∷ 0 ∷ 0 ∷ 0 ∷ 1 ∷ []) ++ replicate 4 0 ++ (17 ∷ []) ++ replicate 127 0 ++ (88 ∷ 67 ∷ 69 ∷ 49 ∷ 0 ∷ 0 ∷ 0 ∷ 1 ∷ []) ++ replicate 7 0 ++ (1 ∷ [])) true ∷ LogOffer.Sync true ∷ []) []
    ∷ told 0 Reply.Okay
    ∷ told 0 Reply.Okay
    ∷ told 0 Reply.Okay
    ∷ told 0 Reply.Okay
    ∷ []

edge_flush_shut_answers : alone_run edge_flush_shut_answers_steps ≡ edge_flush_shut_answers_said
unfolding chunks_where
edge_flush_shut_answers = refl

edge_flush_shut_answers_order : in_order [] empty edge_flush_shut_answers_steps ≡ true
unfolding chunks_where
edge_flush_shut_answers_order = refl

edge_flush_shut_answers_breaks : in_order [] empty (edge_flush_shut_answers_steps ++ Step.Flush 0 (name 0 1 JobKind.Flush 2) (record { count = 1; writes = (true ∷ false ∷ false ∷ false ∷ false ∷ false ∷ false ∷ false ∷ []); sync = true }) ∷ []) ≡ false
unfolding chunks_where
edge_flush_shut_answers_breaks = refl

-- ---- edge.relogged.place
abbrev edge_relogged_place_steps : List Step
edge_relogged_place_steps =
    Step.Mount 0 65536 1024 None
    ∷ Step.Call 0 1 (Request.Alloc 176 1 false) Answer.None
    ∷ Step.Call 0 1 (Request.Read 1 7) (Answer.Content (replicate 4096 0))
    ∷ Step.Call 0 1 (Request.Log 0 1 7 ((17 ∷ []))) Answer.None
    ∷ Step.Call 0 1 (Request.Commit 1) Answer.None
    ∷ Step.Call 0 1 Request.Force Answer.None
    ∷ Step.Post (name 0 1 JobKind.Ckpt 1)
    ∷ Step.Take 0 (name 0 1 JobKind.Ckpt 1)
    ∷ Step.Begin 0 (name 0 1 JobKind.Ckpt 1)
    ∷ Step.End 0 (name 0 1 JobKind.Ckpt 1) (record { taken = 1; sync = Some true })
    ∷ Step.Call 0 1 (Request.Alloc 176 1 false) Answer.None
    ∷ Step.Call 0 1 (Request.Read 2 8) (Answer.Content (replicate 4096 0))
    ∷ Step.Call 0 1 (Request.Log 0 2 8 ((34 ∷ []))) Answer.None
    ∷ Step.Call 0 1 (Request.Commit 2) Answer.None
    ∷ Step.Call 0 1 Request.Force Answer.None
    ∷ Step.Post (name 0 1 JobKind.Ckpt 2)
    ∷ Step.Take 0 (name 0 1 JobKind.Ckpt 2)
    ∷ Step.Begin 0 (name 0 1 JobKind.Ckpt 2)
    ∷ Step.End 0 (name 0 1 JobKind.Ckpt 2) (record { taken = 1; sync = Some true })
    ∷ Step.Call 0 1 (Request.Alloc 176 1 false) Answer.None
    ∷ Step.Call 0 1 (Request.Read 3 7) Answer.None
    ∷ Step.Call 0 1 (Request.Log 0 3 7 ((51 ∷ []))) Answer.None
    ∷ Step.Call 0 1 (Request.Commit 3) Answer.None
    ∷ Step.Call 0 1 Request.Force Answer.None
    ∷ Step.Post (name 0 1 JobKind.Ckpt 3)
    ∷ Step.Take 0 (name 0 1 JobKind.Ckpt 3)
    ∷ Step.Begin 0 (name 0 1 JobKind.Ckpt 3)
    ∷ Step.End 0 (name 0 1 JobKind.Ckpt 3) (record { taken = 1; sync = Some true })
    ∷ Step.Call 0 1 Request.Push Answer.None
    ∷ Step.Post (name 0 1 JobKind.Flush 4)
    ∷ Step.Take 0 (name 0 1 JobKind.Flush 4)
    ∷ Step.Flush 0 (name 0 1 JobKind.Flush 4) (record { count = 2; writes = (true ∷ true ∷ false ∷ false ∷ false ∷ false ∷ false ∷ false ∷ []); sync = true })
    ∷ []

abbrev edge_relogged_place_said : List Said
edge_relogged_place_said =
    told 0 (Reply.Life 1)
    ∷ told 0 (Reply.Trans 1)
    ∷ told 0 Reply.Okay
    ∷ told 0 Reply.Okay
    ∷ told 0 (Reply.Committed 1)
    ∷ told 0 (Reply.Wait 1)
    ∷ told 0 Reply.Okay
    ∷ told 0 Reply.Okay
    ∷ told 0 (Reply.Begun 1 1)
    ∷ said 0 (Reply.Landed 1) (LogOffer.Piece ((88 ∷ 67 ∷ 80 ∷ 49 ∷ []) ++ replicate 7 0 ++ (1 ∷ 0 ∷ 0 ∷ 0 ∷ 1 ∷ []) ++ replicate 7 0 ++ (7 ∷ 0 ∷ 0 ∷ 0 ∷ 1 ∷ []) ++ replicate 4 0 ++ (17 ∷ []) ++ replicate 127 0 ++ (88 ∷ 67 ∷ 69 ∷ 49 ∷ 0 ∷ 0 ∷ 0 ∷ 1 ∷ []) ++ replicate 7 0 ++ (1 ∷ [])) true ∷ LogOffer.Sync true ∷ []) []
    ∷ told 0 (Reply.Trans 2)
    ∷ told 0 Reply.Okay
    ∷ told 0 Reply.Okay
    ∷ told 0 (Reply.Committed 2)
    ∷ told 0 (Reply.Wait 2)
    ∷ told 0 Reply.Okay
    ∷ told 0 Reply.Okay
    ∷ told 0 (Reply.Begun 2 1)
    ∷ said 0 (Reply.Landed 2) (LogOffer.Piece ((88 ∷ 67 ∷ 80 ∷ 49 ∷ []) ++ replicate 7 0 ++ (2 ∷ 0 ∷ 0 ∷ 0 ∷ 1 ∷ []) ++ replicate 7 0 ++ (8 ∷ 0 ∷ 0 ∷ 0 ∷ 1 ∷ []) ++ replicate 4 0 ++ (34 ∷ []) ++ replicate 127 0 ++ (88 ∷ 67 ∷ 69 ∷ 49 ∷ 0 ∷ 0 ∷ 0 ∷ 1 ∷ []) ++ replicate 7 0 ++ (2 ∷ [])) true ∷ LogOffer.Sync true ∷ []) []
    ∷ told 0 (Reply.Trans 3)
    ∷ told 0 Reply.Okay
    ∷ told 0 Reply.Okay
    ∷ told 0 (Reply.Committed 3)
    ∷ told 0 (Reply.Wait 3)
    ∷ told 0 Reply.Okay
    ∷ told 0 Reply.Okay
    ∷ told 0 (Reply.Begun 3 1)
    ∷ said 0 (Reply.Landed 3) (LogOffer.Piece ((88 ∷ 67 ∷ 80 ∷ 49 ∷ []) ++ replicate 7 0 ++ (3 ∷ 0 ∷ 0 ∷ 0 ∷ 1 ∷ []) ++ replicate 7 0 ++ (7 ∷ 0 ∷ 0 ∷ 0 ∷ 1 ∷ []) ++ replicate 4 0 ++ (51 ∷ []) ++ replicate 127 0 ++ (88 ∷ 67 ∷ 69 ∷ 49 ∷ 0 ∷ 0 ∷ 0 ∷ 1 ∷ []) ++ replicate 7 0 ++ (3 ∷ [])) true ∷ LogOffer.Sync true ∷ []) []
    ∷ told 0 Reply.Okay
    ∷ told 0 Reply.Okay
    ∷ told 0 Reply.Okay
    ∷ said 0 (Reply.Flushed 2) [] (HomeOffer.Write 7 ((51 ∷ []) ++ replicate 4095 0) true ∷ HomeOffer.Write 8 ((34 ∷ []) ++ replicate 4095 0) true ∷ HomeOffer.Sync true ∷ [])
    ∷ []

edge_relogged_place : alone_run edge_relogged_place_steps ≡ edge_relogged_place_said
unfolding chunks_where
edge_relogged_place = refl

edge_relogged_place_order : orderly edge_relogged_place_steps ≡ true
unfolding chunks_where
edge_relogged_place_order = refl

-- ---- edge.tail
abbrev edge_tail_steps : List Step
edge_tail_steps =
    Step.Mount 0 65536 1024 None
    ∷ Step.Call 0 1 (Request.Alloc 176 1 false) Answer.None
    ∷ Step.Call 0 1 (Request.Read 1 7) (Answer.Content (replicate 4096 0))
    ∷ Step.Call 0 1 (Request.Log 0 1 7 ((17 ∷ []))) Answer.None
    ∷ Step.Call 0 1 (Request.Commit 1) Answer.None
    ∷ Step.Call 0 1 Request.Force Answer.None
    ∷ Step.Post (name 0 1 JobKind.Ckpt 1)
    ∷ Step.Take 0 (name 0 1 JobKind.Ckpt 1)
    ∷ Step.Begin 0 (name 0 1 JobKind.Ckpt 1)
    ∷ Step.End 0 (name 0 1 JobKind.Ckpt 1) (record { taken = 1; sync = Some true })
    ∷ Step.Call 0 1 (Request.Alloc 176 1 false) Answer.None
    ∷ Step.Call 0 1 (Request.Read 2 8) (Answer.Content (replicate 4096 0))
    ∷ Step.Call 0 1 (Request.Log 0 2 8 ((34 ∷ []))) Answer.None
    ∷ Step.Call 0 1 (Request.Commit 2) Answer.None
    ∷ Step.Call 0 1 Request.Force Answer.None
    ∷ Step.Post (name 0 1 JobKind.Ckpt 2)
    ∷ Step.Take 0 (name 0 1 JobKind.Ckpt 2)
    ∷ Step.Begin 0 (name 0 1 JobKind.Ckpt 2)
    ∷ Step.End 0 (name 0 1 JobKind.Ckpt 2) (record { taken = 1; sync = Some true })
    ∷ Step.Call 0 1 (Request.Alloc 1 1 false) Answer.None
    ∷ Step.Call 0 1 (Request.Get 3 7) Answer.None
    ∷ Step.Call 0 1 Request.Push Answer.None
    ∷ Step.Post (name 0 1 JobKind.Flush 3)
    ∷ Step.Take 0 (name 0 1 JobKind.Flush 3)
    ∷ Step.Flush 0 (name 0 1 JobKind.Flush 3) (record { count = 1; writes = (true ∷ false ∷ false ∷ false ∷ false ∷ false ∷ false ∷ false ∷ []); sync = true })
    ∷ Step.Call 0 1 (Request.Cancel 3) Answer.None
    ∷ Step.Call 0 1 (Request.Alloc 65185 1 false) Answer.None
    ∷ Step.Call 0 1 (Request.Alloc 65184 1 false) Answer.None
    ∷ Step.Call 0 1 (Request.Cancel 4) Answer.None
    ∷ Step.Post (name 0 1 JobKind.Flush 4)
    ∷ Step.Take 0 (name 0 1 JobKind.Flush 4)
    ∷ Step.Flush 0 (name 0 1 JobKind.Flush 4) (record { count = 1; writes = (true ∷ false ∷ false ∷ false ∷ false ∷ false ∷ false ∷ false ∷ []); sync = true })
    ∷ Step.Call 0 1 (Request.Alloc 65536 1 false) Answer.None
    ∷ []

abbrev edge_tail_said : List Said
edge_tail_said =
    told 0 (Reply.Life 1)
    ∷ told 0 (Reply.Trans 1)
    ∷ told 0 Reply.Okay
    ∷ told 0 Reply.Okay
    ∷ told 0 (Reply.Committed 1)
    ∷ told 0 (Reply.Wait 1)
    ∷ told 0 Reply.Okay
    ∷ told 0 Reply.Okay
    ∷ told 0 (Reply.Begun 1 1)
    ∷ said 0 (Reply.Landed 1) (LogOffer.Piece ((88 ∷ 67 ∷ 80 ∷ 49 ∷ []) ++ replicate 7 0 ++ (1 ∷ 0 ∷ 0 ∷ 0 ∷ 1 ∷ []) ++ replicate 7 0 ++ (7 ∷ 0 ∷ 0 ∷ 0 ∷ 1 ∷ []) ++ replicate 4 0 ++ (17 ∷ []) ++ replicate 127 0 ++ (88 ∷ 67 ∷ 69 ∷ 49 ∷ 0 ∷ 0 ∷ 0 ∷ 1 ∷ []) ++ replicate 7 0 ++ (1 ∷ [])) true ∷ LogOffer.Sync true ∷ []) []
    ∷ told 0 (Reply.Trans 2)
    ∷ told 0 Reply.Okay
    ∷ told 0 Reply.Okay
    ∷ told 0 (Reply.Committed 2)
    ∷ told 0 (Reply.Wait 2)
    ∷ told 0 Reply.Okay
    ∷ told 0 Reply.Okay
    ∷ told 0 (Reply.Begun 2 1)
    ∷ said 0 (Reply.Landed 2) (LogOffer.Piece ((88 ∷ 67 ∷ 80 ∷ 49 ∷ []) ++ replicate 7 0 ++ (2 ∷ 0 ∷ 0 ∷ 0 ∷ 1 ∷ []) ++ replicate 7 0 ++ (8 ∷ 0 ∷ 0 ∷ 0 ∷ 1 ∷ []) ++ replicate 4 0 ++ (34 ∷ []) ++ replicate 127 0 ++ (88 ∷ 67 ∷ 69 ∷ 49 ∷ 0 ∷ 0 ∷ 0 ∷ 1 ∷ []) ++ replicate 7 0 ++ (2 ∷ [])) true ∷ LogOffer.Sync true ∷ []) []
    ∷ told 0 (Reply.Trans 3)
    ∷ told 0 Reply.Okay
    ∷ told 0 Reply.Okay
    ∷ told 0 Reply.Okay
    ∷ told 0 Reply.Okay
    ∷ said 0 (Reply.Flushed 1) [] (HomeOffer.Write 8 ((34 ∷ []) ++ replicate 4095 0) true ∷ HomeOffer.Sync true ∷ [])
    ∷ told 0 Reply.Okay
    ∷ told 0 (Reply.Refused Errno.Again)
    ∷ told 0 (Reply.Trans 4)
    ∷ told 0 Reply.Okay
    ∷ told 0 Reply.Okay
    ∷ told 0 Reply.Okay
    ∷ said 0 (Reply.Flushed 1) [] (HomeOffer.Write 7 ((17 ∷ []) ++ replicate 4095 0) true ∷ HomeOffer.Sync true ∷ [])
    ∷ told 0 (Reply.Trans 5)
    ∷ []

edge_tail : alone_run edge_tail_steps ≡ edge_tail_said
unfolding chunks_where
edge_tail = refl

edge_tail_order : orderly edge_tail_steps ≡ true
unfolding chunks_where
edge_tail_order = refl
