-- What a session over a host that others use leaves, at its steps and at its end.
use Rattle.std.proofs.Common.{Bool, None, Some, [], ap, false, refl, subst, sym, true, ℕ, ◌++◌, ◌<◌, ◌∙◌, ◌≡◌, ◌∷◌}
use Rattle.std.proofs.lemmas.Bool.{false≢true}
use Rattle.std.specs.Prelude.{IsTrue, slice_index, ◌&&◌}
use Rattle.xt_base.specs.Calls.{is_unmount}
use Rattle.xt_base.specs.Isolation.{is_no_memory}
use Rattle.xt_base.specs.Replies.{is_read, may_get}
use Rattle.xt_base.specs.declared.steps.Answer.{Answer}
use Rattle.xt_base.specs.declared.steps.Reply.{Reply}
use Rattle.xt_base.specs.declared.steps.Reply.TheVariants.{Okay}
use Rattle.xt_base.specs.declared.steps.Request.{Request}
use Rattle.xt_base.specs.declared.steps.Request.TheVariants.{Shutdown}
use Rattle.xt_base.specs.declared.steps.Step.{Step}
use Rattle.xt_base.specs.declared.steps.Step.TheVariants.{Call}
use Rattle.xt_cell.specs.Counting.{counted}
use Rattle.xt_cell.specs.HostSeats.{HostSeatView, IsSameSeat, receipt}
use Rattle.xt_cell.specs.declared.mount_ref.MountRef.{MountRef}
use Rattle.xt_host.specs.Calls.{Receives}
use Rattle.xt_host.specs.Tokens.{Served}
use Rattle.xt_queue.specs.Boards.{Rises}
use Rattle.xt_queue.specs.Words.{word_of}
use Rattle.xt_service.specs.Holding.{next_back}
use Rattle.xt_service.specs.HostCalls.{GaveBack, GaveBack.more, GaveBack.none, IsAsked, IsTold, SessionView, forgotten}
use Rattle.xt_text.specs.SessionLines.{is_session_request}

-- a seat that forgot what another has
record IsForgetful (old mid : HostSeatView) : Type 0 where
  caller : mid.caller ≡ old.caller
  counts : mid.counts ≡ old.counts
  receipts : mid.receipts ≡ []
  board : mid.board ≡ old.board

same_forgotten : (old mid new : HostSeatView) → IsForgetful old mid → IsSameSeat mid new → IsSameSeat (forgotten old) new
same_forgotten old mid new f s = record {
  caller = s.caller ∙ f.caller;
  counts = s.counts ∙ f.counts;
  receipts = s.receipts ∙ f.receipts;
  board = s.board ∙ f.board;
}

receives_forgotten : (slot : ℕ) (step : Step) (reply : Reply) (old mid new : HostSeatView) → IsForgetful old mid → Receives slot step reply mid new → Receives slot step reply (forgotten old) new
receives_forgotten slot step reply old mid new f r = record {
  number = r.number;
  receipts = r.receipts ∙ ap (λ rs. rs ++ receipt slot r.number step reply ∷ []) f.receipts;
  counts = r.counts ∙ ap (counted slot) f.counts;
  caller = r.caller ∙ f.caller;
  splits = r.splits ∙ ap (λ b. b.splits) f.board;
  rank = r.rank ∙ ap (λ b. b.rank) f.board;
}

-- a device answered only where the request is a read
served_forgotten : (at : MountRef) (request : Request) (reply : Reply) (old mid new : HostSeatView) → IsForgetful old mid → (is_no_memory reply ≡ true → IsSameSeat mid new)
    → (is_no_memory reply ≡ false → (answer : Answer) × Receives at.slot (Call at.slot at.life request answer) reply mid new)
    → (is_no_memory reply ≡ false → is_read request ≡ false → Receives at.slot (Call at.slot at.life request Answer.None) reply mid new)
    → Served at request reply (forgotten old) new
served_forgotten at request reply old mid new f same received unasked = record {
  refused = λ refused. same_forgotten old mid new f (same refused);
  received = by (is_read request) refl;
}
  where
    by : (b : Bool) → is_read request ≡ b → is_no_memory reply ≡ false → (answer : Answer) × (is_read request ≡ false → answer ≡ Answer.None) × Receives at.slot (Call at.slot at.life request answer) reply (forgotten old) new
    by true is happened = let told = received happened in (told.0, (λ other. absurd (false≢true (sym other ∙ is))), receives_forgotten at.slot (Call at.slot at.life request told.0) reply old mid new f told.1)
    by false is happened = (Answer.None, (λ other. refl), receives_forgotten at.slot (Call at.slot at.life request Answer.None) reply old mid new f (unasked happened is))

-- a request that a host was asked by a seat that forgot its receipts
pub told_of : (at : MountRef) (request : Request) (reply : Reply) (old mid new : HostSeatView)
    → mid.caller ≡ old.caller → mid.counts ≡ old.counts → mid.receipts ≡ [] → mid.board ≡ old.board
    → (is_no_memory reply ≡ true → IsSameSeat mid new)
    → (is_no_memory reply ≡ false → (answer : Answer) × Receives at.slot (Call at.slot at.life request answer) reply mid new)
    → (is_no_memory reply ≡ false → is_read request ≡ false → Receives at.slot (Call at.slot at.life request Answer.None) reply mid new)
    → may_get request reply ≡ true
    → (request ≡ Shutdown → reply ≡ Okay → word_of at.life None < slice_index new.board.seen at.slot)
    → new.board.board ≡ mid.board.board
    → Rises mid.board.seen new.board.seen
    → IsTold at request reply old new
told_of at request reply old mid new caller counts receipts board same received unasked kind shut tied rises = record {
  served = served_forgotten at request reply old mid new (record { caller = caller; counts = counts; receipts = receipts; board = board }) same received unasked;
  kind = kind;
  rises = subst (λ b. Rises b.seen new.board.seen) board rises;
  board = tied ∙ ap (λ b. b.board) board;
  shut = shut;
}

-- a session makes no request that empties a slot
pub no_unmount : (request : Request) (b : Bool) → IsTrue (is_session_request request && b) → is_unmount request ≡ false
no_unmount Request.Unmount b h = absurd (false≢true h)
no_unmount other b h = refl

-- ---- the end
-- nothing was given back yet
pub gave_none : (now : SessionView) → GaveBack now now × (now.seat.board.board ≡ now.seat.board.board)
gave_none now = (none, refl)

-- one thing more was given back, or found no memory
pub gave_more : (first now last : SessionView) (at : MountRef) (request : Request) (reply : Reply) → GaveBack first now × (now.seat.board.board ≡ first.seat.board.board) → next_back now.trans now.held ≡ Some (at, request) → IsAsked at request reply now last → GaveBack first last × (last.seat.board.board ≡ first.seat.board.board)
gave_more first now last at request reply so next told = (more now last at request reply so.0 next told, told.told.board ∙ so.1)
