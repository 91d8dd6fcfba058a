-- What a caller knows of a call by its request: which replies it may be told, that no device was asked, and that a shutdown was shown.
use Rattle.std.proofs.Common.{[], Bool, None, Option, Some, ap, arith, false, inl, inr, refl, slice_index, subst, sym, true, ℕ, ◌++◌, ◌<◌, ◌∙◌, ◌≡◌, ◌∷◌}
use Rattle.std.proofs.lemmas.Bool.{eqb-true, false≢true}
use Rattle.std.proofs.lemmas.Option.{none-some, same_Some}
use Rattle.std.specs.Prelude.{if◌then◌else◌, is_some, not, ◌&&◌, ◌==◌, ◌||◌}
use Rattle.xt_base.proofs.ReplyLemmas.{step_gets, unasked}
use Rattle.xt_base.specs.Alone.{alone, call, called, is_refusal, turn}
use Rattle.xt_base.specs.Calls.{alone_with, shut_for}
use Rattle.xt_base.specs.Isolation.{is_no_memory}
use Rattle.xt_base.specs.Replies.{is_read, may_get}
use Rattle.xt_base.specs.State.{Lone, State}
use Rattle.xt_base.specs.declared.names.JobKind.{JobKind}
use Rattle.xt_base.specs.declared.names.JobName.{JobName}
use Rattle.xt_base.specs.declared.steps.Answer.{Answer}
use Rattle.xt_base.specs.declared.steps.Errno.{Errno}
use Rattle.xt_base.specs.declared.steps.Reason.{Reason}
use Rattle.xt_base.specs.declared.steps.Reply.{Reply}
use Rattle.xt_base.specs.declared.steps.Request.{Request}
use Rattle.xt_base.specs.declared.steps.Step.{Step}
use Rattle.xt_base.specs.declared.steps.Step.TheVariants.{Call, Post}
use Rattle.xt_cell.specs.Books.{BookView, next_number}
use Rattle.xt_cell.specs.Cells.{IsEvent, IsShown, IsStepOf, is_shutdown, word_shown}
use Rattle.xt_cell.specs.HostSeats.{HostSeatView, receipt}
use Rattle.xt_cell.specs.Posts.{PostsBoth, PostsOne}
use Rattle.xt_mount.specs.Slots.{IsServed, SlotState, lone_with}
use Rattle.xt_queue.specs.Passes.{PostView}
use Rattle.xt_queue.specs.Seats.{SeatView}
use Rattle.xt_queue.specs.Words.{word_of}

-- ---- replies
-- a reply that was refused memory may be got by any request
pub refused_told : (request : Request) (r : Reply) → is_no_memory r ≡ true → may_get request r ≡ true
refused_told request (Reply.Refused e) no_memory = refl
refused_told request Reply.Okay no_memory = absurd (false≢true no_memory)
refused_told request (Reply.OkayHeld held) no_memory = absurd (false≢true no_memory)
refused_told request (Reply.Life life) no_memory = absurd (false≢true no_memory)
refused_told request (Reply.Trans number) no_memory = absurd (false≢true no_memory)
refused_told request (Reply.Committed number) no_memory = absurd (false≢true no_memory)
refused_told request (Reply.CommittedHeld number held) no_memory = absurd (false≢true no_memory)
refused_told request (Reply.Aborted held) no_memory = absurd (false≢true no_memory)
refused_told request (Reply.Wait number) no_memory = absurd (false≢true no_memory)
refused_told request Reply.Done no_memory = absurd (false≢true no_memory)
refused_told request Reply.Kept no_memory = absurd (false≢true no_memory)
refused_told request Reply.Free no_memory = absurd (false≢true no_memory)
refused_told request (Reply.Data content) no_memory = absurd (false≢true no_memory)
refused_told request Reply.Nothing no_memory = absurd (false≢true no_memory)
refused_told request (Reply.Begun number pieces) no_memory = absurd (false≢true no_memory)
refused_told request (Reply.Landed number) no_memory = absurd (false≢true no_memory)
refused_told request (Reply.Failed number) no_memory = absurd (false≢true no_memory)
refused_told request (Reply.Flushed count) no_memory = absurd (false≢true no_memory)
refused_told request (Reply.Seen life reason) no_memory = absurd (false≢true no_memory)
refused_told request (Reply.Stat told) no_memory = absurd (false≢true no_memory)

module _ (slot life : ℕ) (request : Request) (o : Option State) (x : Step) (step : IsStepOf slot life request o x) where
  -- the step of a call is told what its request may get
  pub served_told : (r : Reply) (new old : SlotState) → IsServed x r new old → may_get request r ≡ true
  served_told r new old served =
      subst (λ y. may_get request y ≡ true) (sym (served.reply 0 None ∙ ap (λ y. (alone y (lone_with 0 None old)).reply) step.is)) (step_gets slot life request step.answer (lone_with 0 None old))

  -- and has no answer, unless its request is a read
  pub unasked_step : is_read request ≡ false → x ≡ Call slot life request Answer.None
  unasked_step other = step.is ∙ ap (Call slot life request) (unasked life request o step.answer other step.there)

  -- so its receipt says that no device was asked
  pub unasked_receipt : (r : Reply) (book after : BookView) (seat later : HostSeatView) (pass passed : PostView) → IsEvent slot x r book after seat later pass passed → is_read request ≡ false
      → (number : ℕ) × (later.receipts ≡ seat.receipts ++ receipt slot number (Call slot life request Answer.None) r ∷ [])
  unasked_receipt r book after seat later pass passed event other = (
    next_number book,
    event.receipts ∙ event.booked.receipt.receipts ∙ ap (λ y. seat.receipts ++ receipt slot (next_number book) y r ∷ []) (unasked_step other),
  )

-- ---- what a shutdown shows
-- the life of a mount, and whether it is shut
abbrev life_shut : Option State → Option (ℕ × Bool)
life_shut None = None
life_shut (Some m) = Some (m.life, is_some m.shut)

-- a post leaves both
post_stays : (name : JobName) (new old : SlotState) → IsServed (Post name) Reply.Okay new old → life_shut new.mounted ≡ life_shut old.mounted
post_stays name new old served = ap (λ (l : Lone). life_shut l.mounted) (served.state 0 None) ∙ by old.mounted refl
  where
    by : (o : Option State) → old.mounted ≡ o → life_shut (alone (Post name) (lone_with 0 None (record old { mounted = o }))).slot.mounted ≡ life_shut o
    by None is = refl
    by (Some m) is = refl

one_stays : (kind : JobKind) (caller : ℕ) (pass : PostView) (old : BookView) (passed : PostView) (new : BookView) → PostsOne kind caller pass old passed new → life_shut new.state.mounted ≡ life_shut old.state.mounted
one_stays kind caller pass old passed new (inl none) = ap (λ (b : BookView). life_shut b.state.mounted) none.1
one_stays kind caller pass old passed new (inr (inl post)) = post_stays post.0 new.state old.state post.2.served
one_stays kind caller pass old passed new (inr (inr full)) = ap (λ (b : BookView). life_shut b.state.mounted) full.0

both_stay : (caller : ℕ) (pass : PostView) (old : BookView) (passed : PostView) (new : BookView) → PostsBoth caller pass old passed new → life_shut new.state.mounted ≡ life_shut old.state.mounted
both_stay caller pass old passed new posts = one_stays JobKind.Flush caller posts.1 posts.0 passed new posts.3 ∙ one_stays JobKind.Ckpt caller pass old posts.1 posts.0 posts.2

shut_now : (o : Option Reason) → is_some (shut_for Reason.ForceUmount o) ≡ true
shut_now None = refl
shut_now (Some r) = refl

-- a shutdown that is answered ok leaves that life shut
shut_after : (slot life : ℕ) (answer : Answer) (r : Reply) (new old : SlotState) → IsServed (Call slot life Request.Shutdown answer) r new old → r ≡ Reply.Okay → life_shut new.mounted ≡ Some (life, true)
shut_after slot life answer r new old served ok =
    ap (λ (l : Lone). life_shut l.mounted) (served.state 0 None) ∙ by old.mounted (sym (ap is_refusal (sym (served.reply 0 None) ∙ ok)))
  where
    lives : (m : State) (b : Bool) → (m.life == life) ≡ b
        → false ≡ is_refusal (if b then called Request.Shutdown (lone_with 0 None old) (alone_with [] Request.Shutdown answer m) else turn (Reply.Refused Errno.Stale) (lone_with 0 None old)).reply
        → life_shut (if b then called Request.Shutdown (lone_with 0 None old) (alone_with [] Request.Shutdown answer m) else turn (Reply.Refused Errno.Stale) (lone_with 0 None old)).slot.mounted ≡ Some (life, true)
    lives m true same told = ap (λ n. Some (n, is_some (shut_for Reason.ForceUmount m.shut))) (eqb-true m.life life same) ∙ ap (λ b. Some (life, b)) (shut_now m.shut)
    lives m false same told = absurd (false≢true told)

    by : (o : Option State) → false ≡ is_refusal (call [] life Request.Shutdown answer (lone_with 0 None old) o).reply → life_shut (call [] life Request.Shutdown answer (lone_with 0 None old) o).slot.mounted ≡ Some (life, true)
    by None told = absurd (false≢true told)
    by (Some m) told = lives m (m.life == life) refl told

-- a word of a life that is shut is above that of the life itself
above : (life : ℕ) (reason : Reason) → word_of life None < word_of life (Some reason)
above life Reason.MetaIoError = omega arith
above life Reason.LogIoError = omega arith
above life Reason.ForceUmount = omega arith
above life Reason.CorruptIncore = omega arith

shown_above : (slot life : ℕ) (before shut : Option Reason) (old new : SeatView) → is_some shut ≡ true
    → IsShown slot (if is_some shut && (true || not (is_some before)) then Some (word_of life shut) else None) old new → word_of life None < slice_index new.seen slot
shown_above slot life before None old new is shown = absurd (false≢true is)
shown_above slot life before (Some reason) old new is shown = let saw = shown.saw in let word = above life reason in omega (arith, saw, word)

seen_above : (slot life : ℕ) (before : Option Reason) (o : Option State) (old new : SeatView) → life_shut o ≡ Some (life, true) → IsShown slot (word_shown true before o) old new
    → word_of life None < slice_index new.seen slot
seen_above slot life before None old new is shown = absurd (none-some _ is)
seen_above slot life before (Some m) old new is shown =
    let same = same_Some _ _ is in
    subst (λ n. word_of n None < slice_index new.seen slot) (ap (λ (p : ℕ × Bool). p.0) same) (shown_above slot m.life before m.shut old new (ap (λ (p : ℕ × Bool). p.1) same) shown)

-- the seat of a shutdown that was answered ok saw that life shut
pub shutdown_seen :
    (slot life : ℕ) (request : Request) (o : Option State) (x : Step) (r : Reply) (book after : BookView) (seat later : HostSeatView) (pass passed : PostView) (asked : Bool) (before : Option Reason) (old new : SeatView)
    → IsStepOf slot life request o x → IsEvent slot x r book after seat later pass passed → request ≡ Request.Shutdown → r ≡ Reply.Okay
    → asked ≡ is_shutdown request → IsShown slot (word_shown asked before after.state.mounted) old new → word_of life None < slice_index new.seen slot
shutdown_seen slot life request o x r book after seat later pass passed asked before old new step event is ok asks shown =
    let served = subst (λ y. IsServed y r event.between.state book.state) (step.is ∙ ap (λ q. Call slot life q step.answer) is) event.booked.entry.served in
    seen_above slot life before after.state.mounted old new
    (both_stay seat.caller pass event.between passed after event.posts ∙ shut_after slot life step.answer r event.between.state book.state served ok)
    (subst (λ b. IsShown slot (word_shown b before after.state.mounted) old new) (asks ∙ ap is_shutdown is) shown)
