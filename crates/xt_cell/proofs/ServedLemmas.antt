-- What follows of a step by its reply.
use Rattle.std.proofs.Common.{Bool, [], length, None, Option, Some, ap, false, inl, inr, refl, subst, sym, true, ℕ, ◌∙◌, ◌≡◌}
use Rattle.std.proofs.lemmas.Bool.{false≢true}
use Rattle.xt_base.proofs.CarryLemmas.{step_data_only_view, step_held_only, step_view_keeps}
use Rattle.xt_base.proofs.MemoryLemmas.{alone_no_want}
use Rattle.std.specs.Prelude.{if◌then◌else◌, is_some, ◌==◌}
use Rattle.xt_base.specs.Alone.{Turn, alone, carries_content, goes_on, mount_refusals, names_held, on_mount, turn, unless_refused, with_mount}
use Rattle.xt_base.specs.Calls.{Outcome, first_of}
use Rattle.xt_base.specs.Jobs.{begin, end, end_of, end_offers, flush, flush_offers, flush_plan, is_ok, posted}
use Rattle.xt_base.specs.Carried.{is_view}
use Rattle.xt_base.specs.Isolation.{is_no_memory}
use Rattle.xt_base.specs.State.{Flight, Lone, State}
use Rattle.xt_base.specs.declared.steps.Answer.{Answer}
use Rattle.xt_base.specs.declared.steps.Errno.{Errno}
use Rattle.xt_base.specs.declared.steps.LogAnswers.{LogAnswers}
use Rattle.xt_base.specs.declared.steps.Reply.{Reply}
use Rattle.xt_base.specs.declared.steps.Reply.TheVariants.{Okay}
use Rattle.xt_base.specs.declared.steps.Request.{Request}
use Rattle.xt_base.specs.declared.steps.Step.{Step}
use Rattle.xt_base.specs.declared.steps.Step.TheVariants.{Begin, Call, End, Flush, Mount, Peek, Post, Show, Take}
use Rattle.xt_base.specs.Steps.{is_call}
use Rattle.xt_cell.specs.Books.{may_hold}
use Rattle.xt_mount.specs.Slots.{IsServed, IsServedUnlessMemory, SlotState, lone_with}

module _ (x : Step) (r : Reply) (new old : SlotState) where
  -- a step that was not refused memory was served
  pub served_if : is_no_memory r ≡ false → IsServedUnlessMemory x r new old → IsServed x r new old
  served_if not_refused (inl served) = served
  served_if not_refused (inr refused) = absurd (false≢true (sym not_refused ∙ ap is_no_memory refused.reply))

  -- one that was changed nothing
  pub kept_if : is_no_memory r ≡ true → IsServedUnlessMemory x r new old → new ≡ old
  kept_if is_refused (inl served) = absurd (false≢true (sym (ap is_no_memory (served.reply 0 None) ∙ alone_no_want x (lone_with 0 None old)) ∙ is_refused))
  kept_if is_refused (inr refused) = refused.kept

-- two slots of one number, with the same lone states, are one
same_slot : (new old : SlotState) → new.slot ≡ old.slot → lone_with 0 None new ≡ lone_with 0 None old → new ≡ old
same_slot new old number is =
    ap (λ n. record { slot = n; last_life = new.last_life; mounted = new.mounted }) number
    ∙ ap (λ (l : Lone). record { slot = old.slot; last_life = l.last_life; mounted = l.mounted }) is

-- a call that is answered a content changes nothing
pub content_keeps : (x : Step) (r : Reply) (new old : SlotState) → is_call x ≡ true → carries_content r ≡ true → IsServed x r new old → new ≡ old
content_keeps (Call slot life request answer) r new old call carries served = by request refl (step_data_only_view slot life request answer (lone_with 0 None old) (ap carries_content (sym (served.reply 0 None)) ∙ carries))
  where
    by : (q : Request) → request ≡ q → is_view request ≡ true → new ≡ old
    by (Request.View t b) is view =
        same_slot new old served.slot
        (served.state 0 None ∙ ap (λ q. (alone (Call slot life q answer) (lone_with 0 None old)).slot) is ∙ step_view_keeps slot life t b answer (lone_with 0 None old))
    by (Request.Alloc unit count perm) is view = absurd (false≢true (sym (ap is_view is) ∙ view))
    by (Request.Get t b) is view = absurd (false≢true (sym (ap is_view is) ∙ view))
    by (Request.Read t b) is view = absurd (false≢true (sym (ap is_view is) ∙ view))
    by (Request.Log first t b bytes) is view = absurd (false≢true (sym (ap is_view is) ∙ view))
    by (Request.Hold t b) is view = absurd (false≢true (sym (ap is_view is) ∙ view))
    by (Request.Unhold t b) is view = absurd (false≢true (sym (ap is_view is) ∙ view))
    by (Request.Relse t b) is view = absurd (false≢true (sym (ap is_view is) ∙ view))
    by (Request.Join t b) is view = absurd (false≢true (sym (ap is_view is) ∙ view))
    by (Request.Release b) is view = absurd (false≢true (sym (ap is_view is) ∙ view))
    by (Request.Inval t b) is view = absurd (false≢true (sym (ap is_view is) ∙ view))
    by (Request.Commit t) is view = absurd (false≢true (sym (ap is_view is) ∙ view))
    by (Request.Roll t) is view = absurd (false≢true (sym (ap is_view is) ∙ view))
    by (Request.Cancel t) is view = absurd (false≢true (sym (ap is_view is) ∙ view))
    by Request.Force is view = absurd (false≢true (sym (ap is_view is) ∙ view))
    by (Request.ForceTo n) is view = absurd (false≢true (sym (ap is_view is) ∙ view))
    by Request.Push is view = absurd (false≢true (sym (ap is_view is) ∙ view))
    by Request.Shutdown is view = absurd (false≢true (sym (ap is_view is) ∙ view))
    by Request.Freeze is view = absurd (false≢true (sym (ap is_view is) ∙ view))
    by Request.Thaw is view = absurd (false≢true (sym (ap is_view is) ∙ view))
    by Request.Stat is view = absurd (false≢true (sym (ap is_view is) ∙ view))
    by Request.Unmount is view = absurd (false≢true (sym (ap is_view is) ∙ view))
content_keeps (Mount slot log_bytes blocks size) r new old call carries served = absurd (false≢true call)
content_keeps (Post name) r new old call carries served = absurd (false≢true call)
content_keeps (Take worker name) r new old call carries served = absurd (false≢true call)
content_keeps (Begin worker name) r new old call carries served = absurd (false≢true call)
content_keeps (End worker name answers) r new old call carries served = absurd (false≢true call)
content_keeps (Flush worker name answers) r new old call carries served = absurd (false≢true call)
content_keeps (Show slot) r new old call carries served = absurd (false≢true call)
content_keeps (Peek slot) r new old call carries served = absurd (false≢true call)

-- a call that names held blocks may leave some
pub held_if : (x : Step) (r : Reply) (new old : SlotState) → is_call x ≡ true → names_held r ≡ true → IsServed x r new old → may_hold x ≡ true
held_if (Call slot life request answer) r new old call names served = step_held_only slot life request answer (lone_with 0 None old) (ap names_held (sym (served.reply 0 None)) ∙ names)
held_if (Mount slot log_bytes blocks size) r new old call names served = absurd (false≢true call)
held_if (Post name) r new old call names served = absurd (false≢true call)
held_if (Take worker name) r new old call names served = absurd (false≢true call)
held_if (Begin worker name) r new old call names served = absurd (false≢true call)
held_if (End worker name answers) r new old call names served = absurd (false≢true call)
held_if (Flush worker name answers) r new old call names served = absurd (false≢true call)
held_if (Show slot) r new old call names served = absurd (false≢true call)
held_if (Peek slot) r new old call names served = absurd (false≢true call)

-- a reply that carries neither a content nor held blocks
abbrev pub IsPlain : Reply → Type 0
IsPlain r = (carries_content r ≡ false) × (names_held r ≡ false)

plain_mount : (e : Option Errno) (s : Lone) (t : Turn) → IsPlain t.reply → IsPlain (unless_refused e s t).reply
plain_mount None s t h = h
plain_mount (Some e) s t h = (refl, refl)

plain_either : (b : Bool) (x y : Outcome) → IsPlain x.reply → IsPlain y.reply → IsPlain (if b then x else y).reply
plain_either true x y hx hy = hx
plain_either false x y hx hy = hy

plain_end : (answers : LogAnswers) (m : State) (f : Option Flight) → IsPlain (end_of [] answers m f).reply
plain_end answers m None = (refl, refl)
plain_end answers m (Some f) = plain_either (is_ok answers.sync) _ _ (refl, refl) (refl, refl)

-- a step that is no call has such a reply
pub plain_step : (x : Step) (s : Lone) → is_call x ≡ false → IsPlain (alone x s).reply
plain_step (Mount slot log_bytes blocks size) s other = plain_mount (first_of (mount_refusals log_bytes blocks size s)) s _ (refl, refl)
plain_step (Call slot life request answer) s other = absurd (false≢true (sym other))
plain_step (Post name) s other = by s.mounted
  where
    by : (o : Option State) → IsPlain (on_mount o s (λ m. turn Okay (with_mount (posted name.kind m) s))).reply
    by None = (refl, refl)
    by (Some m) = (refl, refl)
plain_step (Take worker name) s other = (refl, refl)
plain_step (Begin worker name) s other = by s.mounted
  where
    by : (o : Option State) → IsPlain (on_mount o s (λ m. goes_on (begin m) [] [] s)).reply
    by None = (refl, refl)
    by (Some m) = plain_either (is_some m.shut) _ _ (refl, refl) (refl, refl)
plain_step (End worker name answers) s other = by s.mounted
  where
    by : (o : Option State) → IsPlain (on_mount o s (λ m. goes_on (end [] answers m) (end_offers answers m) [] s)).reply
    by None = (refl, refl)
    by (Some m) = plain_end answers m m.items.flight
plain_step (Flush worker name answers) s other = by s.mounted
  where
    by : (o : Option State) → IsPlain (on_mount o s (λ m. goes_on (flush [] answers m) [] (flush_offers answers m) s)).reply
    by None = (refl, refl)
    by (Some m) = plain_either (length (flush_plan m) == 0) _ _ (refl, refl) (refl, refl)
plain_step (Show slot) s other = (refl, refl)
plain_step (Peek slot) s other = (refl, refl)

-- the same of one that was served
pub plain_if : (x : Step) (r : Reply) (new old : SlotState) → is_call x ≡ false → IsServed x r new old → IsPlain r
plain_if x r new old other served = subst IsPlain (sym (served.reply 0 None)) (plain_step x (lone_with 0 None old) other)

no_more : (b : Bool) → (b ≡ true → false ≡ true) → b ≡ false
no_more true f = absurd (false≢true (f refl))
no_more false f = refl

-- a read that was served is answered with neither
pub plain_read : (slot life t b : ℕ) (answer : Answer) (r : Reply) (new old : SlotState) → IsServed (Call slot life (Request.Read t b) answer) r new old → IsPlain r
plain_read slot life t b answer r new old served = (
  no_more (carries_content r) (λ carries. step_data_only_view slot life (Request.Read t b) answer (lone_with 0 None old) (ap carries_content (sym (served.reply 0 None)) ∙ carries)),
  no_more (names_held r) (λ names. step_held_only slot life (Request.Read t b) answer (lone_with 0 None old) (ap names_held (sym (served.reply 0 None)) ∙ names)),
)
