-- Job steps: which one is due, and what a handle makes of one.
use Rattle.std.proofs.Common.{Bool, None, Option, Some, [], ap, cond, eq-eqb, inl, length, subst, sym, true, ℕ, ℤ, ◌&&◌, ◌/◌, ◌∙◌, ◌≡◌, refl}
use Rattle.xt_base.specs.Calls.{Outcome, gives}
use Rattle.xt_base.specs.Jobs.{flush, flush_plan, is_waiting}
use Rattle.xt_base.specs.State.{State}
use Rattle.xt_base.specs.declared.names.JobKind.TheVariants.{Flush}
use Rattle.xt_base.specs.declared.steps.Reply.{Reply}
use Rattle.xt_c.specs.Replies.{Shows}
use Rattle.xt_c.specs.Status.{status_of}
use Rattle.xt_c.specs.Working.{IsFlush, IsFlushed, IsStep, IsWorked, flush_by, flush_into, flush_of, flush_status, home_answers, lie_below, name_in, worked}
use Rattle.xt_c.specs.declared.words.ReplyWords.{ReplyWords}

-- a step that was taken is told
pub goes : (wants : Reply → Bool) (m new : State) (o : Outcome) (told : Reply) (status : ℤ) (w old : ReplyWords)
    → gives told new ≡ o → status ≡ status_of told → Shows told w → IsStep wants m (Some o) status (worked w (Some new)) (worked old (Some m))
goes wants m new o told status w old e same shows =
    subst (λ (x : Outcome). IsStep wants m (Some x) status (worked w (Some new)) (worked old (Some m))) e (inl (record { status = same; reply = shows; mount = refl }))

-- a flush that was done is told
pub flushes : (count : ℕ) (new : State) (o : Outcome) (told : Reply) (status : ℤ) (w old : ReplyWords) (m : State)
    → gives told new ≡ o → status ≡ flush_status count told → Shows told w → IsFlush count (Some o) status (worked w (Some new)) (worked old (Some m))
flushes count new o told status w old m e same shows =
    subst (λ (x : Outcome). IsFlush count (Some x) status (worked w (Some new)) (worked old (Some m))) e (record { status = same; reply = shows; mount = refl })

-- the flush of a job that waits, by answers to as many writes as its plan has
pub due : (serial count written synced : ℕ) (m : State) → is_waiting (name_in Flush serial m) m ≡ true → count ≡ length (flush_plan m)
    → flush_of serial count written synced m ≡ Some (flush [] (home_answers (length (flush_plan m)) written synced) m)
due serial count written synced m waits same =
    ap (λ b. cond b (flush_by count written synced (flush_plan m) m) None) waits
    ∙ ap (λ b. cond b (Some (flush [] (home_answers (length (flush_plan m)) written synced) m)) None) (eq-eqb count (length (flush_plan m)) same)

-- the flush of a job that waits, of blocks that are all whole within a device
pub due_into : (serial bytes : ℕ) (m : State) → is_waiting (name_in Flush serial m) m ≡ true → lie_below (bytes / m.form.size) (flush_plan m) ≡ true
    → flush_into serial bytes m ≡ Some (flush [] (home_answers (length (flush_plan m)) 255 1) m)
due_into serial bytes m waits within =
    ap (λ b. cond (b && lie_below (bytes / m.form.size) (flush_plan m)) (Some (flush [] (home_answers (length (flush_plan m)) 255 1) m)) None) waits
    ∙ ap (λ b. cond b (Some (flush [] (home_answers (length (flush_plan m)) 255 1) m)) None) within

-- a step of a mount is one of the handle that holds it
pub moved : (wants : Reply → Bool) (step : State → Option Outcome) (old new : Option State) (m m' : State) (status : ℤ) (w w' : ReplyWords)
    → old ≡ Some m → new ≡ Some m' → IsWorked wants step (Some m) status (worked w' (Some m')) (worked w (Some m)) → IsWorked wants step old status (worked w' new) (worked w old)
moved wants step old new m m' status w w' e f x =
    subst (λ (o : Option State). IsWorked wants step o status (worked w' new) (worked w o)) (sym e)
    (subst (λ (n : Option State). IsWorked wants step (Some m) status (worked w' n) (worked w (Some m))) (sym f) x)

-- what a flush does to a mount it does to the handle that holds it
pub flushed_behind : (serial count written synced : ℕ) (old new : Option State) (m m' : State) (status : ℤ) (w w' : ReplyWords)
    → old ≡ Some m → new ≡ Some m' → IsFlushed serial count written synced (Some m) status (worked w' (Some m')) (worked w (Some m))
    → IsFlushed serial count written synced old status (worked w' new) (worked w old)
flushed_behind serial count written synced old new m m' status w w' e f x =
    subst (λ (o : Option State). IsFlushed serial count written synced o status (worked w' new) (worked w o)) (sym e)
    (subst (λ (n : Option State). IsFlushed serial count written synced (Some m) status (worked w' n) (worked w (Some m))) (sym f) x)
