-- Steps that offer nothing: all but the end of a checkpoint and a flush.
use Rattle.std.proofs.Common.{◌≡◌, ◌∙◌, Bool, List, None, Option, Some, [], ap, false, inl, inr, refl, subst, sym, true, true≢false, ℕ}
use Rattle.std.proofs.lemmas.Bool.{cases_Bool}
use Rattle.std.specs.Prelude.{if◌then◌else◌, ◌==◌}
use Rattle.xt_base.specs.Alone.{Said, Turn, alone, call, called, mounted_new, mount_refusals, on_mount, turn, unless_refused}
use Rattle.xt_base.specs.Calls.{alone_with, first_of}
use Rattle.xt_base.specs.Isolation.{is_no_memory}
use Rattle.xt_base.specs.State.{Lone, State}
use Rattle.xt_base.specs.Steps.{slot_of}
use Rattle.xt_base.specs.declared.steps.Answer.{Answer}
use Rattle.xt_base.specs.declared.steps.Errno.{Errno}
use Rattle.xt_base.specs.declared.steps.HomeOffer.{HomeOffer}
use Rattle.xt_base.specs.declared.steps.LogOffer.{LogOffer}
use Rattle.xt_base.specs.declared.steps.Reply.{Reply}
use Rattle.xt_base.specs.declared.steps.Reply.TheVariants.{Refused}
use Rattle.xt_base.specs.declared.steps.Request.{Request}
use Rattle.xt_base.specs.declared.steps.Step.{Step}
use Rattle.xt_base.specs.declared.steps.Step.TheVariants.{Begin, Call, End, Flush, Mount, Peek, Post, Show, Take}
use Rattle.xt_core.specs.Host.{Host, lone_of}
use Rattle.xt_core.specs.Runs.{is_offering, said_as}

-- nothing was offered
abbrev IsQuiet : Turn → Type 0
IsQuiet t = (t.log ≡ []) × (t.home ≡ [])

unless_quiet : (e : Option Errno) (s : Lone) (t : Turn) → IsQuiet t → IsQuiet (unless_refused e s t)
unless_quiet None s t is = is
unless_quiet (Some e) s t is = (refl, refl)

call_quiet : (life : ℕ) (request : Request) (answer : Answer) (s : Lone) (m : Option State) → IsQuiet (call [] life request answer s m)
call_quiet life request answer s None = (refl, refl)
call_quiet life request answer s (Some m) =
    let P : Bool → Type 0 = λ b. IsQuiet (if b then called request s (alone_with [] request answer m) else turn (Refused Errno.Stale) s) in
    elim (cases_Bool (m.life == life)) [
      | inl same ↦ subst P (sym same) (refl, refl)
      | inr other ↦ subst P (sym other) (refl, refl)
    ]

mount_quiet : (m : Option State) (s : Lone) (f : State → Turn) → ((n : State) → IsQuiet (f n)) → IsQuiet (on_mount m s f)
mount_quiet None s f is = (refl, refl)
mount_quiet (Some m) s f is = is m

-- a step that is no end of a checkpoint and no flush offers nothing
alone_quiet : (x : Step) (s : Lone) → is_offering x ≡ false → IsQuiet (alone x s)
alone_quiet (Mount slot log_bytes blocks size) s other = unless_quiet (first_of (mount_refusals log_bytes blocks size s)) s (mounted_new slot log_bytes blocks size s) (refl, refl)
alone_quiet (Call slot life request answer) s other = call_quiet life request answer s s.mounted
alone_quiet (Post name) s other = mount_quiet s.mounted s _ (λ m. (refl, refl))
alone_quiet (Take worker name) s other = (refl, refl)
alone_quiet (Begin worker name) s other = mount_quiet s.mounted s _ (λ m. (refl, refl))
alone_quiet (End worker name answers) s other = absurd (true≢false other)
alone_quiet (Flush worker name answers) s other = absurd (true≢false other)
alone_quiet (Show slot) s other = (refl, refl)
alone_quiet (Peek slot) s other = (refl, refl)

unless_none : {T : Type 0} (b : Bool) (xs : List T) → xs ≡ [] → (if b then [] else xs) ≡ []
unless_none true xs is = refl
unless_none false xs is = is

-- so its turn is its slot and its reply
pub said_quiet : (x : Step) (r : Reply) (host : Host) → is_offering x ≡ false → said_as x r host ≡ record { slot = slot_of x; reply = r; log = []; home = [] }
said_quiet x r host other =
    let s : Lone = lone_of host (slot_of x) in
    let is : IsQuiet (alone x s) = alone_quiet x s other in
    let with : List LogOffer → List HomeOffer → Said = λ log home. record { slot = slot_of x; reply = r; log = log; home = home } in
    ap (λ log. with log (if is_no_memory r then [] else (alone x s).home)) (unless_none (is_no_memory r) (alone x s).log is.0)
    ∙ ap (with []) (unless_none (is_no_memory r) (alone x s).home is.1)
