-- One slot alone: any of its steps, and lists of them.
use Rattle.std.specs.Prelude.{Bool, List, None, Option, Some, [], false, if◌then◌else◌, is_some, nat_lt, not, true, ℕ, ◌&&◌, ◌+◌, ◌==◌, ◌||◌, ◌∷◌, ◌≡◌, ◌⊎◌}
use Rattle.xt_base.specs.Calls.{Outcome, alone_with, first_of, gives, is_unmount, log}
use Rattle.xt_base.specs.Form.{form_of, is_size}
use Rattle.xt_base.specs.Jobs.{begin, end, end_offers, flush, flush_offers, posted}
use Rattle.xt_base.specs.Settle.{Dropped}
use Rattle.xt_base.specs.State.{Lone, State, empty, mount_of}
use Rattle.xt_base.specs.Steps.{slot_of}
use Rattle.xt_base.specs.declared.sizes.TheConstants.{LEAST_LOG, MOST_BLOCKS, MOST_LOG}
use Rattle.xt_base.specs.declared.steps.Answer.{Answer}
use Rattle.xt_base.specs.declared.steps.Errno.{Errno}
use Rattle.xt_base.specs.declared.steps.Errno.TheVariants.{Busy, Invalid, NoDevice, NoMemory, NoSpace}
use Rattle.xt_base.specs.declared.steps.HomeOffer.{HomeOffer}
use Rattle.xt_base.specs.declared.steps.LogOffer.{LogOffer}
use Rattle.xt_base.specs.declared.steps.Reason.{Reason}
use Rattle.xt_base.specs.declared.steps.Reply.{Reply}
use Rattle.xt_base.specs.declared.steps.Reply.TheVariants.{Okay, Refused, Seen}
use Rattle.xt_base.specs.declared.steps.Request.{Request}
use Rattle.xt_base.specs.declared.steps.Step.{Step}
use Rattle.xt_base.specs.declared.steps.Step.TheVariants.{Begin, Call, End, Flush, Mount, Peek, Post, Show, Take}

-- what a step of a slot answers and leaves, and what it offered to the two devices
pub record Turn : Type 0 where
  pub reply : Reply
  pub slot : Lone
  pub log : List LogOffer
  pub home : List HomeOffer

-- a reply and a slot, with nothing offered
abbrev pub turn : Reply → Lone → Turn
turn r s = record { reply = r; slot = s; log = []; home = [] }

-- ---- mount
-- what refuses a mount
abbrev pub mount_refusals : ℕ → ℕ → Option ℕ → Lone → List (Bool × Errno)
mount_refusals log_bytes blocks size s =
    (is_some s.mounted, Busy)
    ∷ (nat_lt log_bytes LEAST_LOG || nat_lt MOST_LOG log_bytes || (blocks == 0) || nat_lt MOST_BLOCKS blocks || not (is_size size), Invalid)
    ∷ (s.last_life == 4294967295, NoSpace)
    ∷ []

-- the next life
abbrev pub mounted_new : ℕ → ℕ → ℕ → Option ℕ → Lone → Turn
mounted_new slot log_bytes blocks size s = turn (Reply.Life (s.last_life + 1)) (record s { last_life = s.last_life + 1; mounted = Some (mount_of slot (s.last_life + 1) log_bytes blocks (form_of size)) })

-- refused and unchanged, or else this
abbrev pub unless_refused : Option Errno → Lone → Turn → Turn
unless_refused None s t = t
unless_refused (Some e) s t = turn (Refused e) s

-- makes an empty mount
abbrev pub mount : ℕ → ℕ → ℕ → Option ℕ → Lone → Turn
mount slot log_bytes blocks size s = unless_refused (first_of (mount_refusals log_bytes blocks size s)) s (mounted_new slot log_bytes blocks size s)

-- ---- a call
-- whether a reply is ok
abbrev pub is_okay : Reply → Bool
is_okay Okay = true
is_okay other = false

-- the mount after a call, which is gone where it was unmounted
abbrev pub mount_after : Request → Outcome → Option State
mount_after request o = if is_unmount request && is_okay o.reply then None else Some o.state

-- the slot after a call
abbrev pub called : Request → Lone → Outcome → Turn
called request s o = turn o.reply (record s { mounted = mount_after request o })

-- an empty slot, another life, or the mount's own answer
abbrev pub call : Dropped → ℕ → Request → Answer → Lone → Option State → Turn
call dropped life request answer s None = turn (Refused NoDevice) s
call dropped life request answer s (Some m) = if m.life == life then called request s (alone_with dropped request answer m) else turn (Refused Errno.Stale) s

-- ---- jobs and the board
-- the slot with another state of its mount
abbrev pub with_mount : State → Lone → Lone
with_mount m s = record s { mounted = Some m }

-- a step of the mount; in an empty slot it does not fit, and gives anything
abbrev pub on_mount : Option State → Lone → (State → Turn) → Turn
on_mount None s f = turn Okay s
on_mount (Some m) s f = f m

-- the mount goes on, and this was offered
abbrev pub goes_on : Outcome → List LogOffer → List HomeOffer → Lone → Turn
goes_on o log home s = record { reply = o.reply; slot = with_mount o.state s; log = log; home = home }

-- the board shows what the mount is
abbrev pub shown : Option State → Lone → Lone
shown None s = s
shown (Some m) s = record s { seen_life = m.life; seen_reason = m.shut }

-- ---- any step; the blocks in dropped found no memory when they settled
abbrev pub step_with : Dropped → Step → Lone → Turn
step_with dropped (Mount slot log_bytes blocks size) s = mount slot log_bytes blocks size s
step_with dropped (Call slot life request answer) s = call dropped life request answer s s.mounted
step_with dropped (Post name) s = on_mount s.mounted s (λ m. turn Okay (with_mount (posted name.kind m) s))
step_with dropped (Take worker name) s = turn Okay s
step_with dropped (Begin worker name) s = on_mount s.mounted s (λ m. goes_on (begin m) [] [] s)
step_with dropped (End worker name answers) s = on_mount s.mounted s (λ m. goes_on (end dropped answers m) (end_offers answers m) [] s)
step_with dropped (Flush worker name answers) s = on_mount s.mounted s (λ m. goes_on (flush dropped answers m) [] (flush_offers answers m) s)
step_with dropped (Show slot) s = turn Okay (shown s.mounted s)
step_with dropped (Peek slot) s = turn (Seen s.seen_life s.seen_reason) s

-- a step with ample memory
abbrev pub alone : Step → Lone → Turn
alone step s = step_with [] step s

-- ---- lists of steps
-- the slot after these steps
abbrev pub after : List Step → Lone → Lone
after [] s = s
after (x ∷ xs) s = after xs (alone x s).slot

-- why a slot is shut
abbrev pub reason_of : Option State → Option Reason
reason_of None = None
reason_of (Some m) = m.shut

-- what one step of a slot offered to the two devices
pub record Offered : Type 0 where
  pub slot : ℕ
  pub log : List LogOffer
  pub home : List HomeOffer

-- what one step said: its slot, its reply, and what it offered to the two devices
pub record Said : Type 0 where
  pub slot : ℕ
  pub reply : Reply
  pub log : List LogOffer
  pub home : List HomeOffer

-- what a step said at its turn
abbrev pub said_of : Step → Turn → Said
said_of x t = record { slot = slot_of x; reply = t.reply; log = t.log; home = t.home }

-- the steps from a slot on
abbrev pub alone_from : List Step → Lone → List Said
alone_from [] s = []
alone_from (x ∷ xs) s = let t = alone x s in said_of x t ∷ alone_from xs t.slot

-- the steps from an empty slot on
abbrev pub alone_run : List Step → List Said
alone_run steps = alone_from steps empty

-- why the slot is shut after them, if it is
abbrev pub shut_after : List Step → Option Reason
shut_after steps = reason_of (after steps empty).mounted

-- ---- want of memory
-- whether a reply is a refusal
abbrev pub is_refusal : Reply → Bool
is_refusal (Refused e) = true
is_refusal other = false

-- whether a reply names blocks that stay held
abbrev pub names_held : Reply → Bool
names_held (Reply.OkayHeld held) = true
names_held (Reply.CommittedHeld number held) = true
names_held (Reply.Aborted held) = true
names_held other = false

-- whether a reply carries the content of a block
abbrev pub carries_content : Reply → Bool
carries_content (Reply.Data content) = true
carries_content other = false

-- whether a begin found something to do
abbrev pub has_begun : Reply → Bool
has_begun (Reply.Begun number pieces) = true
has_begun other = false

-- whether a request may be answered ENOMEM where its own reply would be this: a transaction that is opened, a content that is copied, and the blocks that
-- a leg leaves held, an aborted one (EIO) too; no other request takes memory, and no other refusal does
abbrev pub may_want_memory : Request → Reply → Bool
may_want_memory (Request.Alloc unit count perm) reply = not (is_refusal reply)
may_want_memory (Request.Read t b) reply = not (is_refusal reply)
may_want_memory (Request.View t b) reply = not (is_refusal reply)
may_want_memory (Request.Log first t b bytes) reply = not (is_refusal reply)
may_want_memory (Request.Commit t) reply = names_held reply
may_want_memory (Request.Roll t) reply = names_held reply
may_want_memory (Request.Cancel t) reply = names_held reply
may_want_memory other reply = false

-- the same of a step: a mount, a call, a post, and a begin that finds something to do
abbrev pub step_may_want : Step → Reply → Bool
step_may_want (Mount slot log_bytes blocks size) reply = not (is_refusal reply)
step_may_want (Call slot life request answer) reply = may_want_memory request reply
step_may_want (Post name) reply = true
step_may_want (Begin worker name) reply = has_begun reply
step_may_want other reply = false

-- a call or a job took place, or it was refused memory, which it may want for its own reply, and nothing changed
abbrev pub IsCallUnlessMemory : (Reply → Bool) → Outcome → Reply → State → State → Type 0
IsCallUnlessMemory may_want outcome reply new old = (gives reply new ≡ outcome) ⊎ ((reply ≡ Refused NoMemory) × (new ≡ old) × (may_want outcome.reply ≡ true))
