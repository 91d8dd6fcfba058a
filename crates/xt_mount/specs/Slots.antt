-- A slot: the last life given, and the mount if there is one. What the board shows of it stands beside it.
use Rattle.std.specs.Prelude.{List, None, Option, Some, [], if◌then◌else◌, not, option_map, ℕ, true, ◌==◌, ◌≡◌, ◌⊎◌}
use Rattle.xt_base.specs.Alone.{alone, may_want_memory, step_may_want}
use Rattle.xt_base.specs.Calls.{alone_with}
use Rattle.xt_base.specs.Form.{Form, form_one}
use Rattle.xt_base.specs.Jobs.{flight_pieces, flush_plan, is_begun, is_waiting}
use Rattle.xt_base.specs.Order.{mount_is}
use Rattle.xt_base.specs.State.{Lone, State}
use Rattle.xt_base.specs.declared.names.JobKind.{JobKind}
use Rattle.xt_base.specs.declared.names.JobName.{JobName}
use Rattle.xt_base.specs.declared.steps.Answer.{Answer}
use Rattle.xt_base.specs.declared.steps.Errno.TheVariants.{NoDevice, NoMemory, Stale}
use Rattle.xt_base.specs.declared.steps.Reason.{Reason}
use Rattle.xt_base.specs.declared.steps.Reply.{Reply}
use Rattle.xt_base.specs.declared.steps.Reply.TheVariants.{Refused}
use Rattle.xt_base.specs.declared.steps.Request.{Request}
use Rattle.xt_base.specs.declared.steps.Step.{Step}
use Rattle.xt_frames.specs.Shares.{no_contents}
use Rattle.xt_frames.specs.declared.share.FrameShare.{FrameShare}
use Rattle.xt_mount.specs.Accounts.{IsUnchanged}
use Rattle.xt_mount.specs.Come.{owed_name, spent_log}
use Rattle.xt_mount.specs.declared.mount.Stage.{Stage}
use Rattle.xt_mount.specs.declared.mount.Stage.TheVariants.{Begun, Waiting}

-- a slot without its public reading
pub record SlotState : Type 0 where
  pub slot : ℕ
  pub last_life : ℕ
  pub mounted : Option State

-- a slot that was never mounted
abbrev pub unused : ℕ → SlotState
unused slot = record { slot = slot; last_life = 0; mounted = None }

-- the slot alone, where the board shows this of it
abbrev pub lone_with : ℕ → Option Reason → SlotState → Lone
lone_with life reason s = record { last_life = s.last_life; seen_life = life; seen_reason = reason; mounted = s.mounted }

-- a step was served: whatever the board shows of the slot, its reply and the slot that it leaves are those of the slot alone
pub record IsServed (x : Step) (r : Reply) (new old : SlotState) : Type 0 where
  pub slot : new.slot ≡ old.slot
  pub reply : (life : ℕ) (reason : Option Reason) → r ≡ (alone x (lone_with life reason old)).reply
  pub state : (life : ℕ) (reason : Option Reason) → lone_with life reason new ≡ (alone x (lone_with life reason old)).slot

-- a step was refused memory, which it may want for the slot's own reply, and nothing changed
pub record IsRefusedMemory (x : Step) (r : Reply) (new old : SlotState) : Type 0 where
  pub reply : r ≡ Refused NoMemory
  pub kept : new ≡ old
  pub want : (life : ℕ) (reason : Option Reason) → step_may_want x (alone x (lone_with life reason old)).reply ≡ true

-- the one or the other
abbrev pub IsServedUnlessMemory : Step → Reply → SlotState → SlotState → Type 0
IsServedUnlessMemory x r new old = IsServed x r new old ⊎ IsRefusedMemory x r new old

-- what a request to one life makes of a mount, before an unmount empties the slot
abbrev pub answered_in : ℕ → Request → Answer → Option State → Reply × Option State
answered_in life request answer None = (Refused NoDevice, None)
answered_in life request answer (Some m) = if m.life == life then (let o = alone_with [] request answer m in (o.reply, Some o.state)) else (Refused Stale, Some m)

-- the same, or it was refused memory, which it may want for that reply, and nothing changed
abbrev pub IsAnsweredUnlessMemory : ℕ → Request → Answer → Reply → Option State → Option State → Type 0
IsAnsweredUnlessMemory life request answer r new old =
    ((r, new) ≡ answered_in life request answer old) ⊎ ((r ≡ Refused NoMemory) × (new ≡ old) × (may_want_memory request (answered_in life request answer old).0 ≡ true))

-- ---- what the mount of a slot is asked; an empty slot has none of it
-- its life
abbrev pub life_in : Option State → Option ℕ
life_in o = option_map (λ m. m.life) o

-- its form; an empty slot has that of a mount with no size said
abbrev pub form_in : Option State → Form
form_in None = form_one
form_in (Some m) = m.form

-- the name of the next job of a kind, if it is owed
abbrev pub owed_in : JobKind → Option State → Option JobName
owed_in kind None = None
owed_in kind (Some m) = owed_name kind m

-- how far a job has come; none where it is of another slot
abbrev pub stage_in : JobName → SlotState → Option Stage
stage_in name s =
    if not (name.slot == s.slot) then None
    else (if mount_is (is_begun name) s.mounted then Some Begun else (if mount_is (is_waiting name) s.mounted then Some Waiting else None))

-- the pieces of the checkpoint in flight
abbrev pub pieces_in : Option State → List (List ℕ)
pieces_in None = []
pieces_in (Some m) = flight_pieces m.items.flight

-- the blocks that a flush writes home now
abbrev pub plan_in : Option State → List ℕ
plan_in None = []
plan_in (Some m) = flush_plan m

-- the committed contents of its busy blocks
abbrev pub contents_in : Option State → List (ℕ × List ℕ)
contents_in None = []
contents_in (Some m) = m.frames.committed

-- the size of its log, where the texts on it are of no use any more
abbrev pub spent_in : Option State → Option ℕ
spent_in None = None
spent_in (Some m) = spent_log m

-- no open transaction of its mount has changed a block
abbrev pub IsUnchangedIn : ℕ → Option State → Type 0
IsUnchangedIn b None = Unit {0}
IsUnchangedIn b (Some m) = IsUnchanged b m.transactions

-- ---- the frames of a slot
-- the share of the slot while no mount has it, without contents
abbrev pub spare_share : ℕ → Option State → Option FrameShare
spare_share slot None = Some (no_contents slot)
spare_share slot (Some m) = None

-- the share once the mount has gone, if there was one
abbrev pub share_left : Option State → Option FrameShare → Option FrameShare
share_left None share = share
share_left (Some m) share = Some (no_contents m.slot)
