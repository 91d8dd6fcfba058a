-- Runs of the host: what they told of each slot, beside what `Tells` and `BreaksAt` have.
use Rattle.std.specs.List.{slice_get}
use Rattle.std.specs.Prelude.{Bool, List, Some, [], false, if◌then◌else◌, take, true, ℕ, ◌<◌, ◌++◌, ◌∷◌, ◌≡◌}
use Rattle.xt_base.specs.Alone.{Said, alone, reason_of}
use Rattle.xt_base.specs.Isolation.{BreaksAt, Tells, Told, is_no_memory, is_refused, shut_in, told_then, turns_of}
use Rattle.xt_base.specs.Order.{orderly}
use Rattle.xt_base.specs.Steps.{slot_of, strike}
use Rattle.xt_base.specs.declared.outcomes.RunFault.{RunFault}
use Rattle.xt_base.specs.declared.outcomes.RunFault.TheVariants.{Disorder, Memory}
use Rattle.xt_base.specs.declared.sizes.TheConstants.{SLOTS}
use Rattle.xt_base.specs.declared.steps.Reply.{Reply}
use Rattle.xt_base.specs.declared.steps.Step.{Step}
use Rattle.xt_base.specs.declared.steps.Step.TheVariants.{End, Flush}
use Rattle.xt_core.specs.Host.{Host, IsNew, IsStepped, lone_of, may_come}

-- the steps of each slot that was not refused memory are orderly by themselves
abbrev pub AreStruckOrderly : List Step → Told → Type 0
AreStruckOrderly steps o = (m : ℕ) → is_refused m o ≡ false → orderly (strike steps m) ≡ true

-- two runs told a slot the same, replies and offers, and left it shut alike
pub record IsSameFor (m : ℕ) (o p : Told) : Type 0 where
  pub turns : turns_of m o.turns ≡ turns_of m p.turns
  pub shut : shut_in m o ≡ shut_in m p

-- every run of a slot's steps alone that meets no want of memory tells the slot the same
abbrev pub GivesSame : List Step → Told → Type 0
GivesSame steps o = (m : ℕ) (p : Told) → Tells (strike steps m) p → is_refused m o ≡ false → is_refused m p ≡ false → IsSameFor m o p

-- why a run stopped: at the first step that breaks order, with what was told before it, or for want of memory
abbrev pub IsFaultOf : List Step → RunFault → Type 0
IsFaultOf steps (Disorder at before) = BreaksAt at steps before
IsFaultOf steps Memory = Unit {0}

-- before the step that broke order each slot's steps were orderly by themselves, and a run of them alone tells the slot the same
abbrev pub IsStruckBefore : List Step → RunFault → Type 0
IsStruckBefore steps (Disorder at before) = AreStruckOrderly (take at steps) before × GivesSame (take at steps) before
IsStruckBefore steps Memory = Unit {0}

-- a run in which no slot was refused memory stops at a step only if the list is not orderly
abbrev pub IsNotOrderly : List Step → RunFault → Type 0
IsNotOrderly steps (Disorder at before) = ((m : ℕ) → is_refused m before ≡ false) → orderly steps ≡ false
IsNotOrderly steps Memory = Unit {0}

-- ---- one step of a run
-- a step was taken or answered ENOMEM, and this is its turn: what the slot alone offers, or nothing where it was answered ENOMEM
pub record IsSaid (x : Step) (t : Said) (new old : Host) : Type 0 where
  pub stepped : IsStepped x t.reply new old
  pub place : t.slot ≡ slot_of x
  pub log : t.log ≡ (if is_no_memory t.reply then [] else (alone x (lone_of old (slot_of x))).log)
  pub home : t.home ≡ (if is_no_memory t.reply then [] else (alone x (lone_of old (slot_of x))).home)

-- the turn of a step that is answered so: what its slot alone offers, or nothing where it is answered ENOMEM
abbrev pub said_as : Step → Reply → Host → Said
said_as x r host = record {
  slot = slot_of x;
  reply = r;
  log = if is_no_memory r then [] else (alone x (lone_of host (slot_of x))).log;
  home = if is_no_memory r then [] else (alone x (lone_of host (slot_of x))).home;
}

-- steps led to a host and told these turns, one after another: at first it was new, and each step was taken or answered ENOMEM
pub data IsToldBy : List Step → List Said → Host → Type 0 where
  none : (host : Host) → IsNew host → IsToldBy [] [] host
  more : (xs : List Step) (turns : List Said) (x : Step) (t : Said) (new old : Host) → IsToldBy xs turns old → slot_of x < SLOTS → IsSaid x t new old → IsToldBy (xs ++ x ∷ []) (turns ++ t ∷ []) new

-- what a run told are the turns of its steps, one after another, from a new host on
abbrev pub AreTurnsOf : List Step → Told → Type 0
AreTurnsOf steps o = (host : Host) × IsToldBy steps o.turns host

-- where a run stopped at a step, the steps before it led to a host that does not let it come
abbrev pub IsBarred : List Step → RunFault → Type 0
IsBarred steps (Disorder at before) = (host : Host) × (IsToldBy (take at steps) before.turns host × ((x : Step) → slice_get steps at ≡ Some x → may_come host x ≡ false))
IsBarred steps Memory = Unit {0}

-- whether a step offers something to a device, which its turn has a copy of: the end of a checkpoint, and a flush
abbrev pub is_offering : Step → Bool
is_offering (End worker name answers) = true
is_offering (Flush worker name answers) = true
is_offering other = false

-- whether a step is the end of a checkpoint
abbrev pub is_ending : Step → Bool
is_ending (End worker name answers) = true
is_ending other = false

-- its turn was told
abbrev pub IsMore : Step → Host → Host → Told → Told → Type 0
IsMore x new old told_new told_old = (t : Said) × (IsSaid x t new old × (told_new ≡ told_then told_old t (reason_of (lone_of new (slot_of x)).mounted)) × (slot_of x < SLOTS))
