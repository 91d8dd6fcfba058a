-- What a session holds, and what a line makes of it.
use Rattle.std.specs.Prelude.{Bool, List, None, Option, Some, [], if◌then◌else◌, true, ℕ, ◌&&◌, ◌∷◌}
use Rattle.xt_base.specs.Isolation.{is_no_memory}
use Rattle.xt_base.specs.declared.steps.Reply.{Reply}
use Rattle.xt_base.specs.declared.steps.Reply.TheVariants.{Aborted, CommittedHeld, Okay, OkayHeld}
use Rattle.xt_base.specs.declared.steps.Request.{Request}
use Rattle.xt_base.specs.declared.steps.Request.TheVariants.{Cancel, Commit, Join, Release}
use Rattle.xt_cell.specs.declared.mount_ref.MountRef.{MountRef}
use Rattle.xt_service.specs.Names.{has, named, with_blocks, with_name, without}
use Rattle.xt_service.specs.declared.effect.Effect.{Effect}
use Rattle.xt_service.specs.declared.effect.Effect.TheVariants.{Ends, Joins, Leaves, Releases}
use Rattle.xt_service.specs.declared.names.Name.{Name}

-- ---- what a request names
-- the transaction that a request names, if it names one
abbrev pub trans_of : Request → Option ℕ
trans_of (Request.Get t b) = Some t
trans_of (Request.Read t b) = Some t
trans_of (Request.View t b) = Some t
trans_of (Request.Log first t b bytes) = Some t
trans_of (Request.Hold t b) = Some t
trans_of (Request.Unhold t b) = Some t
trans_of (Request.Relse t b) = Some t
trans_of (Join t b) = Some t
trans_of (Request.Inval t b) = Some t
trans_of (Commit t) = Some t
trans_of (Request.Roll t) = Some t
trans_of (Cancel t) = Some t
trans_of other = None

-- the held buffer that a request names, if it names one
abbrev pub buffer_of : Request → Option ℕ
buffer_of (Join t b) = Some b
buffer_of (Release b) = Some b
buffer_of other = None

-- whether a name stands in a list, where there is one
abbrev pub has_named : MountRef → Option ℕ → List Name → Bool
has_named at None names = true
has_named at (Some number) names = has (named at number) names

-- whether a session with these transactions and held buffers holds all that a request names
abbrev pub holds : MountRef → Request → List Name → List Name → Bool
holds at request trans held = has_named at (trans_of request) trans && has_named at (buffer_of request) held

-- ---- what a line makes of it
-- what becomes of what a request names, once it is served
abbrev pub effect_of : Request → Effect
effect_of (Commit t) = Ends t
effect_of (Cancel t) = Ends t
effect_of (Join t b) = Joins b
effect_of (Release b) = Releases b
effect_of other = Leaves

-- the transactions without the one that was ended
abbrev pub trans_left : MountRef → Effect → List Name → List Name
trans_left at (Ends t) trans = without (named at t) trans
trans_left at other trans = trans

-- the transactions with the one that was opened
abbrev pub trans_more : MountRef → Reply → List Name → List Name
trans_more at (Reply.Trans t) trans = with_name (named at t) trans
trans_more at other trans = trans

-- the held buffers without the one that was released, or that a transaction took over
abbrev pub held_left : MountRef → Effect → Reply → List Name → List Name
held_left at (Releases b) reply held = without (named at b) held
held_left at (Joins b) Okay held = without (named at b) held
held_left at other reply held = held

-- the blocks that a reply says stay held
abbrev pub blocks_held : Reply → List ℕ
blocks_held (OkayHeld held) = held
blocks_held (CommittedHeld number held) = held
blocks_held (Aborted held) = held
blocks_held other = []

-- the transactions of a session after a request that was told this; ENOMEM changes nothing
abbrev pub trans_after : MountRef → Request → Reply → List Name → List Name
trans_after at request reply trans = if is_no_memory reply then trans else trans_more at reply (trans_left at (effect_of request) trans)

-- its held buffers then
abbrev pub held_after : MountRef → Request → Reply → List Name → List Name
held_after at request reply held = if is_no_memory reply then held else with_blocks at (blocks_held reply) (held_left at (effect_of request) reply held)

-- ---- what is given back
-- what a session gives back next: its first transaction is cancelled; where it has none its first held buffer is released
abbrev pub next_back : List Name → List Name → Option (MountRef × Request)
next_back (x ∷ xs) held = Some (x.at, Cancel x.number)
next_back [] (x ∷ xs) = Some (x.at, Release x.number)
next_back [] [] = None
