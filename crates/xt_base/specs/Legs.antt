-- The end of a leg, committed or given up.
use Rattle.std.specs.Prelude.{Bool, List, None, Option, Some, [], cond, filter, filter_map, if◌then◌else◌, is_none, is_some, length, not, unwrap_or, ℕ, ◌&&◌, ◌==◌, ◌∷◌}
use Rattle.xt_base.specs.Chunks.{union}
use Rattle.xt_base.specs.Maps.{at, has, is_in, put, with_member, without}
use Rattle.xt_base.specs.State.{Change, Leg, State}
use Rattle.xt_base.specs.declared.steps.Owner.{Owner}
use Rattle.xt_base.specs.declared.steps.Owner.TheVariants.{Held, Stale, Trans}

-- a leg that did nothing
abbrev pub clean_leg : Leg
clean_leg = record { changes = []; holds = [] }

-- whether a leg changed or invalidated a block
abbrev pub is_dirty : Leg → Bool
is_dirty leg = not (length leg.changes == 0)

-- what the leg did to a block, if anything
abbrev pub change_of : ℕ → Leg → Change
change_of b leg = unwrap_or (at b leg.changes) (record { edit = None; marks = []; charged = [] })

-- whether the leg invalidated a block
abbrev pub is_stale : ℕ → Leg → Bool
is_stale b leg = is_in b leg.changes && is_none (change_of b leg).edit

-- the recursion count of a block that a transaction owns
abbrev pub own_count : ℕ → Option Owner → Option ℕ
own_count t (Some (Trans u count)) = if u == t then Some count else None
own_count t other = None

-- whether an owner is the transaction
abbrev pub owned_by : ℕ → Owner → Bool
owned_by t o = is_some (own_count t (Some o))

-- ---- committed
abbrev pub with_edit : ℕ → Option (List ℕ) → List (ℕ × List ℕ) → List (ℕ × List ℕ)
with_edit b None m = without b m
with_edit b (Some content) m = put b content m

-- the committed contents, with the edits of a leg over them
abbrev pub with_edits : List (ℕ × Change) → List (ℕ × List ℕ) → List (ℕ × List ℕ)
with_edits [] m = m
with_edits (e ∷ es) m = with_edits es (with_edit e.0 e.1.edit m)

-- what stood in an item, and the marks of a change; a cancelled block has none
abbrev pub joined_marks : Option (List ℕ) → Change → List ℕ
joined_marks old change = cond (is_none change.edit) [] (union (unwrap_or old []) change.marks)

-- the committed item list, with the marks of a leg joined to those that stand there
abbrev pub with_marks : List (ℕ × Change) → List (ℕ × List ℕ) → List (ℕ × List ℕ)
with_marks [] m = m
with_marks (e ∷ es) m = with_marks es (put e.0 (joined_marks (at e.0 m) e.1) m)

-- who has a block after its leg was committed: an invalidated one waits for the open checkpoint, one with the hold mark is held, another is free
abbrev pub owner_after : ℕ → Leg → ℕ → ℕ × Owner → Option (ℕ × Owner)
owner_after t leg number e =
    if not (owned_by t e.1) then Some e
    else (if is_stale e.0 leg then Some (e.0, Stale number) else (if has leg.holds e.0 then Some (e.0, Held) else None))

-- a leg is committed; what it was granted and where it settles is not said here
abbrev pub ended : ℕ → Leg → State → State
ended t leg s = record s {
  frames = record s.frames { committed = with_edits leg.changes s.frames.committed };
  items = record s.items { cil = with_marks leg.changes s.items.cil };
  owners = filter_map (owner_after t leg s.items.open_number) s.owners;
}

-- ---- given up
-- who has a block after its leg was given up
abbrev pub owner_aborted : ℕ → Leg → ℕ × Owner → Option (ℕ × Owner)
owner_aborted t leg e = if not (owned_by t e.1) then Some e else (if has leg.holds e.0 then Some (e.0, Held) else None)

-- whether a leg changed a block that stays held
abbrev pub is_lost : Leg → ℕ → Bool
is_lost leg b = is_in b leg.changes && has leg.holds b

-- the fresh blocks, with the lost ones
abbrev pub with_lost : List (ℕ × Change) → Leg → List ℕ → List ℕ
with_lost [] leg fresh = fresh
with_lost (e ∷ es) leg fresh = with_lost es leg (if has leg.holds e.0 then with_member e.0 fresh else fresh)

-- a leg is given up: what it changed and holds is held as fresh, with no content
abbrev pub aborted : ℕ → Leg → State → State
aborted t leg s = record s {
  frames = record s.frames { committed = filter (λ e. not (is_lost leg e.0)) s.frames.committed; fresh = with_lost leg.changes leg s.frames.fresh };
  owners = filter_map (owner_aborted t leg) s.owners;
}
