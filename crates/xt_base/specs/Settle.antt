-- What blocks leave behind when they stop being busy.
use Rattle.std.specs.Prelude.{List, filter, if◌then◌else◌, is_none, not, reverse, take, ℕ, ◌&&◌, ◌++◌}
use Rattle.xt_base.specs.Maps.{has}
use Rattle.xt_base.specs.Space.{is_busy}
use Rattle.xt_base.specs.State.{State}
use Rattle.xt_base.specs.declared.sizes.TheConstants.{IDLE_BLOCKS}

-- blocks whose settle found no memory
abbrev pub Dropped : Type 0
Dropped = List ℕ

-- committed contents of blocks that are no longer busy, but for the dropped ones
abbrev pub leaving : Dropped → State → List (ℕ × List ℕ)
leaving dropped s = filter (λ e. not (is_busy s e.0) && not (has dropped e.0)) s.frames.committed

-- the idle list with these before it, the greatest block first, cut where it is full
abbrev pub rested : List (ℕ × List ℕ) → List (ℕ × List ℕ) → List (ℕ × List ℕ)
rested more idle = take IDLE_BLOCKS (reverse more ++ idle)

-- what is no longer busy leaves the frames; on a live mount its content goes to the front of the idle list
abbrev pub settled : Dropped → State → State
settled dropped s = record s {
  frames = record {
    committed = filter (λ e. is_busy s e.0) s.frames.committed;
    fresh = filter (is_busy s) s.frames.fresh;
    idle = if is_none s.shut then rested (leaving dropped s) s.frames.idle else s.frames.idle;
  };
}
