-- What one slot is: the values of its layers side by side.
use Rattle.std.specs.Prelude.{Bool, List, None, Option, [], false, ℕ, ◌≡◌}
use Rattle.xt_base.specs.Form.{Form}
use Rattle.xt_base.specs.declared.steps.Owner.{Owner}
use Rattle.xt_base.specs.declared.steps.Reason.{Reason}

-- what a leg did to one block: its bytes (none where it was invalidated), the chunks marked, and the chunks charged
pub record Change : Type 0 where
  pub edit : Option (List ℕ)
  pub marks : List ℕ
  pub charged : List ℕ

-- what a transaction did since it began or rolled: the blocks changed or invalidated, so it is dirty where there is one, and the set of blocks with the hold mark
pub record Leg : Type 0 where
  pub changes : List (ℕ × Change)
  pub holds : List ℕ

-- an open transaction; legs counts the present one, and is 0 after an aborted roll
pub record Transaction : Type 0 where
  pub unit : ℕ
  pub legs : ℕ
  pub perm : Bool
  pub leg : Leg

-- committed contents of busy blocks; the set of fresh ones; contents of idle ones, the most recent first
pub record Frames : Type 0 where
  pub committed : List (ℕ × List ℕ)
  pub fresh : List ℕ
  pub idle : List (ℕ × List ℕ)

-- a checkpoint that is being written, with the pieces of its text, formed at its begin
pub record Flight : Type 0 where
  pub number : ℕ
  pub items : List (ℕ × List ℕ)
  pub pieces : List (List ℕ)

-- the lists of items; an item is a block with its chunks, and a cancelled block with none
pub record Items : Type 0 where
  pub open_number : ℕ
  pub cil : List (ℕ × List ℕ)
  pub flight : Option Flight
  -- block to the number of its checkpoint
  pub ail : List (ℕ × ℕ)
  -- number of a landed checkpoint to its cost, from the least number on the active list on
  pub landed : List (ℕ × ℕ)

-- jobs asked for, jobs posted and not finished by their serials, and the last serial
pub record Jobs : Type 0 where
  pub asked_ckpt : Bool
  pub asked_flush : Bool
  pub ckpt : Option ℕ
  pub flush : Option ℕ
  pub last_serial : ℕ

-- one life of a slot
pub record State : Type 0 where
  pub slot : ℕ
  pub life : ℕ
  pub log_bytes : ℕ
  pub blocks : ℕ
  pub form : Form
  pub frames : Frames
  pub owners : List (ℕ × Owner)
  pub transactions : List (ℕ × Transaction)
  pub last_trans : ℕ
  pub items : Items
  pub jobs : Jobs
  -- whether new transactions are refused
  pub frozen : Bool
  pub shut : Option Reason

-- one slot: the last life given, what the board shows, and the mount if there is one
pub record Lone : Type 0 where
  pub last_life : ℕ
  pub seen_life : ℕ
  pub seen_reason : Option Reason
  pub mounted : Option State

-- a slot that was never mounted
abbrev pub empty : Lone
empty = record { last_life = 0; seen_life = 0; seen_reason = None; mounted = None }

-- a new mount
abbrev pub mount_of : ℕ → ℕ → ℕ → ℕ → Form → State
mount_of slot life log_bytes blocks form = record {
  slot = slot;
  life = life;
  log_bytes = log_bytes;
  blocks = blocks;
  form = form;
  frames = record { committed = []; fresh = []; idle = [] };
  owners = [];
  transactions = [];
  last_trans = 0;
  items = record { open_number = 1; cil = []; flight = None; ail = []; landed = [] };
  jobs = record { asked_ckpt = false; asked_flush = false; ckpt = None; flush = None; last_serial = 0 };
  frozen = false;
  shut = None;
}

-- two states that differ at most in their idle list and in the number of the next transaction
abbrev pub IsWithoutTrace : State → State → Type 0
IsWithoutTrace s u =
    record s { frames = record s.frames { idle = [] }; last_trans = 0 } ≡ record u { frames = record u.frames { idle = [] }; last_trans = 0 }
