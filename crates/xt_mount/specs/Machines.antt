-- A machine, as the definitions have one life of a slot.
use Rattle.std.specs.Prelude.{◌≡◌}
use Rattle.xt_base.specs.State.{State}
use Rattle.xt_mount.specs.declared.machine.Machine.{Machine}

-- its parts, side by side
abbrev pub state_of : Machine → State
state_of m = record {
  slot = m.jobs.slot;
  life = m.jobs.life;
  log_bytes = m.accounts.log_bytes;
  blocks = m.blocks;
  form = m.accounts.form;
  frames = m.accounts.frames;
  owners = m.locks;
  transactions = m.accounts.transactions;
  last_trans = m.last_trans;
  items = m.accounts.items;
  jobs = m.jobs.jobs;
  frozen = m.frozen;
  shut = m.accounts.shut;
}

-- the mount is still of its slot, and of its life
pub record IsSameMount (new old : State) : Type 0 where
  pub slot : new.slot ≡ old.slot
  pub life : new.life ≡ old.life
